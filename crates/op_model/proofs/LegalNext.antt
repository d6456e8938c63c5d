-- A history is legal exactly where its beginning is and each entry behind it may follow.
use Rattle.std.proofs.Common.{◌↔◌, subst, sym, ℕ, List, [], ◌∷◌, ◌++◌, append_assoc, append-nil, Some, None, Option}
use Rattle.std.specs.Prelude.{MatchOption}
use Rattle.op_model.specs.History.{with_act}
use Rattle.op_model.specs.Legal.{IsLegal, IsLegalFrom, IsNext}
use Rattle.op_model.specs.declared.act.Act.{Act}
use Rattle.op_model.specs.declared.act.Entry.{Entry}

pub legal_from-split : (before xs ys : List Entry) → IsLegalFrom before (xs ++ ys) → IsLegalFrom before xs × IsLegalFrom (before ++ xs) ys
legal_from-split before [] ys legal = (tt, rw append-nil legal)
legal_from-split before (x ∷ xs) ys legal =
    let rest = legal_from-split (before ++ x ∷ []) xs ys legal.1 in
    ((legal.0, rest.0), subst (λ b. IsLegalFrom b ys) (append_assoc before (x ∷ []) xs) rest.1)

pub legal_from-joined : (before xs ys : List Entry) → IsLegalFrom before xs → IsLegalFrom (before ++ xs) ys → IsLegalFrom before (xs ++ ys)
legal_from-joined before [] ys first rest = subst (λ b. IsLegalFrom b ys) (append-nil before) rest
legal_from-joined before (x ∷ xs) ys first rest =
    (first.0, legal_from-joined (before ++ x ∷ []) xs ys first.1 (subst (λ b. IsLegalFrom b ys) (sym (append_assoc before (x ∷ []) xs)) rest))

-- every beginning of a legal history is legal
pub legal-front : (xs ys : List Entry) → IsLegal (xs ++ ys) → IsLegal xs
legal-front xs ys legal = (legal_from-split [] xs ys legal).0

pub legal-next : (history : List Entry) (e : Entry) → IsLegal (history ++ e ∷ []) ↔ (IsLegal history × IsNext history e)
legal-next history e = (
  λ legal. ((legal_from-split [] history (e ∷ []) legal).0, (legal_from-split [] history (e ∷ []) legal).1.0),
  λ both. legal_from-joined [] history (e ∷ []) both.0 (both.1, tt),
)

-- the act, where there is one, may follow the history
abbrev pub MayFollow : List Entry → ℕ → Option Act → Type 0
MayFollow history t act = MatchOption act (Unit {0}) (λ a. IsNext history (record { at = t; act = a }))

pub legal-with_act : (history : List Entry) (t : ℕ) (act : Option Act) → IsLegal history → MayFollow history t act → IsLegal (with_act history t act)
legal-with_act history t None legal follows = subst IsLegal (sym (append-nil history)) legal
legal-with_act history t (Some a) legal follows = (legal-next history (record { at = t; act = a })).1 (legal, follows)
