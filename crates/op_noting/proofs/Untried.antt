-- In a legal history an event that is not there was not tried.
use Rattle.std.proofs.Common.{◌≡◌, ℕ, Bool, true, false, cond, List, [], ◌∷◌, ◌++◌, refl, sym, ap, ◌∙◌, Some, None, Option}
use Rattle.std.specs.Prelude.{◌==◌, is_some}
use Rattle.std.specs.Option.{option_to_list}
use Rattle.std.proofs.lemmas.Bool.{and_parts}
use Rattle.op_model.specs.Events.{Attempt, events, events_added, event_row, attempts, attempt_of}
use Rattle.op_model.specs.History.{nth}
use Rattle.op_model.specs.Legal.{IsLegal, IsNext, is_proper, is_outcome, asked_by}
use Rattle.op_model.specs.declared.act.Act.{Act}
use Rattle.op_model.specs.declared.act.Act.TheVariants.{Attempted}
use Rattle.op_model.specs.declared.act.Entry.{Entry}
use Rattle.op_model.specs.declared.row.EventRow.{EventRow}
use Rattle.op_legal.proofs.Induction.{legal_induction}
use Rattle.op_model.proofs.Next.{attempts-next, events-next}
use Rattle.op_model.proofs.Numbered.{nth-front, same_number}

-- ---- events

absent_before : (history : List Entry) (e : Entry) (n : ℕ) (found : Option EventRow) → event_row history n ≡ found → is_some (event_row (history ++ e ∷ []) n) ≡ false → is_some found ≡ false
absent_before history e n None at none = refl
absent_before history e n (Some row) at none =
    sym (ap is_some (ap (λ (l : List EventRow). nth l n) (events-next history e) ∙ nth-front (events history) (events_added history e) n row at)) ∙ none

not_this : (history : List Entry) (t n : ℕ) (act : Act) → is_proper history (asked_by history act) ≡ true → is_some (event_row history n) ≡ false → attempt_of n t act ≡ None
not_this history t n (Attempted event outcome) proper none = by_number (event == n) refl
  where
    by_number : (b : Bool) → (event == n) ≡ b → cond b (Some (record { at = t; outcome = outcome })) None ≡ (let o : Option Attempt = None in o)
    by_number true is = absurd (let there = (and_parts (is_some (event_row history event)) (is_outcome outcome) proper).0 in
        let e : true ≡ false = sym there ∙ ap (λ k. is_some (event_row history k)) (same_number event n is) ∙ none in cc)
    by_number false is = refl
not_this history t n _ proper none = refl

untried_next : (history : List Entry) (e : Entry) (n : ℕ) → IsNext history e → (is_some (event_row history n) ≡ false → attempts history n ≡ []) → is_some (event_row (history ++ e ∷ []) n) ≡ false → attempts (history ++ e ∷ []) n ≡ []
untried_next history e n next before none =
    let absent = absent_before history e n (event_row history n) refl none in
    attempts-next history e n
    ∙ ap (λ (l : List Attempt). l ++ option_to_list (attempt_of n e.at e.act)) (before absent)
    ∙ ap option_to_list (not_this history e.at n e.act next.proper absent)

pub absent_untried : (history : List Entry) (n : ℕ) → IsLegal history → is_some (event_row history n) ≡ false → attempts history n ≡ []
absent_untried history n legal =
    legal_induction (λ h. is_some (event_row h n) ≡ false → attempts h n ≡ []) (λ none. refl) (λ h e front next before none. untried_next h e n next before none) history legal
