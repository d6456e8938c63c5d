-- The history of the worked purchase, by computation: it is legal, and its audit is this text.
use Rattle.std.proofs.Common.{◌≡◌, refl, lit≤, List, [], ◌∷◌, codes, take, drop}
use Rattle.std.specs.Prelude.{fold}
use Rattle.std.specs.Fmt.{digits}
use Rattle.std.specs.Str.Lossy.{utf8_valid_len}
use Rattle.hex.proofs.OnLiterals.{hex_on_literals}
use Rattle.url.proofs.OnLiterals.{url_on_literals}
use Rattle.op_model.specs.Audit.{audited}
use Rattle.op_model.specs.Legal.{IsLegal}
use Rattle.op_model.specs.declared.act.Entry.{Entry}
use Rattle.op_model.proofs.Purchase.{purchase as worked}
use Rattle.op_model.proofs.LegalNext.{MayFollow, legal-with_act}
use Rattle.op_reply.proofs.WorkedPurchase.{Done, purchase, moment, outcome, after, history_after}

-- ---- tasks leave a legal history where each act may follow those before it

-- each of the tasks, done behind the history, one after another
abbrev AllFollow : List Entry → List Done → Type 0
AllFollow history [] = Unit {0}
AllFollow history (done ∷ rest) = MayFollow history (moment done.turn) (outcome history done).act × AllFollow (after history done) rest

legal-fold : (history : List Entry) (tasks : List Done) → IsLegal history → AllFollow history tasks → IsLegal (fold after history tasks)
legal-fold history [] legal follow = legal
legal-fold history (done ∷ rest) legal follow =
    legal-fold (after history done) rest (legal-with_act history (moment done.turn) (outcome history done).act legal follow.0) follow.1

-- a proof and those behind it, in a row
infixr 10 ◌and◌
◌and◌ : {A B : Type 0} → A → B → A × B
first and rest = (first, rest)

-- ---- the purchase

-- the provider sets up
legal_until_set_up : IsLegal (history_after 5)
unfolding url_on_literals utf8_valid_len
legal_until_set_up = legal-fold [] (take 5 purchase) tt (
    record { later = lit≤ tt; limit = lit≤ tt; proper = refl; fee = tt; act = refl }
    and record { later = lit≤ tt; limit = lit≤ tt; proper = refl; fee = tt; act = refl }
    and record { later = lit≤ tt; limit = lit≤ tt; proper = refl; fee = tt; act = refl }
    and record { later = lit≤ tt; limit = lit≤ tt; proper = refl; fee = tt; act = refl }
    and tt
    and tt)

-- the shop asks to be paid, and for a quote
legal_until_quoted : IsLegal (history_after 9)
unfolding hex_on_literals digits url_on_literals
legal_until_quoted = legal-fold (history_after 5) (take 4 (drop 5 purchase)) legal_until_set_up (
    record { later = lit≤ tt; limit = lit≤ tt; proper = refl; fee = tt; act = refl }
    and record { later = lit≤ tt; limit = lit≤ tt; proper = refl; fee = tt; act = refl }
    and record { later = lit≤ tt; limit = lit≤ tt; proper = refl; fee = tt; act = refl }
    and record { later = lit≤ tt; limit = lit≤ tt; proper = refl; fee = lit≤ tt; act = refl }
    and tt)

-- it asks for the right to spend
legal_until_granted : IsLegal (history_after 12)
unfolding hex_on_literals digits url_on_literals
legal_until_granted = legal-fold (history_after 9) (take 3 (drop 9 purchase)) legal_until_quoted (
    record { later = lit≤ tt; limit = lit≤ tt; proper = refl; fee = tt; act = refl }
    and record { later = lit≤ tt; limit = lit≤ tt; proper = refl; fee = tt; act = refl }
    and record { later = lit≤ tt; limit = lit≤ tt; proper = refl; fee = tt; act = refl }
    and tt)

-- it pays in two pieces
purchase_is_legal : IsLegal (history_after 19)
unfolding hex_on_literals digits
purchase_is_legal = legal-fold (history_after 12) (drop 12 purchase) legal_until_granted (
    record { later = lit≤ tt; limit = lit≤ tt; proper = refl; fee = tt; act = refl }
    and record { later = lit≤ tt; limit = lit≤ tt; proper = refl; fee = tt; act = refl }
    and tt
    and record { later = lit≤ tt; limit = lit≤ tt; proper = refl; fee = tt; act = refl }
    and tt
    and record { later = lit≤ tt; limit = lit≤ tt; proper = refl; fee = tt; act = refl }
    and tt
    and tt)

-- ---- its audit

audit_is : audited (history_after 19) ≡ codes "entries 15\nasset USD/2 total 10000 pool 0 fees 10 wallets 9990 held 0\npayments 1 ended 1\n"
unfolding hex_on_literals digits
audit_is = refl

-- it is the worked purchase of the model
is_the_purchase : history_after 19 ≡ worked
unfolding hex_on_literals digits url_on_literals utf8_valid_len
is_the_purchase = refl
