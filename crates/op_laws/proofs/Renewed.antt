-- The rows of payments behind an entry: that of a step, as the history with the entry has it, and a fresh one.
use Rattle.std.proofs.Common.{◌≡◌, ℕ, ◌+◌, false, List, [], ◌∷◌, ◌++◌, length, refl, ◌∙◌, sym, subst, Some, None, Option}
use Rattle.std.specs.Option.{option_map}
use Rattle.std.proofs.lemmas.Bool.Decides.{nat_tests}
use Rattle.std.proofs.Common.{arith}
use Rattle.op_model.specs.Balances.{held}
use Rattle.op_model.specs.History.{nth, with_item}
use Rattle.op_model.specs.Payments.{PaymentMade, payments_made, payment_added, payment_so_far, outgoings, outgoing_row, is_step, pieces_sent, sent_after, fee_after, delivered_after}
use Rattle.op_model.specs.declared.act.Account.{Account}
use Rattle.op_model.specs.declared.act.Entry.{Entry}
use Rattle.op_model.specs.declared.row.OutgoingRow.{OutgoingRow}
use Rattle.op_model.proofs.OutgoingsNext.{IsStepOf, renewed, outgoings_renewed, outgoing_row_renewed, outgoings_made, fresh_payment}
use Rattle.op_model.proofs.SumsNext as sums
use Rattle.op_model.proofs.SumsNext.{held_by}
use Rattle.op_legal.proofs.Chains.{none_is_not, some_is}
use Rattle.op_laws.proofs.Known.{AreKnown, outgoing_is}
use Rattle.op_laws.proofs.Lists.{is_counted, nth_uncounted}

-- the entry takes a step of payment p, which is there, and none of another
pub record IsStepEntry (history : List Entry) (e : Entry) (p : ℕ) (row : OutgoingRow) : Type 0 where
  pub there : outgoing_row history p ≡ Some row
  pub steps : IsStepOf history e p

pub rows_step : (history : List Entry) (e : Entry) (p : ℕ) (row : OutgoingRow) → IsStepEntry history e p row → outgoings (history ++ e ∷ []) ≡ with_item (renewed (history ++ e ∷ []) p) (outgoings history) p
rows_step history e p row is = outgoings_renewed history e p is.steps

pub held_step : (history : List Entry) (e : Entry) (p : ℕ) (row : OutgoingRow) → IsStepEntry history e p row → (a : Account) → held (history ++ e ∷ []) a + held_by a row ≡ held history a + held_by a (renewed (history ++ e ∷ []) p row)
held_step history e p row is a = sums.held_step history (history ++ e ∷ []) a (renewed (history ++ e ∷ []) p) p row (rows_step history e p row is) is.there

pub row_step : (history : List Entry) (e : Entry) (p : ℕ) (row : OutgoingRow) → IsStepEntry history e p row → outgoing_row (history ++ e ∷ []) p ≡ Some (renewed (history ++ e ∷ []) p row)
row_step history e p row is = outgoing_row_renewed history e p row is.steps is.there

-- a row is as its history has it
pub record IsAsSent (history : List Entry) (p : ℕ) (row : OutgoingRow) : Type 0 where
  pub sent : row.sent ≡ sent_after row.terms (pieces_sent history p)
  pub fee : row.fee ≡ fee_after row.terms (pieces_sent history p)
  pub delivered : row.delivered ≡ delivered_after row.terms (pieces_sent history p)

sent_where : (history : List Entry) (p : ℕ) (found : Option PaymentMade) (row : OutgoingRow) → option_map (λ m. payment_so_far history (p, m)) found ≡ Some row → IsAsSent history p row
sent_where history p None row h = none_is_not row h
sent_where history p (Some m) row h = subst (IsAsSent history p) (some_is (payment_so_far history (p, m)) row h) (record { sent = refl; fee = refl; delivered = refl })

pub as_sent : (history : List Entry) (p : ℕ) (row : OutgoingRow) → outgoing_row history p ≡ Some row → IsAsSent history p row
as_sent history p row there = sent_where history p (nth (payments_made history) p) row (sym (outgoing_is history p) ∙ there)

-- ---- a payment that is made

uncounted : (n : ℕ) → is_counted (1 + n) n ≡ false
uncounted n = grind (arith, nat_tests)

pub made_rows : (history : List Entry) (e : Entry) (made : PaymentMade) → AreKnown history → payment_added history e.at e.act ≡ made ∷ [] → ((p : ℕ) → is_step p e.act ≡ false) → outgoings (history ++ e ∷ []) ≡ outgoings history ++ fresh_payment made ∷ []
made_rows history e made known adds none =
    outgoings_made history e made adds none
    (known.steps (1 + length (payments_made history)) (nth_uncounted (payments_made history) (1 + length (payments_made history)) (uncounted (length (payments_made history)))))

-- it holds nothing
pub made_held : (history : List Entry) (e : Entry) (made : PaymentMade) → AreKnown history → payment_added history e.at e.act ≡ made ∷ [] → ((p : ℕ) → is_step p e.act ≡ false) → (a : Account) → held (history ++ e ∷ []) a ≡ held history a
made_held history e made known adds none a = sums.held_made history (history ++ e ∷ []) a made (made_rows history e made known adds none)
