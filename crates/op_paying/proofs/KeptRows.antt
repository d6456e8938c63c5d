-- Rows of a history, as its money has them.
use Rattle.std.proofs.Common.{◌≡◌, ℕ, true, false, List, length, refl, ◌∙◌, sym, ap, Some, None, Option}
use Rattle.std.specs.Prelude.{is_some}
use Rattle.std.specs.Option.{option_map, option_map_or}
use Rattle.std.proofs.lemmas.List.{length-map}
use Rattle.std.proofs.lemmas.List.FromFn.{length-enumerate_from}
use Rattle.op_incoming.specs.Models.{IsAsDefined}
use Rattle.op_incoming.specs.Rows.{row_is, room_in, received_by, room_of, is_completed}
use Rattle.op_incoming.specs.declared.incoming.Incoming.{Incoming}
use Rattle.op_incoming.proofs.ModelLemmas.{payments_are_defined}
use Rattle.op_model.specs.History.{nth, numbered}
use Rattle.op_model.specs.Incoming as defined
use Rattle.op_model.specs.Payments.{incomings, incoming_row, quote_row, outgoing_row, payments_made, payment_so_far, received}
use Rattle.op_model.specs.declared.act.Entry.{Entry}
use Rattle.op_model.specs.declared.row.IncomingRow.{IncomingRow}
use Rattle.op_model.specs.declared.row.QuoteRow.{QuoteRow}
use Rattle.op_model.specs.declared.row.OutgoingRow.{OutgoingRow}
use Rattle.op_paying.specs.Money.{AreIncomings, IsMoneyOf}
use Rattle.op_paying.specs.declared.money.Money.{Money}
use Rattle.op_paying.proofs.StepReplies.{row_at, some_map}

pub incoming_found : (history : List Entry) (money : Money) (n : ℕ) → IsMoneyOf history money → option_map (λ x. x.row) (nth money.incomings n) ≡ incoming_row history n
incoming_found history money n is = sym (row_at history money.incomings n is.received)

pub quote_found : (history : List Entry) (money : Money) (n : ℕ) → IsMoneyOf history money → nth money.outgoings.quotes n ≡ quote_row history n
quote_found history money n is = ap (λ (l : List QuoteRow). nth l n) is.quotes_are

pub outgoing_found : (history : List Entry) (money : Money) (n : ℕ) → IsMoneyOf history money → nth money.outgoings.rows n ≡ outgoing_row history n
outgoing_found history money n is = ap (λ (l : List OutgoingRow). nth l n) is.payments_are

pub incomings_counted : (history : List Entry) (money : Money) → IsMoneyOf history money → length money.incomings ≡ length (incomings history)
incomings_counted history money is = sym (length-map money.incomings (λ (x : Incoming). x.row)) ∙ ap length is.received.rows_are

pub payments_counted : (history : List Entry) (money : Money) → IsMoneyOf history money → length money.outgoings.rows ≡ length (payments_made history)
payments_counted history money is =
    ap length is.payments_are
    ∙ length-map (numbered (payments_made history)) (payment_so_far history)
    ∙ length-enumerate_from 1 (payments_made history)

-- an incoming payment whose row was found is there
pub there : (rows : List Incoming) (n : ℕ) (row : IncomingRow) → option_map (λ x. x.row) (nth rows n) ≡ Some row → is_some (nth rows n) ≡ true
there rows n row found = sym (some_map (λ (x : Incoming). x.row) (nth rows n)) ∙ ap is_some found

-- what is told of a row, where it is missing
pub missing : {X : Type 0} (history : List Entry) (money : Money) (n : ℕ) (told : IncomingRow → X) (other : X) → IsMoneyOf history money → option_map (λ x. x.row) (nth money.incomings n) ≡ None → other ≡ option_map_or told (incoming_row history n) other
missing history money n told other is none =
    ap (λ (o : Option IncomingRow). option_map_or told o other) (sym none ∙ incoming_found history money n is)

-- what is told of a payment that is kept, where its row and what is defined of it agree
told_where : {X : Type 0} (history : List Entry) (rows : List Incoming) (n : ℕ) (kept : Incoming → X) (told : IncomingRow → X) (other : X) (found : Option Incoming) → ((x : Incoming) → nth rows n ≡ Some x → kept x ≡ told x.row) → nth rows n ≡ found
    → option_map_or kept found other ≡ option_map_or told (option_map (λ x. x.row) found) other
told_where history rows n kept told other None each at = refl
told_where history rows n kept told other (Some x) each at = each x at

told_of_row : {X : Type 0} (history : List Entry) (rows : List Incoming) (n : ℕ) (kept : Incoming → X) (told : IncomingRow → X) (other : X) → AreIncomings history rows → ((x : Incoming) → nth rows n ≡ Some x → kept x ≡ told x.row)
    → option_map_or kept (nth rows n) other ≡ option_map_or told (incoming_row history n) other
told_of_row history rows n kept told other are each =
    told_where history rows n kept told other (nth rows n) each refl ∙ ap (λ (o : Option IncomingRow). option_map_or told o other) (sym (row_at history rows n are))

as_defined : (history : List Entry) (rows : List Incoming) (n : ℕ) (x : Incoming) → AreIncomings history rows → nth rows n ≡ Some x → IsAsDefined history n 0 x
as_defined history rows n x are at = (payments_are_defined history rows are.rows_are are.each).each n 0 x at

pub completed_kept : (history : List Entry) (rows : List Incoming) (n : ℕ) → AreIncomings history rows → row_is is_completed rows n ≡ option_map_or (defined.is_completed history n) (incoming_row history n) false
completed_kept history rows n are =
    told_of_row history rows n is_completed (defined.is_completed history n) false are (λ x at. (as_defined history rows n x are at).completed)

pub room_kept : (history : List Entry) (rows : List Incoming) (n : ℕ) → AreIncomings history rows → room_in rows n ≡ option_map_or (defined.room_of history n) (incoming_row history n) 0
room_kept history rows n are =
    told_of_row history rows n room_of (defined.room_of history n) 0 are (λ x at. (as_defined history rows n x are at).room)

pub received_kept : (history : List Entry) (rows : List Incoming) (n : ℕ) → AreIncomings history rows → received_by rows n ≡ option_map_or (λ row. received history n) (incoming_row history n) 0
received_kept history rows n are =
    told_of_row history rows n (λ x. x.received) (λ row. received history n) 0 are (λ x at. (are.each n x at).received)
