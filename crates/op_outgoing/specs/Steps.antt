-- What an answer makes of the payment, of the ledger and of the incoming payments.
use Rattle.std.specs.Prelude.{ℕ, ◌+◌, ◌-◌, Bool, true, false, if◌then◌else◌, List, Some}
use Rattle.op_incoming.specs.Rows.{paid}
use Rattle.op_incoming.specs.declared.incoming.Incoming.{Incoming}
use Rattle.op_ledger.specs.Balances.{LedgerValue, holding}
use Rattle.op_ledger.specs.Pieces.{with_piece}
use Rattle.op_model.specs.Payments.{is_sending, left_to_post, reason_number}
use Rattle.op_model.specs.declared.act.Account.TheVariants.{Wallet}
use Rattle.op_model.specs.declared.act.FailReason.{FailReason}
use Rattle.op_model.specs.declared.reply.StepAnswer.{StepAnswer}
use Rattle.op_model.specs.declared.reply.StepAnswer.TheVariants as answers
use Rattle.op_model.specs.declared.row.OutgoingRow.{OutgoingRow}
use Rattle.op_model.specs.declared.row.PaymentState.TheVariants as states
use Rattle.op_outgoing.specs.Pieces.{next_sent, next_fee, next_delivered, next_piece, next_state}

-- ---- the payment

abbrev pub funded_row : OutgoingRow → OutgoingRow
funded_row row = record row { state = states.Sending; step = row.step + 1 }

abbrev pub with_next_piece : OutgoingRow → OutgoingRow
with_next_piece row =
    record row { state = next_state row; step = row.step + 1; sent = next_sent row; fee = next_fee row; delivered = next_delivered row }

abbrev pub ended_as : FailReason → OutgoingRow → OutgoingRow
ended_as reason row = record row { state = states.Failed; step = row.step + 1; reason = reason_number (Some reason) }

abbrev pub stepped_row : StepAnswer → OutgoingRow → OutgoingRow
stepped_row answers.Funded row = funded_row row
stepped_row answers.Sent row = with_next_piece row
stepped_row answers.Completed row = with_next_piece row
stepped_row (answers.Failed reason) row = ended_as reason row
stepped_row (answers.Stale now) row = row
stepped_row answers.Ended row = row
stepped_row (answers.Waiting shortage) row = row

-- ---- the ledger

-- what has to be held for a payment: what is left of it to post, while it sends
abbrev pub to_hold : OutgoingRow → ℕ
to_hold row = if is_sending row.state then left_to_post row else 0

-- that is held no more
abbrev pub voided : LedgerValue → OutgoingRow → LedgerValue
voided ledger row = if is_sending row.state then holding ledger (Wallet row.terms.payer) (λ h. h - left_to_post row) else ledger

abbrev pub stepped_ledger : LedgerValue → StepAnswer → OutgoingRow → LedgerValue
stepped_ledger ledger answers.Funded row = holding ledger (Wallet row.terms.payer) (λ h. h + row.terms.debit)
stepped_ledger ledger answers.Sent row = with_piece ledger (next_piece row)
stepped_ledger ledger answers.Completed row = with_piece ledger (next_piece row)
stepped_ledger ledger (answers.Failed reason) row = voided ledger row
stepped_ledger ledger (answers.Stale now) row = ledger
stepped_ledger ledger answers.Ended row = ledger
stepped_ledger ledger (answers.Waiting shortage) row = ledger

-- ---- the incoming payments

abbrev pub stepped_incomings : List Incoming → StepAnswer → OutgoingRow → List Incoming
stepped_incomings incomings answers.Sent row = paid incomings row.terms.incoming (next_delivered row - row.delivered)
stepped_incomings incomings answers.Completed row = paid incomings row.terms.incoming (next_delivered row - row.delivered)
stepped_incomings incomings _ row = incomings

-- an answer that changes nothing
abbrev pub is_idle : StepAnswer → Bool
is_idle (answers.Stale now) = true
is_idle answers.Ended = true
is_idle (answers.Waiting shortage) = true
is_idle _ = false
