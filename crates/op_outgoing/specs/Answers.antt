-- What a step is answered: the table of steps, on a payment, the ledger and the incoming payments as they are. The
-- states and the table are this project's own.
use Rattle.std.specs.Prelude.{ℕ, Bool, not, ◌-◌, ◌&&◌, ◌==◌, nat_lt, nat_le, if◌then◌else◌, List}
use Rattle.op_incoming.specs.Rows.{row_is, is_open_at}
use Rattle.op_incoming.specs.declared.incoming.Incoming.{Incoming}
use Rattle.op_ledger.specs.Balances.{LedgerValue, available_in, asset_in}
use Rattle.op_model.specs.declared.act.Account.TheVariants.{Pool, Wallet}
use Rattle.op_model.specs.declared.act.FailReason.TheVariants.{QuoteExpired, ReceiverClosed}
use Rattle.op_model.specs.declared.reply.Shortage.TheVariants.{NotFunded, NoLiquidity}
use Rattle.op_model.specs.declared.reply.StepAnswer.{StepAnswer}
use Rattle.op_model.specs.declared.reply.StepAnswer.TheVariants as answers
use Rattle.op_model.specs.declared.row.OutgoingRow.{OutgoingRow}
use Rattle.op_model.specs.declared.row.PaymentState.{PaymentState}
use Rattle.op_model.specs.declared.row.PaymentState.TheVariants as states
use Rattle.op_outgoing.specs.Pieces.{next_sent, next_delivered}

-- a payment that waits for its debit
abbrev pub funding_answer : LedgerValue → OutgoingRow → ℕ → StepAnswer
funding_answer ledger row t =
    let there = available_in ledger (Wallet row.terms.payer) in
    if nat_le row.expiry t then answers.Failed QuoteExpired
    else (if nat_lt there row.terms.debit then answers.Waiting (NotFunded there row.terms.debit) else answers.Funded)

-- payer and payee have one asset
abbrev pub is_within_one_asset : LedgerValue → OutgoingRow → Bool
is_within_one_asset ledger row = asset_in ledger (Wallet row.terms.payer) == asset_in ledger (Wallet row.terms.payee)

-- a payment that sends
abbrev pub sending_answer : LedgerValue → List Incoming → OutgoingRow → ℕ → StepAnswer
sending_answer ledger incomings row t =
    let there = available_in ledger (Pool (asset_in ledger (Wallet row.terms.payee))) in
    let need = next_delivered row - row.delivered in
    if not (row_is (is_open_at t) incomings row.terms.incoming) then answers.Failed ReceiverClosed
    else (if not (is_within_one_asset ledger row) && nat_lt there need then answers.Waiting (NoLiquidity there need)
    else (if next_sent row == row.terms.source then answers.Completed else answers.Sent))

abbrev pub state_answer : LedgerValue → List Incoming → OutgoingRow → ℕ → PaymentState → StepAnswer
state_answer ledger incomings row t states.Funding = funding_answer ledger row t
state_answer ledger incomings row t states.Sending = sending_answer ledger incomings row t
state_answer ledger incomings row t states.Completed = answers.Ended
state_answer ledger incomings row t states.Failed = answers.Ended

-- the answer to step k at t
abbrev pub row_answer : LedgerValue → List Incoming → (k t : ℕ) → OutgoingRow → StepAnswer
row_answer ledger incomings k t row =
    if k == row.step then state_answer ledger incomings row t row.state else answers.Stale row.step
