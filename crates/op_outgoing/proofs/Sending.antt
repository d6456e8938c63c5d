-- What a step of a payment that sends is answered.
use Rattle.std.proofs.Common.{◌≡◌, refl, ℕ, ◌-◌, Bool, true, false, cond, List, IsTrue}
use Rattle.std.specs.Prelude.{◌&&◌, ◌==◌, not}
use Rattle.op_incoming.specs.Rows.{row_is, is_open_at}
use Rattle.op_incoming.specs.declared.incoming.Incoming.{Incoming}
use Rattle.op_ledger.specs.Balances.{LedgerValue, is_there, available_in, asset_in}
use Rattle.op_ledger.specs.Pieces.{lacks_liquidity, with_piece}
use Rattle.op_model.specs.declared.act.Account.TheVariants.{Fees, Outside, Pool, Wallet}
use Rattle.op_model.specs.declared.reply.Shortage.TheVariants.{NoLiquidity}
use Rattle.op_model.specs.declared.reply.StepAnswer.{StepAnswer}
use Rattle.op_model.specs.declared.reply.StepAnswer.TheVariants as answers
use Rattle.op_model.specs.declared.row.OutgoingRow.{OutgoingRow}
use Rattle.op_outgoing.specs.Answers.{sending_answer}
use Rattle.op_outgoing.specs.Held.{are_accounts_there, is_wallet_there}
use Rattle.op_outgoing.specs.Pieces.{next_sent, next_delivered, next_piece}
use Rattle.op_outgoing.specs.Steps.{stepped_ledger, stepped_row, with_next_piece}

first_holds : (a b : Bool) → IsTrue (a && b) → IsTrue a
first_holds true b h = refl
first_holds false b h = h

second_holds : (a b : Bool) → IsTrue (a && b) → IsTrue b
second_holds true b h = h
second_holds false b h = absurd (let no : false ≡ true = h in cc)

fourth_holds : (a b c d more : Bool) → IsTrue ((a && (b && (c && d))) && more) → IsTrue d
fourth_holds a b c d more h =
    second_holds c d (second_holds b (c && d) (second_holds a (b && (c && d)) (first_holds (a && (b && (c && d))) more h)))

pub payer_there : (ledger : LedgerValue) (row : OutgoingRow) → IsTrue (are_accounts_there ledger row) → IsTrue (is_there ledger (Wallet row.terms.payer))
payer_there ledger row there =
    first_holds (is_there ledger (Wallet row.terms.payer)) _ (first_holds (is_wallet_there ledger row.terms.payer) (is_wallet_there ledger row.terms.payee) there)

pub fees_there : (ledger : LedgerValue) (row : OutgoingRow) → IsTrue (are_accounts_there ledger row) → IsTrue (is_there ledger (Fees (asset_in ledger (Wallet row.terms.payer))))
fees_there ledger row there =
    let asset = asset_in ledger (Wallet row.terms.payer) in
    fourth_holds (is_there ledger (Wallet row.terms.payer)) (is_there ledger (Outside asset)) (is_there ledger (Pool asset)) (is_there ledger (Fees asset)) (is_wallet_there ledger row.terms.payee) there

last_case : (may lacks : Bool) (a b c : StepAnswer) → may ≡ true → lacks ≡ false → cond (not may) a (cond lacks b c) ≡ c
last_case true false a b c may lacks = refl
last_case true true a b c may lacks = absurd (let no : true ≡ false = lacks in cc)
last_case false lacks a b c may is = absurd (let no : false ≡ true = may in cc)

middle_case : (may lacks : Bool) (a b c : StepAnswer) → may ≡ true → lacks ≡ true → cond (not may) a (cond lacks b c) ≡ b
middle_case true true a b c may lacks = refl
middle_case true false a b c may lacks = absurd (let no : false ≡ true = lacks in cc)
middle_case false lacks a b c may is = absurd (let no : false ≡ true = may in cc)

pub sending_goes : (ledger : LedgerValue) (incomings : List Incoming) (row : OutgoingRow) (t : ℕ) → row_is (is_open_at t) incomings row.terms.incoming ≡ true → lacks_liquidity ledger (next_piece row) ≡ false → sending_answer ledger incomings row t ≡ cond (next_sent row == row.terms.source) answers.Completed answers.Sent
sending_goes ledger incomings row t may lacks =
    last_case (row_is (is_open_at t) incomings row.terms.incoming) (lacks_liquidity ledger (next_piece row)) _ _ _ may lacks

pub sending_waits : (ledger : LedgerValue) (incomings : List Incoming) (row : OutgoingRow) (t : ℕ) → row_is (is_open_at t) incomings row.terms.incoming ≡ true → lacks_liquidity ledger (next_piece row) ≡ true → sending_answer ledger incomings row t ≡ answers.Waiting (NoLiquidity (available_in ledger (Pool (asset_in ledger (Wallet row.terms.payee)))) (next_delivered row - row.delivered))
sending_waits ledger incomings row t may lacks =
    middle_case (row_is (is_open_at t) incomings row.terms.incoming) (lacks_liquidity ledger (next_piece row)) _ _ _ may lacks

piece_step : (is : Bool) (ledger : LedgerValue) (row : OutgoingRow) → stepped_ledger ledger (cond is answers.Completed answers.Sent) row ≡ with_piece ledger (next_piece row)
piece_step true ledger row = refl
piece_step false ledger row = refl

pub sent_ledger : (ledger : LedgerValue) (row : OutgoingRow) (answer : StepAnswer) → answer ≡ cond (next_sent row == row.terms.source) answers.Completed answers.Sent → stepped_ledger ledger answer row ≡ with_piece ledger (next_piece row)
sent_ledger ledger row answer is = rw is (piece_step (next_sent row == row.terms.source) ledger row)

pub not_lacking : (lacks : Bool) → (IsTrue lacks → ⊥) → lacks ≡ false
not_lacking true never = absurd (never refl)
not_lacking false _ = refl

row_step : (is : Bool) (row : OutgoingRow) → stepped_row (cond is answers.Completed answers.Sent) row ≡ with_next_piece row
row_step true row = refl
row_step false row = refl

pub sent_row : (row : OutgoingRow) (answer : StepAnswer) → answer ≡ cond (next_sent row == row.terms.source) answers.Completed answers.Sent → stepped_row answer row ≡ with_next_piece row
sent_row row answer is = rw is (row_step (next_sent row == row.terms.source) row)
