-- What an answer tells of the payment and the ledger.
use Rattle.std.proofs.Common.{◌≡◌, ℕ, ◌≤◌, Bool, true, false, cond, List, refl, ◌∙◌, sym, arith}
use Rattle.std.specs.Prelude.{◌==◌, not, nat_lt, nat_le}
use Rattle.std.proofs.lemmas.Bool.Decides.{nat_tests}
use Rattle.op_incoming.specs.Rows.{row_is, is_open_at}
use Rattle.op_incoming.specs.declared.incoming.Incoming.{Incoming}
use Rattle.op_ledger.specs.Balances.{LedgerValue, available_in, asset_in}
use Rattle.op_ledger.specs.Pieces.{lacks_liquidity}
use Rattle.op_model.specs.declared.act.Account.TheVariants.{Pool, Wallet}
use Rattle.op_model.specs.declared.act.FailReason.TheVariants.{QuoteExpired, ReceiverClosed}
use Rattle.op_model.specs.declared.reply.Shortage.TheVariants.{NotFunded}
use Rattle.op_model.specs.declared.reply.StepAnswer.{StepAnswer}
use Rattle.op_model.specs.declared.reply.StepAnswer.TheVariants as answers
use Rattle.op_model.specs.declared.row.OutgoingRow.{OutgoingRow}
use Rattle.op_model.specs.declared.row.PaymentState.{PaymentState}
use Rattle.op_model.specs.declared.row.PaymentState.TheVariants as states
use Rattle.op_outgoing.specs.Answers.{row_answer, state_answer, funding_answer, sending_answer}
use Rattle.op_outgoing.specs.Pieces.{next_sent, next_piece}

abbrev pub is_sent : StepAnswer → Bool
is_sent answers.Sent = true
is_sent answers.Completed = true
is_sent _ = false

abbrev pub is_funded : StepAnswer → Bool
is_funded answers.Funded = true
is_funded _ = false

-- a choice that passes a test took a side that passes it
pub took_then : (test : StepAnswer → Bool) (b : Bool) (x y : StepAnswer) → test y ≡ false → test (cond b x y) ≡ true → (b ≡ true) × (test x ≡ true)
took_then test true x y no_y h = (refl, h)
took_then test false x y no_y h = absurd (let e : true ≡ false = sym h ∙ no_y in cc)

pub took_else : (test : StepAnswer → Bool) (b : Bool) (x y : StepAnswer) → test x ≡ false → test (cond b x y) ≡ true → (b ≡ false) × (test y ≡ true)
took_else test true x y no_x h = absurd (let e : true ≡ false = sym h ∙ no_x in cc)
took_else test false x y no_x h = (refl, h)

never : (test : StepAnswer → Bool) (b : Bool) (x y : StepAnswer) → test x ≡ false → test y ≡ false → test (cond b x y) ≡ false
never test true x y h k = h
never test false x y h k = k

-- a payment that was sent on
pub record IsSending (v : LedgerValue) (row : OutgoingRow) : Type 0 where
  pub sending : row.state ≡ states.Sending
  pub liquid : lacks_liquidity v (next_piece row) ≡ false

sent_of_funding : (v : LedgerValue) (row : OutgoingRow) (t : ℕ) → is_sent (funding_answer v row t) ≡ false
sent_of_funding v row t =
    let there = available_in v (Wallet row.terms.payer) in
    never is_sent (nat_le row.expiry t) (answers.Failed QuoteExpired) (cond (nat_lt there row.terms.debit) (answers.Waiting (NotFunded there row.terms.debit)) answers.Funded) refl
    (never is_sent (nat_lt there row.terms.debit) (answers.Waiting (NotFunded there row.terms.debit)) answers.Funded refl refl)

sent_of_state : (v : LedgerValue) (incomings : List Incoming) (row : OutgoingRow) (t : ℕ) (state : PaymentState) → row.state ≡ state → is_sent (state_answer v incomings row t state) ≡ true → IsSending v row
sent_of_state v incomings row t states.Funding is h = absurd (let e : true ≡ false = sym h ∙ sent_of_funding v row t in cc)
sent_of_state v incomings row t states.Sending is h =
    let may = took_else is_sent (not (row_is (is_open_at t) incomings row.terms.incoming)) (answers.Failed ReceiverClosed) _ refl h in
    let liquid = took_else is_sent (lacks_liquidity v (next_piece row)) _ (cond (next_sent row == row.terms.source) answers.Completed answers.Sent) refl may.1 in
    record { sending = is; liquid = liquid.0 }
sent_of_state v incomings row t states.Completed is h = absurd (let e : false ≡ true = h in cc)
sent_of_state v incomings row t states.Failed is h = absurd (let e : false ≡ true = h in cc)

pub sent_means : (v : LedgerValue) (incomings : List Incoming) (k t : ℕ) (row : OutgoingRow) → is_sent (row_answer v incomings k t row) ≡ true → IsSending v row
sent_means v incomings k t row h =
    let now = took_then is_sent (k == row.step) (state_answer v incomings row t row.state) (answers.Stale row.step) refl h in
    sent_of_state v incomings row t row.state refl now.1

-- a payment that was funded
funded_of_funding : (v : LedgerValue) (row : OutgoingRow) (t : ℕ) → is_funded (funding_answer v row t) ≡ true → row.terms.debit ≤ available_in v (Wallet row.terms.payer)
funded_of_funding v row t h =
    let there = available_in v (Wallet row.terms.payer) in
    let early = took_else is_funded (nat_le row.expiry t) (answers.Failed QuoteExpired) (cond (nat_lt there row.terms.debit) (answers.Waiting (NotFunded there row.terms.debit)) answers.Funded) refl h in
    let enough = took_else is_funded (nat_lt there row.terms.debit) (answers.Waiting (NotFunded there row.terms.debit)) answers.Funded refl early.1 in
    let is = enough.0 in grind (arith, nat_tests)

pub record IsFunding (v : LedgerValue) (row : OutgoingRow) : Type 0 where
  pub funding : row.state ≡ states.Funding
  pub enough : row.terms.debit ≤ available_in v (Wallet row.terms.payer)

funded_of_sending : (v : LedgerValue) (incomings : List Incoming) (row : OutgoingRow) (t : ℕ) → is_funded (sending_answer v incomings row t) ≡ false
funded_of_sending v incomings row t =
    let there = available_in v (Pool (asset_in v (Wallet row.terms.payee))) in
    let all = cond (next_sent row == row.terms.source) answers.Completed answers.Sent in
    never is_funded (not (row_is (is_open_at t) incomings row.terms.incoming)) (answers.Failed ReceiverClosed) _ refl
    (never is_funded (lacks_liquidity v (next_piece row)) _ all refl (never is_funded (next_sent row == row.terms.source) answers.Completed answers.Sent refl refl))

funded_of_state : (v : LedgerValue) (incomings : List Incoming) (row : OutgoingRow) (t : ℕ) (state : PaymentState) → row.state ≡ state → is_funded (state_answer v incomings row t state) ≡ true → IsFunding v row
funded_of_state v incomings row t states.Funding is h = record { funding = is; enough = funded_of_funding v row t h }
funded_of_state v incomings row t states.Sending is h = absurd (let e : true ≡ false = sym h ∙ funded_of_sending v incomings row t in cc)
funded_of_state v incomings row t states.Completed is h = absurd (let e : false ≡ true = h in cc)
funded_of_state v incomings row t states.Failed is h = absurd (let e : false ≡ true = h in cc)

pub funded_means : (v : LedgerValue) (incomings : List Incoming) (k t : ℕ) (row : OutgoingRow) → is_funded (row_answer v incomings k t row) ≡ true → IsFunding v row
funded_means v incomings k t row h =
    let now = took_then is_funded (k == row.step) (state_answer v incomings row t row.state) (answers.Stale row.step) refl h in
    funded_of_state v incomings row t row.state refl now.1
