-- The answers of the table, read off a history.
use Rattle.std.proofs.Common.{◌≡◌, refl, sym, ap, subst, ◌∙◌, ℕ, zero, suc, ◌+◌, ◌-◌, Bool, cond, List, [], ◌∷◌, map, arith, add-zero}
use Rattle.std.specs.Prelude.{◌==◌, ◌&&◌, not, nat_lt, nat_le, slice_get, Some, None}
use Rattle.std.specs.List.{enumerate_from}
use Rattle.op_amount.specs.Rates.{floor_mul}
use Rattle.op_incoming.specs.Rows.{row_is, is_open_at}
use Rattle.op_incoming.specs.declared.incoming.Incoming.{Incoming}
use Rattle.op_ledger.specs.Balances.{LedgerValue, available_in, asset_in}
use Rattle.op_model.specs.Balances.{available}
use Rattle.op_model.specs.History.{nth, numbered, address_asset}
use Rattle.op_model.specs.Payments.{PaymentMade, payments_made, payment_so_far, pieces_sent}
use Rattle.op_model.specs.Steps.{is_receiver_open, is_last, next_delivery, funding_step, sending_step, state_step, step_answer}
use Rattle.op_model.specs.declared.act.Account.TheVariants.{Pool, Wallet}
use Rattle.op_model.specs.declared.act.Entry.{Entry}
use Rattle.op_model.specs.declared.act.FailReason.TheVariants.{QuoteExpired, ReceiverClosed}
use Rattle.op_model.specs.declared.reply.Shortage.TheVariants.{NotFunded, NoLiquidity}
use Rattle.op_model.specs.declared.reply.StepAnswer.{StepAnswer}
use Rattle.op_model.specs.declared.reply.StepAnswer.TheVariants as answers
use Rattle.op_model.specs.declared.row.OutgoingRow.{OutgoingRow}
use Rattle.op_model.specs.declared.row.PaymentState.{PaymentState}
use Rattle.op_model.specs.declared.row.PaymentState.TheVariants as states
use Rattle.op_model.proofs.Payments.{sent_after-next}
use Rattle.op_outgoing.specs.Answers.{funding_answer, sending_answer, state_answer, row_answer}
use Rattle.op_outgoing.specs.Models.{StandAs, AnswersAreDefined}
use Rattle.op_outgoing.specs.Pieces.{next_sent, next_delivered}

-- ---- the row of a payment

pub record IsRowOf {A B : Type 0} (f : ℕ × A → B) (n : ℕ) (y : B) : Type 0 where
  pub made : A
  pub is : y ≡ f (n, made)

some_is : {B : Type 0} (x y : B) → Some x ≡ Some y → y ≡ x
some_is x y h = cc

row_from : {A B : Type 0} (f : ℕ × A → B) (b : ℕ) (xs : List A) (i : ℕ) (y : B) → slice_get (map f (enumerate_from b xs)) i ≡ Some y → IsRowOf f (b + i) y
row_from f b [] i y h = absurd (let no : None ≡ Some y = h in cc)
row_from f b (x ∷ xs) zero y h = record { made = x; is = some_is (f (b, x)) y h ∙ ap (λ n. f (n, x)) (sym (add-zero b)) }
row_from f b (x ∷ xs) (suc i) y h =
    let rest = row_from f (b + 1) xs i y h in
    let number : (b + 1) + i ≡ b + suc i = omega arith in
    record { made = rest.made; is = rest.is ∙ ap (λ n. f (n, rest.made)) number }

pub row_at : {A B : Type 0} (f : ℕ × A → B) (xs : List A) (n : ℕ) (y : B) → nth (map f (numbered xs)) n ≡ Some y → IsRowOf f n y
row_at f xs zero y h = absurd (let no : None ≡ Some y = h in cc)
row_at f xs (suc i) y h =
    let row = row_from f 1 xs i y h in
    let number : 1 + i ≡ suc i = omega arith in
    record { made = row.made; is = row.is ∙ ap (λ n. f (n, row.made)) number }

-- ---- the answers, from what they look at

funding_by : (late : Bool) (there debit : ℕ) → StepAnswer
funding_by late there debit = cond late (answers.Failed QuoteExpired) (cond (nat_lt there debit) (answers.Waiting (NotFunded there debit)) answers.Funded)

sending_by : (may one : Bool) (there need : ℕ) (all : Bool) → StepAnswer
sending_by may one there need all =
    cond (not may) (answers.Failed ReceiverClosed) (cond (not one && nat_lt there need) (answers.Waiting (NoLiquidity there need)) (cond all answers.Completed answers.Sent))

same_sending : (may may' one one' : Bool) (there there' need need' : ℕ) (all all' : Bool) → may ≡ may' → one ≡ one' → there ≡ there' → need ≡ need' → all ≡ all' → sending_by may one there need all ≡ sending_by may' one' there' need' all'
same_sending may may' one one' there there' need need' all all' e f g h i = cc

answer_of_sending : (ledger : LedgerValue) (incomings : List Incoming) (row : OutgoingRow) (t : ℕ) → sending_answer ledger incomings row t ≡ sending_by (row_is (is_open_at t) incomings row.terms.incoming) (asset_in ledger (Wallet row.terms.payer) == asset_in ledger (Wallet row.terms.payee)) (available_in ledger (Pool (asset_in ledger (Wallet row.terms.payee)))) (next_delivered row - row.delivered) (next_sent row == row.terms.source)
unfolding sending_by
answer_of_sending ledger incomings row t = refl

step_of_sending : (history : List Entry) (row : OutgoingRow) (n t : ℕ) → sending_step history row n t ≡ sending_by (is_receiver_open history row t) (address_asset history row.terms.payer == address_asset history row.terms.payee) (available history (Pool (address_asset history row.terms.payee))) (next_delivery row.terms n) (is_last row.terms n)
unfolding sending_by
step_of_sending history row n t = refl

funding_same : (history : List Entry) (ledger : LedgerValue) (row : OutgoingRow) (t : ℕ) → available_in ledger (Wallet row.terms.payer) ≡ available history (Wallet row.terms.payer) → funding_answer ledger row t ≡ funding_step history row t
unfolding funding_by
funding_same history ledger row t same = ap (λ there. funding_by (nat_le row.expiry t) there row.terms.debit) same

sending_same : (history : List Entry) (ledger : LedgerValue) (incomings : List Incoming) (p t : ℕ) (made : PaymentMade) → StandAs history t (payment_so_far history (p, made)) ledger incomings → sending_answer ledger incomings (payment_so_far history (p, made)) t ≡ sending_step history (payment_so_far history (p, made)) (pieces_sent history p) t
sending_same history ledger incomings p t made stand =
    let row = payment_so_far history (p, made) in
    let terms = made.terms in
    let n = pieces_sent history p in
    let sent = sent_after-next terms n in
    let more = ap (λ s. floor_mul s terms.num terms.den) (sym sent) in
    let payee = stand.payee_asset in
    let assets = ap (λ source. source == asset_in ledger (Wallet row.terms.payee)) stand.payer_asset ∙ ap (λ target. address_asset history row.terms.payer == target) payee in
    let there = ap (λ target. available_in ledger (Pool target)) payee ∙ stand.pool in
    let need = ap (λ d. d - row.delivered) more in
    let all = ap (λ s. s == terms.source) (sym sent) in
    answer_of_sending ledger incomings row t ∙ same_sending _ _ _ _ _ _ _ _ _ _ stand.receiver assets there need all ∙ sym (step_of_sending history row n t)

state_same : (state : PaymentState) (history : List Entry) (ledger : LedgerValue) (incomings : List Incoming) (p t : ℕ) (made : PaymentMade) → StandAs history t (payment_so_far history (p, made)) ledger incomings → state_answer ledger incomings (payment_so_far history (p, made)) t state ≡ state_step history p (payment_so_far history (p, made)) t state
state_same states.Funding history ledger incomings p t made stand = funding_same history ledger (payment_so_far history (p, made)) t stand.payer
state_same states.Sending history ledger incomings p t made stand = sending_same history ledger incomings p t made stand
state_same states.Completed history ledger incomings p t made stand = refl
state_same states.Failed history ledger incomings p t made stand = refl

made_same : (history : List Entry) (ledger : LedgerValue) (incomings : List Incoming) (p k t : ℕ) (made : PaymentMade) → StandAs history t (payment_so_far history (p, made)) ledger incomings → row_answer ledger incomings k t (payment_so_far history (p, made)) ≡ step_answer history p (payment_so_far history (p, made)) k t
made_same history ledger incomings p k t made stand =
    let row = payment_so_far history (p, made) in
    ap (λ answer. cond (k == row.step) answer (answers.Stale row.step)) (state_same row.state history ledger incomings p t made stand)

pub answers_are_defined : AnswersAreDefined
answers_are_defined = λ history ledger incomings p k t row found stand.
    let at = row_at (payment_so_far history) (payments_made history) p row found in
    subst (λ r. row_answer ledger incomings k t r ≡ step_answer history p r k t) (sym at.is)
    (made_same history ledger incomings p k t at.made (subst (λ r. StandAs history t r ledger incomings) at.is stand))
