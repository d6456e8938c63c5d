-- Tasks that are no requests: the entry spells the task again.
use Rattle.std.proofs.Common.{◌≡◌, ℕ, ◌≤◌, Bool, true, false, cond, List, refl, sym, ap, subst, Some, None}
use Rattle.std.specs.Prelude.{◌==◌, not, ◌&&◌, nat_lt, nat_le, IsTrue, MatchOption}
use Rattle.std.specs.Option.{option_map_or}
use Rattle.std.specs.declared.option.Option.{Option}
use Rattle.op_model.specs.Answer.{answer, fee_asked, step_outcome, replied, noted_outcome}
use Rattle.op_model.specs.Steps.{step_answer, state_step, funding_step, sending_step, step_act, is_receiver_open, next_delivery, is_last, is_incoming_due}
use Rattle.op_model.specs.Balances.{available}
use Rattle.op_model.specs.Events.{is_event_due}
use Rattle.op_model.specs.History.{address_asset}
use Rattle.op_model.specs.Payments.{outgoing_row, pieces_sent}
use Rattle.op_model.specs.Legal.{asked_by, is_proper, word_of, fee_of}
use Rattle.op_model.specs.declared.act.Account.TheVariants.{Wallet, Pool}
use Rattle.op_model.specs.declared.act.Act.{Act}
use Rattle.op_model.specs.declared.act.Act.TheVariants as acts
use Rattle.op_model.specs.declared.act.Entry.{Entry}
use Rattle.op_model.specs.declared.act.FailReason.TheVariants.{QuoteExpired, ReceiverClosed, Cancelled}
use Rattle.op_model.specs.declared.row.OutgoingRow.{OutgoingRow}
use Rattle.op_model.specs.declared.row.PaymentState.{PaymentState}
use Rattle.op_model.specs.declared.row.PaymentState.TheVariants as states
use Rattle.op_model.specs.declared.reply.StepAnswer.{StepAnswer}
use Rattle.op_model.specs.declared.reply.StepAnswer.TheVariants.{Stale, Ended, Waiting, Funded, Sent, Completed, Failed}
use Rattle.op_model.specs.declared.reply.Shortage.TheVariants.{NotFunded, NoLiquidity}
use Rattle.op_model.specs.declared.reply.ReplyBody.TheVariants as bodies
use Rattle.op_model.specs.declared.request.Task.{Task}
use Rattle.op_model.specs.declared.request.Task.TheVariants.{Step, Expire, Attempt}
use Rattle.op_legal.proofs.Chains.{none_is_not, some_is}

-- the entry of an act spells a task that has this act again
pub record SpellsItself (history : List Entry) (t : ℕ) (act : Act) : Type 0 where
  pub proper : IsTrue (is_proper history (asked_by history act))
  pub fee : MatchOption (fee_asked history t (asked_by history act)) (Unit {0}) (λ asked. fee_of act ≤ asked.amount)
  pub again : (answer history t (word_of act) (fee_of act) (asked_by history act)).act ≡ Some act

-- where it spells this very task
pub spells : (history : List Entry) (t : ℕ) (task : Task) (act : Act) → asked_by history act ≡ task → IsTrue (is_proper history task)
    → MatchOption (fee_asked history t task) (Unit {0}) (λ asked. fee_of act ≤ asked.amount)
    → (answer history t (word_of act) (fee_of act) task).act ≡ Some act → SpellsItself history t act
spells history t task act is proper fee answered = record {
  proper = subst (λ (k : Task). IsTrue (is_proper history k)) (sym is) proper;
  fee = subst (λ (k : Task). MatchOption (fee_asked history t k) (Unit {0}) (λ asked. fee_of act ≤ asked.amount)) (sym is) fee;
  again = subst (λ (k : Task). (answer history t (word_of act) (fee_of act) k).act ≡ Some act) (sym is) answered;
}

-- ---- steps

abbrev is_cancelling : StepAnswer → Bool
is_cancelling (Failed Cancelled) = true
is_cancelling _ = false

either : (b : Bool) (x y : StepAnswer) → is_cancelling x ≡ false → is_cancelling y ≡ false → is_cancelling (cond b x y) ≡ false
either true x y h k = h
either false x y h k = k

funding_is : (history : List Entry) (row : OutgoingRow) (t : ℕ) → is_cancelling (funding_step history row t) ≡ false
funding_is history row t =
    let there = available history (Wallet row.terms.payer) in
    either (nat_le row.expiry t) (Failed QuoteExpired) (cond (nat_lt there row.terms.debit) (Waiting (NotFunded there row.terms.debit)) Funded) refl
    (either (nat_lt there row.terms.debit) (Waiting (NotFunded there row.terms.debit)) Funded refl refl)

sending_is : (history : List Entry) (row : OutgoingRow) (n t : ℕ) → is_cancelling (sending_step history row n t) ≡ false
sending_is history row n t =
    let source = address_asset history row.terms.payer in
    let target = address_asset history row.terms.payee in
    let there = available history (Pool target) in
    let need = next_delivery row.terms n in
    let short = not (source == target) && nat_lt there need in
    either (not (is_receiver_open history row t)) (Failed ReceiverClosed) (cond short (Waiting (NoLiquidity there need)) (cond (is_last row.terms n) Completed Sent)) refl
    (either short (Waiting (NoLiquidity there need)) (cond (is_last row.terms n) Completed Sent) refl
    (either (is_last row.terms n) Completed Sent refl refl))

state_is : (history : List Entry) (p : ℕ) (row : OutgoingRow) (t : ℕ) (state : PaymentState) → is_cancelling (state_step history p row t state) ≡ false
state_is history p row t states.Funding = funding_is history row t
state_is history p row t states.Sending = sending_is history row (pieces_sent history p) t
state_is history p row t states.Completed = refl
state_is history p row t states.Failed = refl

answer_is : (history : List Entry) (p : ℕ) (row : OutgoingRow) (k t : ℕ) → is_cancelling (step_answer history p row k t) ≡ false
answer_is history p row k t = either (k == row.step) (state_step history p row t row.state) (Stale row.step) (state_is history p row t row.state) refl

asked_step : (history : List Entry) (p k : ℕ) (answer : StepAnswer) (act : Act) → is_cancelling answer ≡ false → step_act p k answer ≡ Some act → asked_by history act ≡ Step p k
asked_step history p k Funded act h is = sym (ap (asked_by history) (some_is (acts.OutgoingFunded p k) act is))
asked_step history p k Sent act h is = sym (ap (asked_by history) (some_is (acts.OutgoingSent p k) act is))
asked_step history p k Completed act h is = sym (ap (asked_by history) (some_is (acts.OutgoingCompleted p k) act is))
asked_step history p k (Failed QuoteExpired) act h is = sym (ap (asked_by history) (some_is (acts.OutgoingFailed p k QuoteExpired) act is))
asked_step history p k (Failed ReceiverClosed) act h is = sym (ap (asked_by history) (some_is (acts.OutgoingFailed p k ReceiverClosed) act is))
asked_step history p k (Failed Cancelled) act h is = absurd (let e : true ≡ false = h in cc)
asked_step history p k (Stale now) act h is = none_is_not act is
asked_step history p k Ended act h is = none_is_not act is
asked_step history p k (Waiting shortage) act h is = none_is_not act is

step_of_row : (history : List Entry) (t p k : ℕ) (found : Option OutgoingRow) (act : Act) → (option_map_or (step_outcome history t p k) found (replied history bodies.NotDue None)).act ≡ Some act → asked_by history act ≡ Step p k
step_of_row history t p k None act is = none_is_not act is
step_of_row history t p k (Some row) act is = asked_step history p k (step_answer history p row k t) act (answer_is history p row k t) is

-- the answer of a step that acts
taken_of_row : (history : List Entry) (t p k : ℕ) (found : Option OutgoingRow) (act : Act) → (option_map_or (step_outcome history t p k) found (replied history bodies.NotDue None)).act ≡ Some act → (answer : StepAnswer) × (step_act p k answer ≡ Some act)
taken_of_row history t p k None act is = none_is_not act is
taken_of_row history t p k (Some row) act is = (step_answer history p row k t, is)

pub step_taken : (history : List Entry) (t : ℕ) (word : List ℕ) (fee p k : ℕ) (act : Act) → (answer history t word fee (Step p k)).act ≡ Some act → (answer : StepAnswer) × (step_act p k answer ≡ Some act)
step_taken history t word fee p k act is = taken_of_row history t p k (outgoing_row history p) act is

pub step_spells : (history : List Entry) (t : ℕ) (word : List ℕ) (fee p k : ℕ) (act : Act) → IsTrue (is_proper history (Step p k)) → (answer history t word fee (Step p k)).act ≡ Some act → SpellsItself history t act
step_spells history t word fee p k act proper is =
    spells history t (Step p k) act (step_of_row history t p k (outgoing_row history p) act is) proper tt is

-- ---- expiries and attempts

pub noted_act : (history : List Entry) (due : Bool) (made act : Act) → (noted_outcome history due made).act ≡ Some act → made ≡ act
noted_act history true made act is = some_is made act is
noted_act history false made act is = none_is_not act is

pub expire_spells : (history : List Entry) (t : ℕ) (word : List ℕ) (fee i : ℕ) (act : Act) → IsTrue (is_proper history (Expire i)) → (answer history t word fee (Expire i)).act ≡ Some act → SpellsItself history t act
expire_spells history t word fee i act proper is =
    spells history t (Expire i) act (sym (ap (asked_by history) (noted_act history (is_incoming_due history i t) (acts.IncomingExpired i) act is))) proper tt is

pub attempt_spells : (history : List Entry) (t : ℕ) (word : List ℕ) (fee n outcome : ℕ) (act : Act) → IsTrue (is_proper history (Attempt n outcome)) → (answer history t word fee (Attempt n outcome)).act ≡ Some act → SpellsItself history t act
attempt_spells history t word fee n outcome act proper is =
    spells history t (Attempt n outcome) act (sym (ap (asked_by history) (noted_act history (is_event_due history n t) (acts.Attempted n outcome) act is))) proper tt is
