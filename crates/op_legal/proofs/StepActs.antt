-- What a step of a payment that may follow tells of the payment.
use Rattle.std.proofs.Common.{◌≡◌, ℕ, Bool, true, false, cond, List, [], refl, ◌∙◌, sym, Some, None, Option}
use Rattle.std.specs.Prelude.{◌==◌, Ok}
use Rattle.std.specs.Option.{option_map, option_map_or, option_and_then}
use Rattle.op_model.specs.Answer.{act_for, step_outcome, replied}
use Rattle.op_model.specs.AdminAnswers.{cancel_outgoing}
use Rattle.op_model.specs.Legal.{IsNext, no_verdict}
use Rattle.op_model.specs.Payments.{outgoing_row, is_ended}
use Rattle.op_model.specs.Steps.{step_act, state_step}
use Rattle.op_model.specs.declared.act.Act.{Act}
use Rattle.op_model.specs.declared.act.Act.TheVariants as acts
use Rattle.op_model.specs.declared.act.Entry.{Entry}
use Rattle.op_model.specs.declared.act.FailReason.{FailReason}
use Rattle.op_model.specs.declared.act.FailReason.TheVariants.{QuoteExpired, ReceiverClosed, Cancelled}
use Rattle.op_model.specs.declared.reply.Refusal.TheVariants.{NotFound, AlreadyEnded}
use Rattle.op_model.specs.declared.reply.ReplyBody.TheVariants as bodies
use Rattle.op_model.specs.declared.reply.StepAnswer.TheVariants as answers
use Rattle.op_model.specs.declared.request.Request.TheVariants as requests
use Rattle.op_model.specs.declared.row.OutgoingRow.{OutgoingRow}
use Rattle.op_model.specs.Grants.{is_failed}
use Rattle.op_model.specs.declared.row.PaymentState.{PaymentState}
use Rattle.op_model.specs.declared.row.PaymentState.TheVariants as states
use Rattle.op_legal.proofs.Chains.{act_in, outcome_act, none_is_not, some_is, past_want, past_refusal}
use Rattle.op_model.proofs.Numbered.{same_number}

-- ---- the payment of a step that is recorded

-- step k of payment p is the payment's next, and acts
pub record IsStepAct (history : List Entry) (t p k : ℕ) (act : Act) : Type 0 where
  pub row : OutgoingRow
  pub there : outgoing_row history p ≡ Some row
  pub now : k ≡ row.step
  pub does : step_act p k (state_step history p row t row.state) ≡ Some act
  pub running : is_failed row.state ≡ false

running_where : (history : List Entry) (t p k : ℕ) (row : OutgoingRow) (act : Act) (state : PaymentState) → step_act p k (state_step history p row t state) ≡ Some act → is_failed state ≡ false
running_where history t p k row act states.Funding h = refl
running_where history t p k row act states.Sending h = refl
running_where history t p k row act states.Completed h = refl
running_where history t p k row act states.Failed h = none_is_not act h

running_on : (state : PaymentState) → is_ended state ≡ false → is_failed state ≡ false
running_on states.Funding h = refl
running_on states.Sending h = refl
running_on states.Completed h = refl
running_on states.Failed h = h

now_where : (history : List Entry) (t p k : ℕ) (row : OutgoingRow) (act : Act) (b : Bool) → (k == row.step) ≡ b → outgoing_row history p ≡ Some row
    → step_act p k (cond b (state_step history p row t row.state) (answers.Stale row.step)) ≡ Some act → IsStepAct history t p k act
now_where history t p k row act true now there h = record { row = row; there = there; now = same_number k row.step now; does = h; running = running_where history t p k row act row.state h }
now_where history t p k row act false now there h = none_is_not act h

act_where : (history : List Entry) (t p k : ℕ) (found : Option OutgoingRow) (act : Act) → outgoing_row history p ≡ found
    → (option_map_or (step_outcome history t p k) found (replied history bodies.NotDue None)).act ≡ Some act → IsStepAct history t p k act
act_where history t p k None act there h = none_is_not act h
act_where history t p k (Some row) act there h = now_where history t p k row act (k == row.step) refl there h

step_acts : (history : List Entry) (t p k : ℕ) (act : Act) → (option_map_or (step_outcome history t p k) (outgoing_row history p) (replied history bodies.NotDue None)).act ≡ Some act → IsStepAct history t p k act
step_acts history t p k act h = act_where history t p k (outgoing_row history p) act refl h

pub funded_acts : (history : List Entry) (t p k : ℕ) → IsNext history (record { at = t; act = acts.OutgoingFunded p k }) → IsStepAct history t p k (acts.OutgoingFunded p k)
funded_acts history t p k next = step_acts history t p k (acts.OutgoingFunded p k) next.act

pub sent_acts : (history : List Entry) (t p k : ℕ) → IsNext history (record { at = t; act = acts.OutgoingSent p k }) → IsStepAct history t p k (acts.OutgoingSent p k)
sent_acts history t p k next = step_acts history t p k (acts.OutgoingSent p k) next.act

pub completed_acts : (history : List Entry) (t p k : ℕ) → IsNext history (record { at = t; act = acts.OutgoingCompleted p k }) → IsStepAct history t p k (acts.OutgoingCompleted p k)
completed_acts history t p k next = step_acts history t p k (acts.OutgoingCompleted p k) next.act

-- a payment that fails: it is there, and the step is its next
pub record IsFailAct (history : List Entry) (p k : ℕ) : Type 0 where
  pub row : OutgoingRow
  pub there : outgoing_row history p ≡ Some row
  pub now : k ≡ row.step
  pub running : is_failed row.state ≡ false

cancelled_acts : (history : List Entry) (t p k : ℕ) → IsNext history (record { at = t; act = acts.OutgoingFailed p k Cancelled }) → IsFailAct history p k
cancelled_acts history t p k next =
    let act = acts.OutgoingFailed p k Cancelled in
    let made : act_in (cancel_outgoing history (Some p)) ≡ Some act =
    sym (outcome_act history t (requests.CancelOutgoing (Some p)) no_verdict (act_for history t [] 0 (requests.CancelOutgoing (Some p)) no_verdict)) ∙ next.act in
    let want = past_want (option_and_then (outgoing_row history) (Some p)) NotFound _ act made in
    let past = past_refusal (is_ended want.0.state) AlreadyEnded (λ _. Ok (option_map (λ n. acts.OutgoingFailed n want.0.step Cancelled) (Some p))) act want.2 in
    let same : acts.OutgoingFailed p want.0.step Cancelled ≡ acts.OutgoingFailed p k Cancelled = some_is (acts.OutgoingFailed p want.0.step Cancelled) act past.1 in
    let now : k ≡ want.0.step = cc in
    record { row = want.0; there = want.1; now = now; running = running_on want.0.state past.0 }

pub failed_acts : (history : List Entry) (t p k : ℕ) (reason : FailReason) → IsNext history (record { at = t; act = acts.OutgoingFailed p k reason }) → IsFailAct history p k
failed_acts history t p k QuoteExpired next =
    let is = step_acts history t p k (acts.OutgoingFailed p k QuoteExpired) next.act in
    record { row = is.row; there = is.there; now = is.now; running = is.running }
failed_acts history t p k ReceiverClosed next =
    let is = step_acts history t p k (acts.OutgoingFailed p k ReceiverClosed) next.act in
    record { row = is.row; there = is.there; now = is.now; running = is.running }
failed_acts history t p k Cancelled next = cancelled_acts history t p k next
