-- A client and its grant, as the parts of a wallet have them.
use Rattle.std.specs.Prelude.{◌≡◌, ℕ, not, ◌||◌, if◌then◌else◌, List, length, Some, None, Ok, Err}
use Rattle.std.specs.Option.{option_and_then}
use Rattle.std.specs.declared.option.Option.{Option}
use Rattle.std.specs.declared.result.Result.{Result}
use Rattle.op_grant.specs.Rows.{at_row, proceed_answer, proceeded_by, token_answer}
use Rattle.op_grant.specs.Value.{GrantsValue}
use Rattle.op_grant.specs.declared.fault.GrantFault.{GrantFault}
use Rattle.op_grant.specs.declared.fault.GrantFault.TheVariants as faults
use Rattle.op_grant.specs.declared.fault.Proceeded.{Proceeded}
use Rattle.op_grant.specs.declared.fault.Proceeded.TheVariants as proceeded
use Rattle.op_model.specs.Asking.{Caller, is_own}
use Rattle.op_model.specs.GrantAnswers.{is_pending, is_issued, continuation_refusals}
use Rattle.op_model.specs.Grants.{grants, is_cancelled, is_secret}
use Rattle.op_model.specs.History.{nth}
use Rattle.op_model.specs.Payments.{incomings}
use Rattle.op_model.specs.declared.act.Act.{Act}
use Rattle.op_model.specs.declared.act.Entry.{Entry}
use Rattle.op_model.specs.declared.reply.Refusal.{Refusal}
use Rattle.op_model.specs.declared.reply.Refusal.TheVariants as refusals
use Rattle.op_model.specs.declared.request.Verdict.{Verdict}
use Rattle.op_model.specs.declared.row.GrantRow.{GrantRow}

-- the rows are those of the grants of a history
abbrev pub AreRowsOf : List Entry → GrantsValue → Type 0
AreRowsOf history value = value.rows ≡ grants history

-- so many incoming payments are there
abbrev pub IsCountOf : List Entry → ℕ → Type 0
IsCountOf history count = count ≡ length (incomings history)

-- a client with its own grant
abbrev pub own_row : Verdict → ℕ → GrantRow → Option Caller
own_row verdict n row = if is_own verdict row then Some (record { grant = n; row = row }) else None

abbrev pub own_caller : GrantsValue → Verdict → Option ℕ → Option Caller
own_caller value verdict grant = option_and_then (λ n. option_and_then (own_row verdict n) (nth value.rows n)) grant

-- the answer that acts so, or the refusal
abbrev pub answered : {X : Type 0} → (X → Act) → Result X Refusal → Result (Option Act) Refusal
answered act (Ok x) = Ok (Some (act x))
answered act (Err refusal) = Err refusal

-- the client has the current access token of grant n
pub record HasCurrent (value : GrantsValue) (n : ℕ) : Type 0 where
  pub token : List ℕ
  pub passes : at_row (token_answer token) value n ≡ Ok tt

-- some call that continues grant n is answered so
pub record Proceeds (value : GrantsValue) (n t : ℕ) (answer : Proceeded) : Type 0 where
  pub token : List ℕ
  pub reference : Option (List ℕ)
  pub passes : at_row (proceed_answer t token reference) value n ≡ Ok answer

-- what a continuation is answered, also one whose reference is no secret
abbrev pub continue_answer : ℕ → List ℕ → Option (Option (List ℕ)) → GrantRow → Result Proceeded GrantFault
continue_answer t token reference row =
    if is_cancelled row.state || (is_issued row.state || not (is_secret (Some token) row.continuation)) then Err faults.InvalidContinuation
    else proceeded_by (if is_pending row.state then proceeded.Polled else proceeded.Issued) (continuation_refusals t row reference)

-- the fault of a reference that is no secret, where the call without a reference has this answer
abbrev pub malformed : Result Proceeded GrantFault → GrantFault
malformed (Err faults.InvalidContinuation) = faults.InvalidContinuation
malformed (Err faults.UserDenied) = faults.UserDenied
malformed _ = faults.InvalidInteraction

-- the refusal that a fault of asking or continuing is
abbrev pub refusal_of : GrantFault → Refusal
refusal_of faults.UserDenied = refusals.UserDenied
refusal_of faults.TooFast = refusals.TooFast
refusal_of faults.InvalidInteraction = refusals.InvalidInteraction
refusal_of faults.RequestDenied = refusals.RequestDenied
refusal_of _ = refusals.InvalidContinuation
