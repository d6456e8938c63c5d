-- What calls make of a grant, and what they answer: asking, deciding, continuing, cancelling, rotating, revoking.
use Rattle.std.specs.Prelude.{ℕ, Bool, true, false, not, ◌&&◌, ◌||◌, if◌then◌else◌, List, Some, None, Ok, Err}
use Rattle.std.specs.List.{list_any}
use Rattle.std.specs.Option.{option_map, option_map_or}
use Rattle.std.specs.declared.option.Option.{Option}
use Rattle.std.specs.declared.result.Result.{Result}
use Rattle.op_names.specs.Secrets.{secret_text}
use Rattle.op_names.specs.declared.Letter.TheVariants as letters
use Rattle.op_model.specs.History.{nth, number_of}
use Rattle.op_model.specs.Grants.{is_immediate, is_outgoing, current_token, live_token, is_secret, is_cancelled}
use Rattle.op_model.specs.GrantAnswers.{is_pending, is_issued, is_redirect, finish_kept, continuation_refusals}
use Rattle.op_model.specs.declared.grant.Asked.{Asked}
use Rattle.op_model.specs.declared.row.GrantRow.{GrantRow}
use Rattle.op_model.specs.declared.row.GrantState.TheVariants as states
use Rattle.op_model.specs.declared.reply.Refusal.{Refusal}
use Rattle.op_model.specs.declared.reply.Refusal.TheVariants.{UserDenied, TooFast, InvalidInteraction}
use Rattle.op_grant.specs.Value.{GrantsValue}
use Rattle.op_grant.specs.declared.fault.GrantFault.{GrantFault}
use Rattle.op_grant.specs.declared.fault.GrantFault.TheVariants as faults
use Rattle.op_grant.specs.declared.fault.Proceeded.{Proceeded}
use Rattle.op_grant.specs.declared.fault.Proceeded.TheVariants as proceeded

-- what a call gives by row n, which it asks to be there
abbrev pub at_row : {X : Type 0} → (GrantRow → Result X GrantFault) → GrantsValue → ℕ → Result X GrantFault
at_row answer value n = option_map_or answer (nth value.rows n) (Err faults.Memory)

-- ---- asking (RFC 9635, section 2)

-- a grant that was asked for: it is issued at once where it has no item for outgoing payments
abbrev pub asked_row : ℕ → List ℕ → ℕ → Asked → GrantRow
asked_row t word place asked =
    let immediate = is_immediate asked.items in
    record {
      client = asked.client;
      items = asked.items;
      finish = finish_kept asked.items asked.interact;
      asked = t;
      last = t;
      issued = if immediate then Some t else None;
      state = if immediate then states.Issued else states.Pending;
      access = if immediate then Some (secret_text letters.Access word place) else None;
      revoked = false;
      continuation = secret_text letters.Continuation word place;
      nonce = secret_text letters.Nonce word place;
      reference = None;
    }

abbrev pub ask_fault : Asked → Option GrantFault
ask_fault asked =
    if list_any is_outgoing asked.items && not (is_redirect asked.interact) then Some faults.InvalidInteraction
    else (if asked.strange then Some faults.RequestDenied else None)

-- ---- deciding (own)

abbrev pub decide_answer : GrantRow → Result (Unit {0}) GrantFault
decide_answer row = if is_pending row.state then Ok tt else Err faults.NotPending

abbrev pub decided : Bool → List ℕ → ℕ → GrantRow → GrantRow
decided accept word place row =
    record row { state = if accept then states.Accepted else states.Rejected; reference = Some (secret_text letters.Interaction word place) }

-- ---- continuing (RFC 9635, section 5)

-- the refusals of the model's table
abbrev pub fault_of : Refusal → GrantFault
fault_of UserDenied = faults.UserDenied
fault_of TooFast = faults.TooFast
fault_of InvalidInteraction = faults.InvalidInteraction
fault_of _ = faults.InvalidContinuation

abbrev pub proceeded_by : Proceeded → Result (Unit {0}) Refusal → Result Proceeded GrantFault
proceeded_by answer (Ok _) = Ok answer
proceeded_by answer (Err refusal) = Err (fault_of refusal)

abbrev pub proceed_answer : ℕ → List ℕ → Option (List ℕ) → GrantRow → Result Proceeded GrantFault
proceed_answer t token reference row =
    if is_cancelled row.state || (is_issued row.state || not (is_secret (Some token) row.continuation)) then Err faults.InvalidContinuation
    else proceeded_by (if is_pending row.state then proceeded.Polled else proceeded.Issued) (continuation_refusals t row (option_map (λ r. Some r) reference))

-- a poll keeps its moment; an issue draws the access token and the next continuation token
abbrev pub proceeded_row : ℕ → List ℕ → ℕ → Proceeded → GrantRow → GrantRow
proceeded_row t word place proceeded.Polled row = record row { last = t }
proceeded_row t word place proceeded.Issued row =
    record row {
      state = states.Issued;
      issued = Some t;
      access = Some (secret_text letters.Access word place);
      continuation = secret_text letters.Continuation word place;
    }

-- ---- cancelling (RFC 9635, section 5.4)

abbrev pub cancel_answer : List ℕ → GrantRow → Result (Unit {0}) GrantFault
cancel_answer token row =
    if is_cancelled row.state || not (is_secret (Some token) row.continuation) then Err faults.InvalidContinuation else Ok tt

abbrev pub cancelled : GrantRow → GrantRow
cancelled row = record row { state = states.Cancelled }

-- ---- rotating and revoking (RFC 9635, sections 6.1 and 6.2)

abbrev pub token_answer : List ℕ → GrantRow → Result (Unit {0}) GrantFault
token_answer token row = if is_secret (current_token row) token then Ok tt else Err faults.InvalidToken

abbrev pub rotated : ℕ → List ℕ → ℕ → GrantRow → GrantRow
rotated t word place row = record row { issued = Some t; access = Some (secret_text letters.Access word place) }

abbrev pub revoked : GrantRow → GrantRow
revoked row = record row { revoked = true }

-- ---- finding

-- the grant whose live token this is
abbrev pub grant_of_live : GrantsValue → ℕ → List ℕ → Option ℕ
grant_of_live value t token = number_of (λ row. is_secret (live_token t row) token) value.rows
