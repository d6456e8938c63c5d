-- What a deposit or a withdrawal is answered, beyond what its request itself tells, and what is told of a payment that is
-- cancelled.
use Rattle.std.specs.Prelude.{ℕ, ◌+◌, nat_lt, if◌then◌else◌, List, Some, None}
use Rattle.std.specs.declared.option.Option.{Option}
use Rattle.std.specs.declared.result.Result.{Result}
use Rattle.op_amount.specs.declared.TheConstants.{TOP}
use Rattle.op_model.specs.Asking.{refuse_if}
use Rattle.op_model.specs.Balances.{account_asset, total, available}
use Rattle.op_model.specs.Payments.{is_ended}
use Rattle.op_model.specs.Shown.{progress_shown}
use Rattle.op_model.specs.declared.act.Account.{Account}
use Rattle.op_model.specs.declared.act.Entry.{Entry}
use Rattle.op_model.specs.declared.act.FailReason.TheVariants.{Cancelled}
use Rattle.op_model.specs.declared.reply.ProgressShown.{ProgressShown}
use Rattle.op_model.specs.declared.reply.Refusal.{Refusal}
use Rattle.op_model.specs.declared.reply.Refusal.TheVariants.{AssetFull, Short}
use Rattle.op_model.specs.declared.row.OutgoingRow.{OutgoingRow}
use Rattle.op_outgoing.specs.Steps.{ended_as}

-- a deposit is refused where the total of the account's asset would pass the largest value
abbrev pub deposit_answer : List Entry → Account → ℕ → Result (Unit {0}) Refusal
deposit_answer history account value =
    refuse_if (nat_lt TOP (total history (account_asset history account) + value))
    (AssetFull (total history (account_asset history account)))

-- a withdrawal is refused where the account has less available
abbrev pub withdrawal_answer : List Entry → Account → ℕ → Result (Unit {0}) Refusal
withdrawal_answer history account value =
    refuse_if (nat_lt (available history account) value) (Short (available history account))

-- how far a payment has come once it is cancelled, unless it has ended
abbrev pub cancelled_shown : OutgoingRow → Option ProgressShown
cancelled_shown row = if is_ended row.state then None else Some (progress_shown (ended_as Cancelled row))
