-- Deposits and withdrawals.
use Rattle.std.specs.Prelude.{ℕ, Bool, true, false, ◌&&◌, ◌==◌, List, Some, None}
use Rattle.op_amount.specs.declared.Amount.{Amount}
use Rattle.op_model.specs.AdminAnswers.{is_same_kind}
use Rattle.op_model.specs.Balances.{is_same_account}
use Rattle.op_model.specs.declared.reply.AccountShown.{AccountShown}
use Rattle.op_model.specs.declared.reply.AccountShown.TheVariants as shown
use Rattle.op_model.specs.declared.request.AccountName.{AccountName}
use Rattle.op_model.specs.declared.request.AccountName.TheVariants as names
use Rattle.op_model.specs.declared.request.Request.{Request}
use Rattle.op_model.specs.declared.request.Request.TheVariants as requests
use Rattle.op_naming.specs.declared.kept.TransferKept.{TransferKept}
use Rattle.op_money_plans.specs.declared.transfers.Asked.{Asked}
use Rattle.op_money_plans.specs.declared.transfers.Direction.{Direction}
use Rattle.op_money_plans.specs.declared.transfers.Direction.TheVariants.{Deposit, Withdrawal}

abbrev pub is_deposit : Direction → Bool
is_deposit Deposit = true
is_deposit Withdrawal = false

-- the request of a transfer
abbrev pub transfer_request : Direction → List ℕ → AccountName → Amount → Request
transfer_request Deposit transfer name amount = requests.Deposit transfer name amount
transfer_request Withdrawal transfer name amount = requests.Withdraw transfer name amount

-- a transfer that was made is the one that is asked for, which may fit its account's asset
abbrev pub is_repeat_of : TransferKept → Asked → (fits : Bool) → Bool
is_repeat_of made asked fits =
    is_same_kind made.deposit (is_deposit asked.direction)
    && (is_same_account made.account asked.account && (fits && (made.value == asked.amount.value)))

-- what is told of the account of a name; one that names nothing is never told
abbrev pub shown_by : AccountName → AccountShown
shown_by names.Pool = shown.Pool
shown_by names.Fees = shown.Fees
shown_by (names.Address (Some name)) = shown.Address name.path
shown_by (names.Address None) = shown.Pool
