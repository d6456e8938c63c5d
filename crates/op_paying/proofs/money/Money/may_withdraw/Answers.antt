use Rattle.std.proofs.Common.{sym}
use Rattle.op_paying.proofs.BalanceAnswers.{withdrawal_short, withdrawal_covered}
use Rattle.op_paying.proofs.money.Money.may_withdraw.Goals as goal

pub returns-then-available-value : goal.returns-then-available-value
returns-then-available-value c history is =
    sym (withdrawal_short history c.args.account c.available-available.result c.args.value (c.available-available.ensures history is) c.if-available-value.true)

pub returns : goal.returns
returns c history is =
    sym (withdrawal_covered history c.args.account c.available-available.result c.args.value (c.available-available.ensures history is) c.if-available-value.false)
