use Rattle.std.proofs.Common.{sym}
use Rattle.op_paying.proofs.BalanceAnswers.{same_total, deposit_full, deposit_fits}
use Rattle.op_paying.proofs.money.Money.may_deposit.Goals as goal

pub returns-then-value-total : goal.returns-then-value-total
returns-then-value-total c history is =
    sym (deposit_full history c.args.account c.total-total.result c.args.value
    (same_total history c.args.account c.asset_of.result c.total-total.result (c.asset_of.ensures history is) (c.total-total.ensures.value history is)) c.if-value-total.true)

pub returns : goal.returns
returns c history is =
    sym (deposit_fits history c.args.account c.total-total.result c.args.value
    (same_total history c.args.account c.asset_of.result c.total-total.result (c.asset_of.ensures history is) (c.total-total.ensures.value history is))
    c.total-total.ensures.at_most c.if-value-total.false)
