use Rattle.std.proofs.Common.{◌∙◌, sym}
use Rattle.op_paying.proofs.BalanceAnswers.{none_total}
use Rattle.op_paying.proofs.Moving.{total_same}
use Rattle.op_paying.proofs.money.Money.total.Goals as goal

pub total_of-requires : goal.total_of-requires
total_of-requires c = sym c.is_there.ensures ∙ c.if-is_there.true

pub returns-then-is_there-clause-value : goal.returns-then-is_there-clause-value
returns-then-is_there-clause-value c history is = c.total_of.ensures.value ∙ total_same history c.args.self.now.ledger c.args.asset is.stands

pub returns-clause-value : goal.returns-clause-value
returns-clause-value c history is = sym (none_total history c.args.self.now.ledger c.args.asset is.stands (sym c.is_there.ensures ∙ c.if-is_there.false))
