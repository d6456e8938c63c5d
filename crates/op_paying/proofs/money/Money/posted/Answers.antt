use Rattle.std.proofs.Common.{◌∙◌, sym}
use Rattle.op_paying.proofs.BalanceAnswers.{posted_inside, none_posted}
use Rattle.op_paying.proofs.money.Money.posted.Goals as goal

pub posted_of-requires : goal.posted_of-requires
posted_of-requires c = sym c.is_inside.ensures ∙ c.if-is_inside.true

pub returns-then-is_inside : goal.returns-then-is_inside
returns-then-is_inside c history is =
    c.posted_of.ensures.value ∙ posted_inside history c.args.self.now.ledger c.args.account is.stands (sym c.is_inside.ensures ∙ c.if-is_inside.true)

pub returns : goal.returns
returns c history is = sym (none_posted history c.args.self.now.ledger c.args.account is.stands (sym c.is_inside.ensures ∙ c.if-is_inside.false))
