use Rattle.std.proofs.Common.{◌∙◌, sym}
use Rattle.op_paying.proofs.BalanceAnswers.{available_inside, none_available}
use Rattle.op_paying.proofs.money.Money.available.Goals as goal

pub available_of-requires : goal.available_of-requires
available_of-requires c = sym c.is_inside.ensures ∙ c.if-is_inside.true

pub returns-then-is_inside : goal.returns-then-is_inside
returns-then-is_inside c history is =
    c.available_of.ensures.value ∙ available_inside history c.args.self.now.ledger c.args.account is.stands (sym c.is_inside.ensures ∙ c.if-is_inside.true)

pub returns : goal.returns
returns c history is = sym (none_available history c.args.self.now.ledger c.args.account is.stands (sym c.is_inside.ensures ∙ c.if-is_inside.false))
