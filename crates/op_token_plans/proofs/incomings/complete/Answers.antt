use Rattle.std.proofs.Common.{ℕ, ◌∙◌, sym, ap, Option}
use Rattle.op_token_plans.specs.Incomings.{completion}
use Rattle.op_token_plans.proofs.Making.{completes_none, completes_closed, completes}
use Rattle.op_token_plans.proofs.incomings.complete.Goals as goal

pub returns-in_default : goal.returns-in_default
returns-in_default c history verdict are = ap (λ (o : Option ℕ). completion history c.args.at o c.args.grant) c.in_default.is

pub returns-in_default-2 : goal.returns-in_default-2
returns-in_default-2 c history verdict are =
    completes_none history c.args.at c.args.grant c.args.incoming c.in-Some.number c.in-Some.is (sym c.in_default-2.is ∙ c.in_ok-shown.ensures history are.names_are are.money_is)

pub returns-then-not-is_open : goal.returns-then-not-is_open
returns-then-not-is_open c history verdict are =
    completes_closed history c.args.at c.args.grant c.args.incoming c.in-Some.number c.in-Some-2.shown c.is_open.result c.in-Some.is (sym c.in-Some-2.is ∙ c.in_ok-shown.ensures history are.names_are are.money_is) (c.is_open.ensures history are.money_is) c.if-not-is_open.true

pub returns : goal.returns
returns c history verdict are =
    completes history c.args.at c.args.grant c.args.incoming c.in-Some.number c.in-Some-2.shown c.is_open.result verdict c.in-Some.is (sym c.in-Some-2.is ∙ c.in_ok-shown.ensures history are.names_are are.money_is) (c.is_open.ensures history are.money_is) c.if-not-is_open.false
