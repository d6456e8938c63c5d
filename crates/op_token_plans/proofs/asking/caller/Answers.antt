use Rattle.std.proofs.Common.{◌∙◌, sym}
use Rattle.op_token_plans.proofs.Admitting.{unproved, no_token, of_token, of_no_token, live_there}
use Rattle.op_token_plans.proofs.asking.caller.Goals as goal

pub returns-then-is_unproved-clause-value : goal.returns-then-is_unproved-clause-value
returns-then-is_unproved-clause-value c history are =
    unproved history c.args.asking.now.at c.args.asking.now.verdict.now (sym c.is_unproved.ensures ∙ c.if-is_unproved.true)

pub returns-in_default-clause-value : goal.returns-in_default-clause-value
returns-in_default-clause-value c history are =
    no_token history c.args.asking.now.at c.args.asking.now.verdict.now (sym c.is_unproved.ensures ∙ c.if-is_unproved.false) c.in_default.is

pub returns-in-Some-grant_of-clause-value : goal.returns-in-Some-grant_of-clause-value
returns-in-Some-grant_of-clause-value c history are =
    of_token history c.args.grants.now c.args.asking.now.at c.args.asking.now.verdict.now c.in-Some.token c.in-Some-grant_of.n are (sym c.is_unproved.ensures ∙ c.if-is_unproved.false) c.in-Some.is
    (sym c.in-Some-grant_of.ensures)

pub returns-in-Some-grant_of-clause-there : goal.returns-in-Some-grant_of-clause-there
returns-in-Some-grant_of-clause-there c = live_there c.args.grants.now c.args.asking.now.at c.in-Some.token c.in-Some-grant_of.n (sym c.in-Some-grant_of.ensures)

pub returns-in-None-clause-value : goal.returns-in-None-clause-value
returns-in-None-clause-value c history are =
    of_no_token history c.args.grants.now c.args.asking.now.at c.args.asking.now.verdict.now c.in-Some.token are (sym c.is_unproved.ensures ∙ c.if-is_unproved.false) c.in-Some.is (sym c.in-None.ensures)
