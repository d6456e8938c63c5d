use Rattle.op_time.specs.declared.Place.TheVariants.{Before, Inside, After}
use Rattle.op_grant.proofs.LimitFacts.{interval_there}
use Rattle.op_grant.proofs.limits.interval_at.Goals as goal

pub returns-in-Inside : goal.returns-in-Inside
returns-in-Inside c =
    interval_there c.args.items.now c.args.t c.in-Some.interval (Inside c.in-Inside.number) c.in-Some.ensures c.in-Inside.ensures.value

pub returns-in-Before : goal.returns-in-Before
returns-in-Before c =
    interval_there c.args.items.now c.args.t c.in-Some.interval Before c.in-Some.ensures c.in-Before.ensures.value

pub returns-in-After : goal.returns-in-After
returns-in-After c =
    interval_there c.args.items.now c.args.t c.in-Some.interval After c.in-Some.ensures c.in-After.ensures.value
