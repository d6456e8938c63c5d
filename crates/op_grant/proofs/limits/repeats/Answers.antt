use Rattle.op_grant.proofs.LimitFacts.{interval_readable}
use Rattle.op_grant.proofs.limits.repeats.Goals as goal

pub read-requires : goal.read-requires
read-requires c =
    interval_readable c.args.items.now c.in_ok-limits.limits.now c.in_ok-text.text.now c.requires c.in_ok-limits.ensures c.in_ok-text.ensures.value
