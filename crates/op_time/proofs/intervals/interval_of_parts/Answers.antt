use Rattle.std.proofs.Common.{sym}
use Rattle.op_time.proofs.Proper.{proper}
use Rattle.op_time.proofs.intervals.interval_of_parts.Goals as goal

pub invariant_of-result : goal.invariant_of-result
invariant_of-result c =
    proper c.in-Some-count_of.count c.in-Ok.start c.in-Some.duration c.args.count.now c.args.start.now c.args.duration.now (sym c.in-Ok.ensures) (sym c.in-Some.ensures) (sym c.in-Some-count_of.ensures)
