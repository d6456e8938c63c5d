use Rattle.std.proofs.Common.{sym}
use Rattle.op_time.proofs.Shapes.{shape_has_zone}
use Rattle.op_time.proofs.moments.moment_in.Goals as goal

pub moment_with-requires-clause-zone : goal.moment_with-requires-clause-zone
moment_with-requires-clause-zone c =
    rw c.zone_of.ensures (shape_has_zone c.args.text.now (sym c.if-not-has_shape.ensures))
