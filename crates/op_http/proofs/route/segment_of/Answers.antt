use Rattle.std.proofs.Common.{arith}
use Rattle.op_http.proofs.Segments.{segment_step}
use Rattle.op_http.proofs.route.segment_of.Goals as goal

pub loop-passed-preserved : goal.loop-passed-preserved
loop-passed-preserved c =
    record {
      within = omega arith;
      same = rw c.behind_slash-rest-in-loop-passed.ensures
          (segment_step c.args.number c.loop-passed.passed _ _ c.loop-passed-test.true c.loop-passed.invariant.same);
    }
