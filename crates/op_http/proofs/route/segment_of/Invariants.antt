use Rattle.std.proofs.Common.{◌≡◌, ◌≤◌, ◌-◌}
use Rattle.op_http.specs.Routers.{segment, segment_from}
use Rattle.op_http.proofs.route.segment_of.Given as goal

abbrev pub invariant-loop-passed : goal.invariant-loop-passed
invariant-loop-passed l =
    record {
      within : l.passed ≤ l.number;
      same : segment_from (l.number - l.passed) l.rest ≡ segment l.number l.path;
    }

abbrev pub decreases-loop-passed : goal.decreases-loop-passed
decreases-loop-passed l = l.number - l.passed
