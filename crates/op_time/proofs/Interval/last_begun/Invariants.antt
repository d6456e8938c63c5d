use Rattle.std.proofs.Common.{◌≡◌, ◌<◌, ◌≤◌, ◌-◌, true, false}
use Rattle.op_time.specs.Starts.{has_begun}
use Rattle.op_time.proofs.Interval.last_begun.Given as goal

abbrev pub invariant-loop-high : goal.invariant-loop-high
invariant-loop-high l =
    (l.low < l.high) × (l.high ≤ 274877906944) × (has_begun l.self l.low l.t ≡ true) × (has_begun l.self l.high l.t ≡ false)

abbrev pub decreases-loop-high : goal.decreases-loop-high
decreases-loop-high l = l.high - l.low
