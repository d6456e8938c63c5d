use Rattle.std.proofs.Common.{ℕ, ◌≤◌, length}
use Rattle.op_time.specs.declared.TheConstants.{LAST}
use Rattle.op_record.proofs.Held.{IsLeftOf}
use Rattle.op_record.proofs.packed_reading.entry_in.Given as goal

abbrev pub invariant-loop-opening : goal.invariant-loop-opening
invariant-loop-opening l = record {
  low : l.at ≤ LAST;
  is : IsLeftOf l.fn.at l.bytes l.place l.at l.rest l.left;
}

abbrev pub decreases-loop-opening : goal.decreases-loop-opening
decreases-loop-opening l = length l.rest
