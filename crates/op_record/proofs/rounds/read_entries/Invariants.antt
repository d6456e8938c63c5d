use Rattle.std.proofs.Common.{ℕ, length}
use Rattle.op_record.proofs.RoundSteps.{SoFar}
use Rattle.op_record.proofs.rounds.read_entries.Given as goal

abbrev pub invariant-loop-entry : goal.invariant-loop-entry
invariant-loop-entry l = SoFar l.said l.bytes l.rest l.fn.into.items l.into.items

abbrev pub decreases-loop-entry : goal.decreases-loop-entry
decreases-loop-entry l = length l.rest
