use Rattle.std.proofs.Common.{take}
use Rattle.std.specs.List.{flat_map}
use Rattle.op_record.specs.Rounds.{act_in}
use Rattle.op_record.specs.Writing.{Puts}
use Rattle.op_record.proofs.round_writing.put_acts.Given as goal

abbrev pub invariant-loop-entry : goal.invariant-loop-entry
invariant-loop-entry l = Puts (flat_map act_in (take l.entry-index l.entries)) l.fn.out l.out
