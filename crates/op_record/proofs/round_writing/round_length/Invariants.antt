use Rattle.std.proofs.Common.{◌≡◌, ◌+◌, ◌-◌, ◌^◌, length, take, min}
use Rattle.std.specs.List.{flat_map}
use Rattle.op_record.specs.Rounds.{act_in}
use Rattle.op_record.proofs.round_writing.round_length.Given as goal

abbrev pub invariant-loop-entry : goal.invariant-loop-entry
invariant-loop-entry l = l.sum ≡ min (9 + length (flat_map act_in (take l.entry-index l.entries))) (2 ^ 64 - 1)
