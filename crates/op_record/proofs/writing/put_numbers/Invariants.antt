use Rattle.std.proofs.Common.{take}
use Rattle.std.specs.List.{flat_map}
use Rattle.op_record.specs.Fields.{number}
use Rattle.op_record.specs.Writing.{Puts}
use Rattle.op_record.proofs.writing.put_numbers.Given as goal

abbrev pub invariant-loop-n : goal.invariant-loop-n
invariant-loop-n l = Puts (flat_map (number 8) (take l.n-index l.numbers)) l.fn.out l.out
