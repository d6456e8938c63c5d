use Rattle.std.proofs.Common.{take}
use Rattle.std.specs.List.{flat_map}
use Rattle.op_record.specs.Fields.{item}
use Rattle.op_record.specs.Writing.{Puts}
use Rattle.op_record.proofs.writing.put_each_item.Given as goal

abbrev pub invariant-loop-value : goal.invariant-loop-value
invariant-loop-value l = Puts (flat_map item (take l.value-index l.values)) l.fn.out l.out
