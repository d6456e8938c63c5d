use Rattle.std.proofs.Common.{◌≡◌, ◌≤◌, ◌*◌, length, take}
use Rattle.std.specs.List.{flat_map}
use Rattle.op_record.specs.Fields.{item}
use Rattle.op_record.proofs.lengths.each_item_length.Given as goal

abbrev pub invariant-loop-value : goal.invariant-loop-value
invariant-loop-value l = record {
  is : l.sum ≡ length (flat_map item (take l.value-index l.values));
  low : l.sum ≤ 1057 * l.value-index;
}
