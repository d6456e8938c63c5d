use Rattle.std.proofs.Common.{lit≤, arith}
use Rattle.op_record.proofs.ItemLaws.{room}
use Rattle.op_record.proofs.Putting.{item_of_all}
use Rattle.op_record.proofs.lengths.each_item_length.Goals as goal

pub item_length-sum-requires : goal.item_length-sum-requires
item_length-sum-requires c = rw c.value-item.is (item_of_all 0 c.args.values.now c.loop-value.value-index _ c.requires c.loop-value-test.true)

pub overflow_add-sum : goal.overflow_add-sum
overflow_add-sum c = omega (arith, room 0 c.args.values.now (lit≤ tt) c.requires)

pub returns-clause-low : goal.returns-clause-low
returns-clause-low c = omega (arith, room 0 c.args.values.now (lit≤ tt) c.requires)
