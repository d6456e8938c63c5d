use Rattle.std.proofs.Common.{lit≤, arith}
use Rattle.op_record.proofs.ItemLaws.{room}
use Rattle.op_record.proofs.Putting.{then}
use Rattle.op_record.proofs.writing.put_items.Goals as goal

pub returns : goal.returns
returns c = then _ _ _ _ _ c.put_u8.ensures c.put_each_item.ensures

pub overflow_cast-values : goal.overflow_cast-values
overflow_cast-values c = omega (arith, room 0 c.args.values.now (lit≤ tt) c.requires.1)
