use Rattle.op_record.proofs.Putting.{then, last}
use Rattle.op_record.proofs.writing.put_item.Goals as goal

pub returns : goal.returns
returns c = then _ _ _ _ _ c.put_u8.ensures (then _ _ _ _ _ c.put_u8-2.ensures (then _ _ _ _ _ c.put_some_u32.ensures (last _ _ _ c.put_some_limits.ensures)))
