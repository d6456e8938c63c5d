use Rattle.op_record.proofs.Putting.{then, last}
use Rattle.op_record.proofs.writing.put_grant_asked.Goals as goal

pub returns : goal.returns
returns c = then _ _ _ _ _ c.put_u8.ensures (then _ _ _ _ _ (rw c.bytes.ensures at c.put_text.ensures) (then _ _ _ _ _ (rw c.as_slice.ensures at c.put_items.ensures) (then _ _ _ _ _ c.put_some_finish.ensures (last _ _ _ c.put.ensures))))
