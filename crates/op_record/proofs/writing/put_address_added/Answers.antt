use Rattle.op_record.proofs.Putting.{then, last}
use Rattle.op_record.proofs.writing.put_address_added.Goals as goal

pub returns : goal.returns
returns c = then _ _ _ _ _ c.put_u8.ensures (then _ _ _ _ _ (rw c.bytes.ensures at c.put_text.ensures) (then _ _ _ _ _ c.put_u32.ensures (last _ _ _ c.put_some_text.ensures)))
