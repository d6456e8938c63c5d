use Rattle.op_record.proofs.Putting.{then, last}
use Rattle.op_record.proofs.writing.put_asset_added.Goals as goal

pub returns : goal.returns
returns c = then _ _ _ _ _ c.put_u8.ensures (then _ _ _ _ _ (rw c.as_bytes.ensures.value at c.put_text.ensures) (then _ _ _ _ _ c.put_u8-2.ensures (last _ _ _ c.put_u8-3.ensures)))
