use Rattle.op_record.proofs.Putting.{then}
use Rattle.op_record.proofs.writing.put_numbered.Goals as goal

pub returns : goal.returns
returns c = then _ _ _ _ _ c.put_u8.ensures c.put_u32.ensures
