use Rattle.op_record.proofs.Putting.{then}
use Rattle.op_record.proofs.writing.put_some_text.Goals as goal

pub returns : goal.returns
returns c = rw c.in-Some.is (then _ _ _ _ _ c.put_u8-2.ensures (rw c.bytes.ensures at c.put_text.ensures))
