use Rattle.op_record.proofs.Putting.{then, last}
use Rattle.op_record.proofs.writing.put_finish.Goals as goal

pub returns : goal.returns
returns c = then _ _ _ _ _ (rw c.bytes.ensures at c.put_text.ensures) (last _ _ _ (rw c.bytes-2.ensures at c.put_text-2.ensures))
