use Rattle.op_record.proofs.Putting.{then}
use Rattle.op_record.proofs.writing.put_one_cap.Goals as goal

pub returns : goal.returns
returns c = then _ _ _ _ _ (rw c.way_number-way.ensures at c.put_u8.ensures) (then _ _ _ _ _ c.put_u32.ensures c.put_u64.ensures)
