use Rattle.op_record.proofs.Putting.{then}
use Rattle.op_record.proofs.round_writing.put_round.Goals as goal

pub returns : goal.returns
returns c = then _ _ _ _ _ c.put_u8.ensures (then _ _ _ _ _ (rw c.ms.ensures.value at c.put_u64.ensures) c.put_acts.ensures)
