use Rattle.op_record.specs.Records.{record_of}
use Rattle.op_record.proofs.Putting.{then}
use Rattle.op_record.proofs.writing.put_entry.Goals as goal

pub returns : goal.returns
unfolding record_of
returns c = then _ _ _ _ _ (rw c.ms.ensures.value at c.put_u64.ensures) c.put_act.ensures
