use Rattle.op_record.proofs.Putting.{then, last}
use Rattle.op_record.proofs.writing.put_limits.Goals as goal

pub returns : goal.returns
returns c = then _ _ _ _ _ c.put_some_u64.ensures (then _ _ _ _ _ c.put_cap.ensures (last _ _ _ c.put_some_interval.ensures))
