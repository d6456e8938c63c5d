use Rattle.op_record.specs.Fields.{text}
use Rattle.op_record.proofs.Putting.{then}
use Rattle.op_record.proofs.writing.put_text.Goals as goal

pub returns : goal.returns
unfolding text
returns c = then _ _ _ _ _ c.put_u16.ensures c.put.ensures
