use Rattle.op_legal.proofs.Recorded.{entries_have_records}
use Rattle.op_legal.proofs.records.entries_have_records.Goals as goal

pub returns : goal.returns
returns c = entries_have_records
