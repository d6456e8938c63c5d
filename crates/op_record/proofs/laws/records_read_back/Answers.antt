use Rattle.op_record.proofs.Entries.{is_read_back}
use Rattle.op_record.proofs.laws.records_read_back.Goals as goal

pub returns : goal.returns
returns c = is_read_back
