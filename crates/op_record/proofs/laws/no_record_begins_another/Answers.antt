use Rattle.op_record.proofs.Entries.{no_record_begins_another}
use Rattle.op_record.proofs.laws.no_record_begins_another.Goals as goal

pub returns : goal.returns
returns c = no_record_begins_another
