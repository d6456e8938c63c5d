use Rattle.op_record.proofs.Entries.{are_cut_one_way}
use Rattle.op_record.proofs.laws.records_are_cut_one_way.Goals as goal

pub returns : goal.returns
returns c = are_cut_one_way
