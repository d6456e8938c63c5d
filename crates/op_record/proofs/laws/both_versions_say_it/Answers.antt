use Rattle.op_record.proofs.RoundLaws.{both_versions_say_it}
use Rattle.op_record.proofs.laws.both_versions_say_it.Goals as goal

pub returns : goal.returns
returns c = both_versions_say_it
