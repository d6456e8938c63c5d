use Rattle.op_record.proofs.RoundLaws.{no_act_begins_another}
use Rattle.op_record.proofs.laws.no_act_begins_another.Goals as goal

pub returns : goal.returns
returns c = no_act_begins_another
