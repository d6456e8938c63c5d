use Rattle.op_record.proofs.RoundLaws.{one_round}
use Rattle.op_record.proofs.laws.rounds_are_read_one_way.Goals as goal

pub returns : goal.returns
returns c = one_round
