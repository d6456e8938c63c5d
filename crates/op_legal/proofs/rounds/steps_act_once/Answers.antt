use Rattle.op_legal.proofs.Repeated.{steps_act_once}
use Rattle.op_legal.proofs.rounds.steps_act_once.Goals as goal

pub returns : goal.returns
returns g c = steps_act_once g.F.FeeTerms.allows g.F.FeeTerms.at_most
