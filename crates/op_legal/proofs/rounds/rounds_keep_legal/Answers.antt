use Rattle.op_legal.proofs.RoundsLegal.{rounds_keep}
use Rattle.op_legal.proofs.rounds.rounds_keep_legal.Goals as goal

pub returns : goal.returns
returns g c = rounds_keep g.F.FeeTerms.allows g.F.FeeTerms.at_most
