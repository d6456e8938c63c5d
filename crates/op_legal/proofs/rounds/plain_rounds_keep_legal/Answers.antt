use Rattle.op_legal.proofs.RoundsLegal.{plain_rounds_keep}
use Rattle.op_legal.proofs.rounds.plain_rounds_keep_legal.Goals as goal

pub returns : goal.returns
returns g c = plain_rounds_keep g.F.FeeTerms.allows g.F.FeeTerms.at_most
