use Rattle.op_model.proofs.PlainRounds.{plain_is_placed}
use Rattle.op_model.proofs.laws.plain_rounds_are_placed.Goals as goal

pub returns : goal.returns
returns g c history t tasks entries plain = plain_is_placed g.F.FeeTerms.allows history t tasks entries plain
