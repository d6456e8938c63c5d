use Rattle.op_model.proofs.LegalNext.{legal-front}
use Rattle.op_legal.proofs.answers.beginnings_are_legal.Goals as goal

pub returns : goal.returns
returns c = legal-front
