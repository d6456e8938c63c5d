use Rattle.op_legal.proofs.Once.{steps_once}
use Rattle.op_laws.proofs.steps_are_taken_once.Goals as goal

pub returns : goal.returns
returns c = steps_once
