use Rattle.op_granting.proofs.Calling.{fit}
use Rattle.op_granting.proofs.laws.calls_fit.Goals as goal

pub returns : goal.returns
returns c = fit
