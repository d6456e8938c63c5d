use Rattle.op_granting.proofs.Granted.{payments_lie}
use Rattle.op_granting.proofs.laws.payments_lie.Goals as goal

pub returns : goal.returns
returns c = payments_lie
