use Rattle.op_granting.proofs.Following.{follow}
use Rattle.op_granting.proofs.laws.grants_follow.Goals as goal

pub returns : goal.returns
returns c = follow
