use Rattle.op_noting.proofs.Following.{follow}
use Rattle.op_noting.proofs.laws.events_follow.Goals as goal

pub returns : goal.returns
returns c = follow
