use Rattle.op_granting.proofs.SpendingFollows.{follows}
use Rattle.op_granting.proofs.laws.spending_follows.Goals as goal

pub returns : goal.returns
returns c = follows
