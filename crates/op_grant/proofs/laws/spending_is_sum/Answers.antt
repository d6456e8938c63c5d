use Rattle.op_grant.proofs.SpendingLaw.{spending_is_sum}
use Rattle.op_grant.proofs.laws.spending_is_sum.Goals as goal

pub returns : goal.returns
returns c = spending_is_sum
