use Rattle.op_grant.proofs.TokenLaw.{one_live}
use Rattle.op_grant.proofs.laws.one_live_token.Goals as goal

pub returns : goal.returns
returns c = one_live
