use Rattle.op_grant.proofs.TokenLaw.{live_found}
use Rattle.op_grant.proofs.laws.live_tokens_are_found.Goals as goal

pub returns : goal.returns
returns c = live_found
