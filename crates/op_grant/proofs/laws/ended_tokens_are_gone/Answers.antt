use Rattle.op_grant.proofs.TokenLaw.{ended_is_gone}
use Rattle.op_grant.proofs.laws.ended_tokens_are_gone.Goals as goal

pub returns : goal.returns
returns c = ended_is_gone
