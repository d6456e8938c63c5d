use Rattle.op_grant.specs.Value.{no_grants}
use Rattle.op_grant.specs.Runs.{after_calls}
use Rattle.op_grant.proofs.SecretLaw.{secrets_calls, no_secrets, own_secrets}
use Rattle.op_grant.proofs.laws.secrets_are_apart.Goals as goal

pub returns : goal.returns
returns c calls can = own_secrets (after_calls no_grants calls).rows (secrets_calls no_grants calls can no_secrets)
