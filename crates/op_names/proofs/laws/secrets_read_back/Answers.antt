use Rattle.op_names.proofs.SecretTexts.{read_back}
use Rattle.op_names.proofs.laws.secrets_read_back.Goals as goal

pub returns : goal.returns
returns c = read_back
