use Rattle.std.proofs.Common.{refl}
use Rattle.op_names.specs.Secrets.{secret_text}
use Rattle.op_names.proofs.SecretTexts.{same_place}
use Rattle.op_names.proofs.laws.secrets_differ.Goals as goal

pub returns : goal.returns
returns c letter word other place elsewhere drawn also small low apart same =
    apart (same_place (secret_text letter word place) letter letter word other place elsewhere drawn also small low refl same)
