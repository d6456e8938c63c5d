use Rattle.std.proofs.Common.{refl}
use Rattle.op_token_plans.proofs.looks.looks_at_address.Goals as goal

pub returns : goal.returns
returns c history client = record { kind = refl; need = refl; all = refl; address = refl; own = refl; payment = refl }
