use Rattle.std.proofs.Common.{sym}
use Rattle.op_api.proofs.NotTexts.{no_code}
use Rattle.op_api.proofs.parameters.asset_named.Goals as goal

pub returns-in_default : goal.returns-in_default
returns-in_default c = rw (← c.in_ok-scale.ensures) (sym (no_code c.args.code.now c.in_ok-scale.field-0 c.in_default.ensures.cases.0))
