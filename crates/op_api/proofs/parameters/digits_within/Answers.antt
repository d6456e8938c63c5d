use Rattle.std.proofs.Common.{sym}
use Rattle.op_api.proofs.NotTexts.{no_number}
use Rattle.op_api.proofs.parameters.digits_within.Goals as goal

pub returns-in_default : goal.returns-in_default
returns-in_default c = sym (no_number c.args.low c.args.high c.args.text.now c.in_default.ensures.cases.0)
