use Rattle.std.proofs.Common.{sym}
use Rattle.op_api.proofs.NotTexts.{no_id}
use Rattle.op_api.proofs.parameters.number_named.Goals as goal

pub returns-in_default : goal.returns-in_default
returns-in_default c = sym (no_id c.args.kind c.args.text.now c.in_default.ensures.cases.0)
