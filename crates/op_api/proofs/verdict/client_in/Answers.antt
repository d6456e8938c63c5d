use Rattle.std.proofs.Common.{sym}
use Rattle.op_api.proofs.Clients.{no_client}
use Rattle.op_api.proofs.verdict.client_in.Goals as goal

pub returns-in_default : goal.returns-in_default
returns-in_default c = sym (no_client c.args.text.now c.in_default.ensures.cases.0)
