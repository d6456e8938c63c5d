use Rattle.op_api.proofs.KeptForms.{meant_keeps}
use Rattle.op_api.proofs.request.prepare.Goals as goal

pub returns-clause-kept : goal.returns-clause-kept
returns-clause-kept g c = meant_keeps c.args.raw.now c.in_ok-request.request c.in_ok-request.ensures.meant
