use Rattle.std.proofs.Common.{sym}
use Rattle.op_reply.proofs.payments.outgoing_with.Goals as goal

pub returns : goal.returns
returns c = rw (sym c.requires.metadata) c.object.ensures
