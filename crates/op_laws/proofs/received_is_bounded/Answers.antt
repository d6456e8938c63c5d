use Rattle.op_laws.proofs.Received.{received_is_bounded}
use Rattle.op_laws.proofs.received_is_bounded.Goals as goal

pub returns : goal.returns
returns c = received_is_bounded
