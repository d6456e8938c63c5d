use Rattle.op_incoming.proofs.Sums.{received_is_a_sum}
use Rattle.op_incoming.proofs.law.received_is_a_sum.Goals as goal

pub returns : goal.returns
returns c = received_is_a_sum
