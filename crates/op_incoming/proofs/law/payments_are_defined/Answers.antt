use Rattle.op_incoming.proofs.ModelLemmas.{payments_are_defined}
use Rattle.op_incoming.proofs.law.payments_are_defined.Goals as goal

pub returns : goal.returns
returns c = payments_are_defined
