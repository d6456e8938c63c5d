use Rattle.op_noting.proofs.Adding.{next}
use Rattle.op_noting.proofs.laws.events_next.Goals as goal

pub returns : goal.returns
returns c = next
