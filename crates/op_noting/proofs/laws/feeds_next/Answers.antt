use Rattle.op_noting.proofs.Paging.{next}
use Rattle.op_noting.proofs.laws.feeds_next.Goals as goal

pub returns : goal.returns
returns c = next
