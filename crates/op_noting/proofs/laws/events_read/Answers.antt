use Rattle.op_noting.proofs.Reading.{read}
use Rattle.op_noting.proofs.laws.events_read.Goals as goal

pub returns : goal.returns
returns c = read
