use Rattle.op_legal.proofs.Named.{entries_name}
use Rattle.op_legal.proofs.numbers.entries_name_made.Goals as goal

pub returns : goal.returns
returns c = entries_name
