use Rattle.op_legal.proofs.Named.{answer_names}
use Rattle.op_legal.proofs.numbers.answers_name_made.Goals as goal

pub returns : goal.returns
returns c = answer_names
