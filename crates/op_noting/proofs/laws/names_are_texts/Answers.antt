use Rattle.op_noting.proofs.Texts.{names}
use Rattle.op_noting.proofs.laws.names_are_texts.Goals as goal

pub returns : goal.returns
returns c = names
