use Rattle.op_legal.proofs.NotRefused.{not_refused}
use Rattle.op_legal.proofs.records.acts_are_not_refused.Goals as goal

pub returns : goal.returns
returns c = not_refused
