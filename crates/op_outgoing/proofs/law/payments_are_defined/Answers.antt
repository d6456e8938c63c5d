use Rattle.std.proofs.Common.{refl}
use Rattle.op_outgoing.proofs.ModelLemmas.{answers_are_defined}
use Rattle.op_outgoing.proofs.NextRows.{rows_are_defined}
use Rattle.op_outgoing.proofs.law.payments_are_defined.Goals as goal

pub returns : goal.returns
returns c = record {
  answers = answers_are_defined;
  rows = rows_are_defined;
  held = λ history account. refl;
  tasks = λ history t cursor. refl;
  cursor = λ history t cursor. refl;
}
