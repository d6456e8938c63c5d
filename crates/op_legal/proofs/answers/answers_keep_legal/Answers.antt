use Rattle.op_legal.proofs.Next.{answered_next}
use Rattle.op_legal.proofs.answers.answers_keep_legal.Goals as goal

pub returns : goal.returns
returns c = answered_next
