use Rattle.op_printable.proofs.Replies.{refusals}
use Rattle.op_printable.proofs.refusals_are_printable.Goals as goal

pub returns : goal.returns
returns c = refusals
