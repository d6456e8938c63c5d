use Rattle.op_printable.proofs.Replies.{replies}
use Rattle.op_printable.proofs.replies_are_printable.Goals as goal

pub returns : goal.returns
returns c = replies
