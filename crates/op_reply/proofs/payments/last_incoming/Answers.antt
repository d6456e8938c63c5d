use Rattle.op_reply.proofs.Lists.{last_shown}
use Rattle.op_reply.proofs.payments.last_incoming.Goals as goal

pub returns : goal.returns
returns c = last_shown (λ row. row.number) c.args.rows.now c.in_ok-last.field-0.now c.in_ok-last.ensures.value
