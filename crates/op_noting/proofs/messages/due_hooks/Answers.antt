use Rattle.op_noting.proofs.Reading.{first_due}
use Rattle.op_noting.proofs.messages.due_hooks.Goals as goal

pub returns-clause-by_history : goal.returns-clause-by_history
returns-clause-by_history c = λ history are. first_due history c.args.events.now c.args.t 16 are
