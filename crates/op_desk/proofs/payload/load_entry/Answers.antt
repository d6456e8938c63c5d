use Rattle.op_desk.proofs.Payloads.{at_last}
use Rattle.op_desk.proofs.payload.load_entry.Goals as goal

pub returns-clause-last : goal.returns-clause-last
returns-clause-last c = at_last c.load.result c.open_for.new.wallet c.load.new.self c.args.entry.now c.in_ok-open_for.ensures.opened c.load.ensures.ok
