use Rattle.std.specs.Option.{option_copied}
use Rattle.op_token_plans.proofs.Looking.{looks_there, looks_nowhere}
use Rattle.op_token_plans.proofs.looks.looks_at_row.Goals as goal

pub returns-in-Some : goal.returns-in-Some
returns-in-Some c history are =
    looks_there history (option_copied c.args.client) c.args.needed.kind c.args.needed.need c.args.needed.all c.in-Some.place c.args.row c.is_own.result c.in-Some.is (c.is_own.ensures history are)

pub returns-in-None : goal.returns-in-None
returns-in-None c history are = looks_nowhere history (option_copied c.args.client) c.args.needed.kind c.args.needed.need c.args.needed.all c.args.row c.in-None.is
