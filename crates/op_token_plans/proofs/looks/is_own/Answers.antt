use Rattle.std.specs.Option.{option_copied}
use Rattle.op_token_plans.proofs.Looking.{own_there, own_missing}
use Rattle.op_token_plans.proofs.looks.is_own.Goals as goal

pub returns-in-Some : goal.returns-in-Some
returns-in-Some c history are =
    own_there history c.args.grants.now c.args.grant (option_copied c.args.client) c.in-Some.row.now c.is_same_client.result are c.in-Some.ensures c.is_same_client.ensures

pub returns-in-None : goal.returns-in-None
returns-in-None c history are = own_missing history c.args.grants.now c.args.grant (option_copied c.args.client) are c.in-None.ensures
