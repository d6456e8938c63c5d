use Rattle.std.proofs.Common.{◌∙◌, ap, Some}
use Rattle.op_model.specs.Shown.{path_of_address}
use Rattle.op_token_plans.proofs.Showing.{path_told, address_missing}
use Rattle.op_token_plans.proofs.shown.path_of.Goals as goal

pub returns-in_ok-clone-in-Some : goal.returns-in_ok-clone-in-Some
returns-in_ok-clone-in-Some c history are = ap Some c.in_ok-clone-in-Some.ensures ∙ path_told history c.args.address c.in-Some.row.now (c.in-Some.ensures history are)

pub returns-in-None : goal.returns-in-None
returns-in-None c history are = address_missing history c.args.address (λ row. path_of_address history c.args.address) (c.in-None.ensures history are)
