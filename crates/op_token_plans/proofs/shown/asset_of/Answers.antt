use Rattle.op_model.specs.History.{asset_of_address}
use Rattle.op_plans.proofs.ProviderPlans.{asset_there}
use Rattle.op_token_plans.proofs.Showing.{asset_told, address_missing}
use Rattle.op_token_plans.proofs.shown.asset_of.Goals as goal

pub returns-in_default : goal.returns-in_default
returns-in_default c history are based = address_missing history c.args.address (λ row. asset_of_address history c.args.address) (c.in_default.ensures history are)

pub returns-in-Some-asset : goal.returns-in-Some-asset
returns-in-Some-asset c history are based =
    asset_told history c.args.address c.in-Some.row.now c.in-Some-asset.kept (c.in-Some.ensures history are) (c.in-Some-asset.ensures history are)

pub returns-in-None : goal.returns-in-None
returns-in-None c history are based =
    absurd (asset_there history c.args.address c.in-Some.row.now c.asset.result based (c.in-Some.ensures history are) (c.asset.ensures history are) c.in-None.is)
