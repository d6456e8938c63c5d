use Rattle.op_plans.proofs.ProviderPlans.{asset_there}
use Rattle.op_plans.proofs.provider.shown_address.Goals as goal

pub returns-in_default-asset : goal.returns-in_default-asset
returns-in_default-asset c history is based =
    absurd (asset_there history c.args.number c.in-Some.row.now c.asset.result based (c.in-Some.ensures history is) (c.asset.ensures history is) c.in_default-asset.is)
