use Rattle.std.proofs.Common.{sym, subst}
use Rattle.op_model.specs.declared.request.Request.{Request}
use Rattle.op_plans.specs.Plans.{IsPlanned}
use Rattle.op_plans.proofs.routes.plan_request.Goals as goal

pub returns-in-SetOrigin : goal.returns-in-SetOrigin
returns-in-SetOrigin c history is based =
    subst (λ (r : Request). IsPlanned history r c.plan_set_origin.result) (sym c.in-SetOrigin.is) (c.plan_set_origin.ensures history is)

pub returns-in-AddAsset : goal.returns-in-AddAsset
returns-in-AddAsset c history is based =
    subst (λ (r : Request). IsPlanned history r c.plan_add_asset.result) (sym c.in-AddAsset.is) (c.plan_add_asset.ensures history is)

pub returns-in-SetRate : goal.returns-in-SetRate
returns-in-SetRate c history is based =
    subst (λ (r : Request). IsPlanned history r c.plan_set_rate.result) (sym c.in-SetRate.is) (c.plan_set_rate.ensures history is)
