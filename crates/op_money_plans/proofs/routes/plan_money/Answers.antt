use Rattle.std.proofs.Common.{sym, subst}
use Rattle.op_model.specs.declared.request.Request.{Request}
use Rattle.op_plans.specs.Plans.{IsPlanned}
use Rattle.op_money_plans.proofs.routes.plan_money.Goals as goal

pub returns-in-InspectAsset : goal.returns-in-InspectAsset
returns-in-InspectAsset c history names_are is =
    subst (λ (r : Request). IsPlanned history r c.plan_inspect_asset.result) (sym c.in-InspectAsset.is) (c.plan_inspect_asset.ensures history names_are is)

pub returns-in-InspectOutgoing : goal.returns-in-InspectOutgoing
returns-in-InspectOutgoing c history names_are is =
    subst (λ (r : Request). IsPlanned history r c.plan_inspect_outgoing.result) (sym c.in-InspectOutgoing.is) (c.plan_inspect_outgoing.ensures history is)

pub returns-in-CancelOutgoing : goal.returns-in-CancelOutgoing
returns-in-CancelOutgoing c history names_are is =
    subst (λ (r : Request). IsPlanned history r c.plan_cancel_outgoing.result) (sym c.in-CancelOutgoing.is) (c.plan_cancel_outgoing.ensures history is)
