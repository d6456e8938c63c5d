use Rattle.std.proofs.Common.{◌∙◌, List, ℕ, ap, subst, sym}
use Rattle.std.specs.Prelude.{is_some}
use Rattle.op_model.specs.declared.act.Act.TheVariants as acts
use Rattle.op_model.specs.declared.reply.ReplyBody.TheVariants as bodies
use Rattle.op_model.specs.declared.request.Request.TheVariants as requests
use Rattle.op_plans.specs.Plans.{IsPlanned}
use Rattle.op_plans.specs.declared.plan.Plan.TheVariants.{Acts}
use Rattle.op_plans.proofs.ProviderPlans.{asset_refused, asset_planned}
use Rattle.op_plans.proofs.provider.plan_add_asset.Goals as goal

pub returns-then-is_some : goal.returns-then-is_some
returns-then-is_some c history is =
    asset_refused history c.args.asset.now c.args.pieces (ap is_some (sym (c.find_asset.ensures history is)) ∙ sym c.is_some.ensures ∙ c.if-is_some.true)

pub returns : goal.returns
returns c history is =
    let asset = c.args.asset.now in
    let pieces = c.args.pieces in
    subst (λ (code : List ℕ). IsPlanned history (requests.AddAsset asset pieces) (Acts (acts.AssetAdded code asset.scale pieces) (bodies.AssetAdded asset pieces))) (sym c.of_code.ensures)
    (asset_planned history asset pieces (ap is_some (sym (c.find_asset.ensures history is)) ∙ sym c.is_some.ensures ∙ c.if-is_some.false))
