use Rattle.std.proofs.Common.{sym, subst}
use Rattle.op_grant_plans.specs.GrantPlans.{IsGrantPlan}
use Rattle.op_model.specs.declared.request.Request.{Request}
use Rattle.op_grant_plans.proofs.routes.plan_grant.Goals as goal

pub returns-in-CancelGrant : goal.returns-in-CancelGrant
returns-in-CancelGrant c = subst (λ (r : Request). IsGrantPlan c.args.parts.now c.args.context.now r c.plan_cancel.result) (sym c.in-CancelGrant.is) c.plan_cancel.ensures

pub returns-in-RevokeToken : goal.returns-in-RevokeToken
returns-in-RevokeToken c = subst (λ (r : Request). IsGrantPlan c.args.parts.now c.args.context.now r c.plan_revoke.result) (sym c.in-RevokeToken.is) c.plan_revoke.ensures
