use Rattle.op_grant_plans.specs.GrantPlans.{IsContinuation, IsGrantPlan}
use Rattle.op_grant_plans.proofs.ContinuingPlans.{continue_planned}
use Rattle.op_model.specs.declared.request.Request.TheVariants.{ContinueGrant}
use Rattle.op_plans.proofs.ProviderPlans.{ok_from}
use Rattle.op_grant_plans.proofs.continuing.plan_continue.Goals as goal

pub returns-in-Ok : goal.returns-in-Ok
returns-in-Ok c =
    let parts = c.args.parts.now in
    let context = c.args.context.now in
    ok_from c.proceed.result (IsContinuation parts context c.in-Ok.n c.in-Ok.answer) (IsGrantPlan parts context (ContinueGrant c.args.grant c.args.reference.now))
    (λ plan is. continue_planned parts context c.args.grant c.args.reference.now c.in-Ok.n c.in-Ok.answer plan c.in-Ok.ensures.named c.in-Ok.ensures.answer is) c.proceed.ensures
