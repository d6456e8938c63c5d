use Rattle.std.proofs.Common.{ℕ, Option, sym, subst}
use Rattle.op_model.specs.declared.act.Act.TheVariants.{OutgoingFailed}
use Rattle.op_model.specs.declared.act.FailReason.TheVariants.{Cancelled}
use Rattle.op_model.specs.declared.reply.ReplyBody.TheVariants.{OutgoingInspected}
use Rattle.op_model.specs.declared.request.Request.TheVariants.{CancelOutgoing}
use Rattle.op_plans.specs.Plans.{IsPlanned}
use Rattle.op_plans.specs.declared.plan.Plan.TheVariants.{Acts}
use Rattle.op_money_plans.proofs.OutgoingPlans.{payment_cancelled}
use Rattle.op_money_plans.proofs.outgoing.plan_cancel_outgoing.Goals as goal

pub returns : goal.returns
returns c history is =
    let n = c.in-Some.number in
    let row = c.in-Some-outgoing.row.now in
    let progress = c.in-Some-cancelled.progress in
    subst (λ (p : Option ℕ). IsPlanned history (CancelOutgoing p) (Acts (OutgoingFailed n row.step Cancelled) (OutgoingInspected n progress))) (sym c.in-Some.is)
    (payment_cancelled history n row progress (sym (c.in-Some-outgoing.ensures history is)) (c.in-Some-cancelled.ensures history is))
