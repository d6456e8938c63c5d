use Rattle.std.proofs.Common.{ℕ, List, ◌∙◌, sym, ap, subst, Some}
use Rattle.std.specs.Prelude.{is_some}
use Rattle.op_grant.specs.Rows.{decide_answer}
use Rattle.op_grant_plans.specs.GrantPlans.{IsGrantPlan, decision}
use Rattle.op_grant_plans.proofs.DecidingPlans.{refused, planned}
use Rattle.op_grant_plans.proofs.Rows.{passing_row}
use Rattle.op_model.specs.Shown.{redirect_of}
use Rattle.op_model.specs.declared.act.Act.{Act}
use Rattle.op_model.specs.declared.reply.ReplyBody.TheVariants as bodies
use Rattle.op_model.specs.declared.row.GrantRow.{GrantRow}
use Rattle.op_plans.specs.declared.plan.Plan.TheVariants.{Acts}
use Rattle.op_grant_plans.proofs.deciding.plan_decide.Goals as goal

pub row_of-row-requires : goal.row_of-row-requires
row_of-row-requires c = ap is_some (passing_row decide_answer c.args.parts.now.grants.now c.in-Ok.n tt c.in-Ok.ensures.passes).there

pub returns-in-Err : goal.returns-in-Err
returns-in-Err c = refused c.args.parts.now c.args.context.now c.args.accept c.args.grant c.in-Err.refusal c.in-Err.ensures.answer

pub returns : goal.returns
returns c =
    let parts = c.args.parts.now in
    let context = c.args.context.now in
    let n = c.in-Ok.n in
    let at = passing_row decide_answer parts.grants.now n tt c.in-Ok.ensures.passes in
    let there = at.there ∙ ap (λ (r : GrantRow). Some r) (sym (c.row_of-row.ensures at.row at.there)) in
    subst (λ (act : Act). IsGrantPlan parts context (decision c.args.accept c.args.grant) (Acts act (bodies.GrantDecided c.in_ok-redirect.redirect))) (sym c.decided_act.ensures)
    (planned parts context c.args.accept c.args.grant n c.row_of-row.result.now c.in_ok-redirect.redirect c.in-Ok.ensures.answer c.in-Ok.ensures.passes there c.in-Ok.ensures.named
    (c.in_ok-redirect.ensures ∙ ap (λ (r : List ℕ). redirect_of (record c.row_of-row.result.now { reference = Some r })) c.secret_text-reference.ensures))
