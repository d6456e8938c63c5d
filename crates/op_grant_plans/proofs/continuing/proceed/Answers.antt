use Rattle.std.proofs.Common.{◌≡◌, ℕ, List, ◌∙◌, sym, ap, subst, Some}
use Rattle.std.specs.Prelude.{is_some}
use Rattle.std.specs.List.{AllByRecursion}
use Rattle.op_grant.specs.Rows.{proceed_answer}
use Rattle.op_grant_plans.specs.GrantPlans.{IsContinuation}
use Rattle.op_grant_plans.proofs.ContinuingPlans.{poll_planned, issue_planned}
use Rattle.op_grant_plans.proofs.Rows.{passing_row}
use Rattle.op_legal.specs.Numbers.{ItemNamesMade}
use Rattle.op_model.specs.Shown.{items_shown}
use Rattle.op_model.specs.declared.act.Act.TheVariants as acts
use Rattle.op_model.specs.declared.act.Entry.{Entry}
use Rattle.op_model.specs.declared.grant.Item.{Item}
use Rattle.op_model.specs.declared.reply.ItemShown.{ItemShown}
use Rattle.op_model.specs.declared.reply.ReplyBody.TheVariants as bodies
use Rattle.op_model.specs.declared.row.GrantRow.{GrantRow}
use Rattle.op_names.specs.Secrets.{secret_text}
use Rattle.op_names.specs.declared.Letter.TheVariants as letters
use Rattle.op_naming.specs.Names.{AreNames}
use Rattle.op_plans.specs.declared.plan.Plan.TheVariants.{Acts}
use Rattle.op_grant_plans.proofs.continuing.proceed.Goals as goal

pub row_of-row-requires : goal.row_of-row-requires
row_of-row-requires c = ap is_some (passing_row (proceed_answer c.args.context.now.next.at c.requires.token c.requires.reference) c.args.parts.now.grants.now c.args.n c.args.answer c.requires.passes).there

pub returns-in-Polled : goal.returns-in-Polled
returns-in-Polled c =
    let at = passing_row (proceed_answer c.args.context.now.next.at c.requires.token c.requires.reference) c.args.parts.now.grants.now c.args.n c.args.answer c.requires.passes in
    let there = at.there ∙ ap (λ (r : GrantRow). Some r) (sym (c.row_of-row.ensures at.row at.there)) in
    poll_planned c.args.parts.now c.args.context.now c.args.n c.row_of-row.result.now c.args.answer c.in-Polled.is c.requires there

pub returns-in_ok-items-in-Issued : goal.returns-in_ok-items-in-Issued
returns-in_ok-items-in-Issued c =
    let parts = c.args.parts.now in
    let context = c.args.context.now in
    let n = c.args.n in
    let row = c.row_of-row.result.now in
    let at = passing_row (proceed_answer context.next.at c.requires.token c.requires.reference) parts.grants.now n c.args.answer c.requires.passes in
    let there = at.there ∙ ap (λ (r : GrantRow). Some r) (sym (c.row_of-row.ensures at.row at.there)) in
    let told = subst (λ (is : List Item). (history : List Entry) → AreNames history parts.names.now → AllByRecursion (ItemNamesMade history) is → c.in_ok-items-in-Issued.items.items ≡ items_shown history is) c.as_slice.ensures c.in_ok-items-in-Issued.ensures in
    subst (λ (x : List ItemShown). IsContinuation parts context n c.args.answer (Acts (acts.GrantContinued n context.word.now) (bodies.GrantIssued n x c.secret_text-access.result c.secret_text-continuation.result))) (sym c.new.ensures)
    (subst (λ (x : List ℕ). IsContinuation parts context n c.args.answer (Acts (acts.GrantContinued n context.word.now) (bodies.GrantIssued n c.in_ok-items-in-Issued.items.items x c.secret_text-continuation.result))) (sym c.secret_text-access.ensures)
    (subst (λ (x : List ℕ). IsContinuation parts context n c.args.answer (Acts (acts.GrantContinued n context.word.now) (bodies.GrantIssued n c.in_ok-items-in-Issued.items.items (secret_text letters.Access context.word.now context.next.place) x))) (sym c.secret_text-continuation.ensures)
    (issue_planned parts context n row c.in_ok-items-in-Issued.items.items c.args.answer c.in-Issued.is c.requires there told)))
