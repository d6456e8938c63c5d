use Rattle.std.proofs.Common.{◌≡◌, ℕ, List, None, sym, subst}
use Rattle.std.specs.List.{AllByRecursion}
use Rattle.op_grant_plans.specs.Asking.{IsNewGrant}
use Rattle.op_grant_plans.proofs.AskingPlans.{issued_planned}
use Rattle.op_legal.specs.Numbers.{ItemNamesMade}
use Rattle.op_model.specs.Shown.{items_shown}
use Rattle.op_model.specs.declared.act.Act.TheVariants as acts
use Rattle.op_model.specs.declared.act.Entry.{Entry}
use Rattle.op_model.specs.declared.grant.Item.{Item}
use Rattle.op_model.specs.declared.reply.ItemShown.{ItemShown}
use Rattle.op_model.specs.declared.reply.ReplyBody.TheVariants as bodies
use Rattle.op_names.specs.Secrets.{secret_text}
use Rattle.op_names.specs.declared.Letter.TheVariants as letters
use Rattle.op_naming.specs.Names.{AreNames}
use Rattle.op_plans.specs.declared.plan.Plan.TheVariants.{Acts}
use Rattle.op_grant_plans.proofs.asking.issued.Goals as goal

pub returns : goal.returns
returns c =
    let names = c.args.names.now in
    let context = c.args.context.now in
    let asked = c.args.asked in
    let act = acts.GrantAsked asked.client asked.items None context.word.now in
    let items = c.in_ok-items.items.items in
    let told = subst (λ (is : List Item). (history : List Entry) → AreNames history names → AllByRecursion (ItemNamesMade history) is → items ≡ items_shown history is) c.as_slice.ensures c.in_ok-items.ensures in
    subst (λ (x : List ItemShown). IsNewGrant names c.args.number context asked (Acts act (bodies.GrantIssued c.args.number x c.secret_text-access.result c.secret_text-continuation.result))) (sym c.new.ensures)
    (subst (λ (x : List ℕ). IsNewGrant names c.args.number context asked (Acts act (bodies.GrantIssued c.args.number items x c.secret_text-continuation.result))) (sym c.secret_text-access.ensures)
    (subst (λ (x : List ℕ). IsNewGrant names c.args.number context asked (Acts act (bodies.GrantIssued c.args.number items (secret_text letters.Access context.word.now context.next.place) x))) (sym c.secret_text-continuation.ensures)
    (issued_planned names c.args.number context asked items c.requires told)))
