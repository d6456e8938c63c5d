use Rattle.std.proofs.Common.{◌≡◌, ◌∙◌, ap, subst, sym}
use Rattle.std.specs.Prelude.{is_some}
use Rattle.op_model.specs.declared.request.Request.TheVariants.{AddAddress}
use Rattle.op_plans.specs.Plans.{IsPlanned}
use Rattle.op_plans.specs.Plans.{address_plan}
use Rattle.op_plans.specs.declared.plan.Plan.{Plan}
use Rattle.op_model.specs.declared.act.Entry.{Entry}
use Rattle.std.proofs.Common.{List}
use Rattle.op_naming.specs.Names.{AreNames}
use Rattle.op_plans.proofs.ProviderPlans.{address_exists, address_planned, ok_from}
use Rattle.op_plans.proofs.provider.plan_add_address.Goals as goal

pub returns-then-is_some : goal.returns-then-is_some
returns-then-is_some c history is =
    address_exists history c.args.path.now c.args.asset.now c.args.name.now c.in-Some.number (sym (c.in-Some.ensures history is))
    (ap is_some (sym (c.find_path.ensures history is)) ∙ sym c.is_some.ensures ∙ c.if-is_some.true)

pub returns : goal.returns
returns c =
    let path = c.args.path.now in
    let asset = c.args.asset.now in
    let name = c.args.name.now in
    let number = c.in-Some.number in
    let count = c.address_count.result in
    ok_from c.new_address.result (λ plan. plan ≡ address_plan path asset name number count)
    (λ plan. (history : List Entry) → AreNames history c.args.names.now → IsPlanned history (AddAddress path asset name) plan)
    (λ plan same history is.
    subst (λ (p : Plan). IsPlanned history (AddAddress path asset name) p) (sym same)
    (address_planned history path asset name number count (sym (c.in-Some.ensures history is))
    (ap is_some (sym (c.find_path.ensures history is)) ∙ sym c.is_some.ensures ∙ c.if-is_some.false) (c.address_count.ensures history is)))
    c.new_address.ensures
