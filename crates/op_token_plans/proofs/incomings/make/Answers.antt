use Rattle.std.proofs.Common.{◌≡◌, ℕ, List, ◌∙◌, sym, ap, subst, arith, Option}
use Rattle.op_laws.proofs.MakingActs.{is_address}
use Rattle.op_laws.proofs.Placed.{all_placed}
use Rattle.op_legal.proofs.Named.{address_there}
use Rattle.op_model.specs.Asking.{address_named}
use Rattle.op_model.specs.History.{nth, addresses}
use Rattle.op_model.specs.PaymentAnswers.{expiry_of, incoming_refusals}
use Rattle.op_model.specs.declared.act.Entry.{Entry}
use Rattle.op_model.specs.declared.request.Request.TheVariants.{MakeIncoming}
use Rattle.op_model.specs.declared.request.Verdict.{Verdict}
use Rattle.op_model.specs.declared.row.IncomingRow.{IncomingRow}
use Rattle.op_plans.specs.declared.plan.Plan.{Plan}
use Rattle.op_plans.proofs.ProviderPlans.{ok_from}
use Rattle.op_token_plans.specs.Answered.{IsAnswered}
use Rattle.op_token_plans.specs.Incomings.{making, made_plan}
use Rattle.op_token_plans.specs.Parts.{ArePartsOf}
use Rattle.op_token_plans.proofs.Making.{strange_refused, making_refused, refusals_are, row_from, made_answer}
use Rattle.op_token_plans.proofs.Showing.{is_told, no_asset_told, no_path_told}
use Rattle.op_token_plans.proofs.incomings.make.Goals as goal

pub returns-in_default : goal.returns-in_default
returns-in_default c history verdict are named = ap (λ (a : Option ℕ). making history c.args.at a c.args.asked.now c.args.grant) c.in_default.is

pub returns-in_default-asset_of : goal.returns-in_default-asset_of
returns-in_default-asset_of c history verdict are named =
    let n = c.in-Some.address in
    let there = is_address history n (address_there history c.args.asked.now.address.now n (sym named ∙ c.in-Some.is)) in
    absurd (no_asset_told history n there (c.in_default-asset_of.ensures history are.names_are (all_placed history are.money_is.legal).based))

pub returns-then-is_strange : goal.returns-then-is_strange
returns-then-is_strange c history verdict are named =
    ap (λ (a : Option ℕ). making history c.args.at a c.args.asked.now c.args.grant) c.in-Some.is
    ∙ strange_refused history c.args.at c.in-Some.address c.args.asked.now c.args.grant (sym (c.is_strange.ensures history are.names_are) ∙ c.if-is_strange.true)

pub returns-in-Some-making_refusal : goal.returns-in-Some-making_refusal
returns-in-Some-making_refusal c history verdict are named =
    let n = c.in-Some.address in
    let asked = c.args.asked.now in
    let asset_is = is_told _ _ (nth (addresses history) n) (c.in-Some-asset_of.ensures history are.names_are (all_placed history are.money_is.legal).based) in
    ap (λ (a : Option ℕ). making history c.args.at a asked c.args.grant) c.in-Some.is
    ∙ making_refused history c.args.at n asked c.args.grant c.in-Some-making_refusal.refusal (sym (c.is_strange.ensures history are.names_are) ∙ c.if-is_strange.false)
    (refusals_are history c.args.at n asked c.in-Some-asset_of.asset c.expiry_of-expiry.result _ asset_is c.expiry_of-expiry.ensures c.in-Some-making_refusal.ensures)

pub returns-in_default-2 : goal.returns-in_default-2
returns-in_default-2 c history verdict are named =
    let n = c.in-Some.address in
    let there = is_address history n (address_there history c.args.asked.now.address.now n (sym named ∙ c.in-Some.is)) in
    absurd (no_path_told history n there (sym c.in_default-2.is ∙ c.in_ok-path.ensures history are.names_are))

pub returns-in-Some-checked_add : goal.returns-in-Some-checked_add
returns-in-Some-checked_add c =
    let t = c.args.at in
    let grant = c.args.grant in
    let asked = c.args.asked.now in
    let parts = c.args.parts.now in
    let address = c.args.address in
    let n = c.in-Some.address in
    let asset = c.in-Some-asset_of.asset in
    let path = c.in-Some-2.path in
    let number = c.in-Some-checked_add.number in
    let row : IncomingRow = record { address = n; grant = grant; amount = c.value_of.result; expiry = c.expiry_of-expiry.result; made = t; metadata = c.in_ok-copy_metadata.field-0 } in
    let request = MakeIncoming asked.address.now asked.amount asked.expiry asked.metadata.now in
    let ends_is : c.expiry_of-expiry.result ≡ expiry_of t asked.expiry = c.expiry_of-expiry.ensures in
    ok_from c.made.result (λ plan. plan ≡ made_plan number path asset row)
    (λ plan. (history : List Entry) (v : Verdict) → ArePartsOf history parts → address ≡ address_named history asked.address.now → IsAnswered history t request v (making history t address asked grant) plan)
    (λ plan same history v are named.
    subst (λ (p : Plan). IsAnswered history t request v (making history t address asked grant) p) (sym same)
    (made_answer history t address n grant number asset path asked row parts.money.now.incomings v are.money_is.legal are.money_is.received c.in-Some.is
    (row_from n grant t _ _ _ _ _ _ c.value_of.ensures ends_is c.in_ok-copy_metadata.ensures)
    (omega (arith, c.in-Some-checked_add.ensures.1, c.incoming_count.ensures history are.money_is))
    (is_told _ _ (nth (addresses history) n) (c.in-Some-asset_of.ensures history are.names_are (all_placed history are.money_is.legal).based))
    (is_told _ _ (nth (addresses history) n) (sym c.in-Some-2.is ∙ c.in_ok-path.ensures history are.names_are))
    (sym (c.is_strange.ensures history are.names_are) ∙ c.if-is_strange.false)
    (c.in_default-making_refusal.ensures ∙ ap (incoming_refusals t asset asked.amount) ends_is)))
    c.made.ensures
