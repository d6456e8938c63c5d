use Rattle.std.proofs.Common.{length, ◌∙◌, sym, ap, Option, Err}
use Rattle.std.specs.List.{list_any}
use Rattle.std.specs.declared.result.Result.{Result}
use Rattle.op_grant_plans.specs.Asking.{IsNewGrant}
use Rattle.op_grant_plans.specs.GrantPlans.{IsGrantPlan}
use Rattle.op_grant_plans.proofs.AskingPlans.{refused_as, planned}
use Rattle.op_model.specs.GrantAnswers.{items_asked, is_strange_item}
use Rattle.op_model.specs.declared.act.Act.{Act}
use Rattle.op_model.specs.declared.grant.Asked.{Asked}
use Rattle.op_model.specs.declared.reply.Refusal.{Refusal}
use Rattle.op_model.specs.declared.request.Request.TheVariants.{AskGrant}
use Rattle.op_plans.proofs.ProviderPlans.{ok_from}
use Rattle.op_grant_plans.proofs.asking.plan_ask.Goals as goal

pub returns-in-Ok : goal.returns-in-Ok
returns-in-Ok c =
    let parts = c.args.parts.now in
    let context = c.args.context.now in
    let items = c.args.items.now in
    let client = c.args.client.now in
    let interact = c.args.interact.now in
    let number = c.next_number-number.result in
    let asked : Asked = record { client = c.in_ok-clone.field-0; items = c.new.result; interact = c.in_ok-clone-2.field-0; strange = c.has_strange_item.result } in
    ok_from c.new_grant.result (IsNewGrant parts.names.now number context asked) (IsGrantPlan parts context (AskGrant items client interact))
    (λ plan is. planned parts context items client interact _ asked number plan (sym c.if-not-is_proved.ensures) c.in-Some.is (sym c.if-not-is_same_client.ensures)
    (λ history are. record {
      client_is = c.in_ok-clone.ensures;
      items_are = c.new.ensures ∙ c.in_ok-items_asked.ensures history are.names_are ∙ ap (items_asked history) c.as_slice.ensures;
      interact_is = c.in_ok-clone-2.ensures;
      strange_is = c.has_strange_item.ensures history are.names_are are.incomings_are ∙ ap (list_any (is_strange_item history)) c.as_slice-2.ensures;
    })
    c.in-Ok.ensures.passes
    (λ history are. c.next_number-number.ensures history (c.count.ensures ∙ ap length are.grants_are.rows) are.place_is)
    is)
    c.new_grant.ensures

pub returns-in-Err : goal.returns-in-Err
returns-in-Err c history fee are =
    let context = c.args.context.now in
    let asked : Asked = record { client = c.in_ok-clone.field-0; items = c.new.result; interact = c.in_ok-clone-2.field-0; strange = c.has_strange_item.result } in
    refused_as history context.word.now c.args.items.now c.args.client.now c.args.interact.now context.verdict.now _ asked c.in-Err.fault (sym c.if-not-is_proved.ensures) c.in-Some.is (sym c.if-not-is_same_client.ensures)
    (record {
      client_is = c.in_ok-clone.ensures;
      items_are = c.new.ensures ∙ c.in_ok-items_asked.ensures history are.names_are ∙ ap (items_asked history) c.as_slice.ensures;
      interact_is = c.in_ok-clone-2.ensures;
      strange_is = c.has_strange_item.ensures history are.names_are are.incomings_are ∙ ap (list_any (is_strange_item history)) c.as_slice-2.ensures;
    })
    c.in-Err.ensures.fault
    ∙ ap (λ (r : Refusal). let x : Result (Option Act) Refusal = Err r in x) (sym c.refusal_of.ensures)
