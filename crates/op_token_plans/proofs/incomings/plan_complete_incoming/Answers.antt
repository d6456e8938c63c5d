use Rattle.std.proofs.Common.{subst, ℕ, List, Option, Ok, Err}
use Rattle.std.specs.Option.{option_map}
use Rattle.op_granting.specs.Access.{AreLooksOf}
use Rattle.op_model.specs.Actions as actions
use Rattle.op_model.specs.PaymentAnswers.{looks_at_row}
use Rattle.op_model.specs.declared.act.Entry.{Entry}
use Rattle.op_model.specs.declared.request.Request.TheVariants.{CompleteIncoming}
use Rattle.op_model.specs.declared.request.Verdict.{Verdict}
use Rattle.op_plans.specs.Plans.{IsPlan}
use Rattle.op_plans.proofs.ProviderPlans.{ok_from}
use Rattle.op_token_plans.specs.Answered.{IsAnswered}
use Rattle.op_token_plans.specs.Incomings.{completion}
use Rattle.op_token_plans.specs.Looks.{pair_of}
use Rattle.op_token_plans.specs.Parts.{ArePartsOf}
use Rattle.op_token_plans.proofs.Making.{is_plan, complete_is}
use Rattle.op_token_plans.proofs.incomings.plan_complete_incoming.Goals as goal

pub returns-in-Ok : goal.returns-in-Ok
returns-in-Ok c =
    let parts = c.args.parts.now in
    let asking = c.args.asking.now in
    let verdict = asking.verdict.now in
    let incoming = c.args.incoming in
    ok_from c.complete.result
    (λ plan. (history : List Entry) (v : Verdict) → ArePartsOf history parts → IsAnswered history asking.at (CompleteIncoming incoming) v (completion history asking.at incoming c.in-Ok.grant) plan)
    (λ plan. (history : List Entry) (word : List ℕ) (fee : ℕ) → ArePartsOf history parts → IsPlan history asking.at word fee (CompleteIncoming incoming) verdict plan)
    (λ plan each history word fee are.
    let row = option_map pair_of c.incoming_place-place.result in
    let looked = looks_at_row history actions.incoming_payment actions.complete 0 row in
    let is = subst (λ (o : Option (List ℕ)). AreLooksOf c.looks_at_row-looks.result history o looked) c.client.ensures (c.looks_at_row-looks.ensures history are.grants_are) in
    is_plan history asking.at word fee (CompleteIncoming incoming) verdict (completion history asking.at incoming c.in-Ok.grant) plan
    (complete_is history asking.at incoming verdict row (Ok c.in-Ok.grant) (c.incoming_place-place.ensures history are.money_is) (c.in-Ok.ensures history looked are.grants_are is))
    (each history verdict are))
    c.complete.ensures

pub returns-in-Err : goal.returns-in-Err
returns-in-Err c history word fee are =
    let asking = c.args.asking.now in
    let row = option_map pair_of c.incoming_place-place.result in
    let looked = looks_at_row history actions.incoming_payment actions.complete 0 row in
    let is = subst (λ (o : Option (List ℕ)). AreLooksOf c.looks_at_row-looks.result history o looked) c.client.ensures (c.looks_at_row-looks.ensures history are.grants_are) in
    complete_is history asking.at c.args.incoming asking.verdict.now row (Err c.in-Err.refusal) (c.incoming_place-place.ensures history are.money_is) (c.in-Err.ensures history looked are.grants_are is)
