use Rattle.std.proofs.Common.{ℕ, List, Ok, Err}
use Rattle.op_model.specs.Actions as actions
use Rattle.op_model.specs.PaymentAnswers.{looks_at_address}
use Rattle.op_model.specs.declared.act.Entry.{Entry}
use Rattle.op_model.specs.declared.request.Request.TheVariants.{MakeIncoming}
use Rattle.op_model.specs.declared.request.Verdict.{Verdict}
use Rattle.op_model.specs.Asking.{address_named}
use Rattle.std.specs.Prelude.{◌≡◌}
use Rattle.op_plans.specs.Plans.{IsPlan}
use Rattle.op_plans.proofs.ProviderPlans.{ok_from}
use Rattle.op_token_plans.specs.Answered.{IsAnswered}
use Rattle.op_token_plans.specs.Incomings.{making}
use Rattle.op_token_plans.specs.Parts.{ArePartsOf}
use Rattle.op_token_plans.proofs.Making.{is_plan, make_is}
use Rattle.op_token_plans.proofs.incomings.plan_make_incoming.Goals as goal

pub returns-in-Ok : goal.returns-in-Ok
returns-in-Ok c =
    let parts = c.args.parts.now in
    let asking = c.args.asking.now in
    let verdict = asking.verdict.now in
    let asked = c.args.asked.now in
    let address = c.find_address-address.result in
    let request = MakeIncoming asked.address.now asked.amount asked.expiry asked.metadata.now in
    ok_from c.make.result
    (λ plan. (history : List Entry) (v : Verdict) → ArePartsOf history parts → address ≡ address_named history asked.address.now → IsAnswered history asking.at request v (making history asking.at address asked c.in-Ok.grant) plan)
    (λ plan. (history : List Entry) (word : List ℕ) (fee : ℕ) → ArePartsOf history parts → IsPlan history asking.at word fee request verdict plan)
    (λ plan each history word fee are.
    let named = c.find_address-address.ensures history are.names_are in
    is_plan history asking.at word fee request verdict (making history asking.at address asked c.in-Ok.grant) plan
    (make_is history asking.at asked verdict address (Ok c.in-Ok.grant) named
    (c.in-Ok.ensures history (looks_at_address actions.incoming_payment actions.create address) are.grants_are (c.looks_at_address-looks.ensures history verdict.client)))
    (each history verdict are named))
    c.make.ensures

pub returns-in-Err : goal.returns-in-Err
returns-in-Err c history word fee are =
    let asking = c.args.asking.now in
    let asked = c.args.asked.now in
    let address = c.find_address-address.result in
    make_is history asking.at asked asking.verdict.now address (Err c.in-Err.refusal) (c.find_address-address.ensures history are.names_are)
    (c.in-Err.ensures history (looks_at_address actions.incoming_payment actions.create address) are.grants_are (c.looks_at_address-looks.ensures history asking.verdict.now.client))
