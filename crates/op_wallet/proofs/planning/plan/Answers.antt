use Rattle.std.proofs.Common.{List}
use Rattle.op_model.specs.declared.act.Entry.{Entry}
use Rattle.op_naming.specs.Names.{AreNames}
use Rattle.op_plans.specs.Plans.{IsPlanned, AreBased}
use Rattle.op_plans.proofs.ProviderPlans.{ok_from}
use Rattle.op_wallet.specs.Planned.{IsPlanOn}
use Rattle.op_wallet.proofs.Based.{legal_based}
use Rattle.op_wallet.proofs.planning.plan.Goals as goal

pub returns-then-is_provider_request : goal.returns-then-is_provider_request
returns-then-is_provider_request c =
    let names = c.args.parts.now.names in
    let context = c.args.context.now in
    let request = c.args.request.now in
    ok_from c.plan_request.result (λ plan. (h : List Entry) → AreNames h names → AreBased h → IsPlanned h request plan) (IsPlanOn c.args.parts.now context request)
    (λ plan each history fee are place. each history are.names_are (legal_based history are.legal) context.next.at context.word.now fee context.verdict.now)
    c.plan_request.ensures
