use Rattle.std.proofs.Common.{sym}
use Rattle.op_plans.proofs.ProviderPlans.{address_there}
use Rattle.op_plans.proofs.provider.plan_read_address.Goals as goal

pub returns-in_default-2 : goal.returns-in_default-2
returns-in_default-2 c history is based t word fee verdict =
    absurd (address_there history c.args.path.now c.in-Some.number c.in_ok-address.field-0 (sym (c.in-Some.ensures history is)) (c.in_ok-address.ensures history is based) c.in_default-2.is)
