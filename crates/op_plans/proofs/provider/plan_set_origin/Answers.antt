use Rattle.std.proofs.Common.{◌∙◌, sym}
use Rattle.op_plans.proofs.ProviderPlans.{origin_refused, origin_planned}
use Rattle.op_plans.proofs.provider.plan_set_origin.Goals as goal

pub returns-then-is_fixed : goal.returns-then-is_fixed
returns-then-is_fixed c history is = origin_refused history c.args.origin.now (sym (c.is_fixed.ensures history is) ∙ c.if-is_fixed.true)

pub returns : goal.returns
returns c history is = origin_planned history c.args.origin.now (sym (c.is_fixed.ensures history is) ∙ c.if-is_fixed.false)
