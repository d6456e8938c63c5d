use Rattle.std.proofs.Common.{◌+◌, refl, arith}
use Rattle.op_grant_plans.proofs.AskingPlans.{next_number}
use Rattle.op_grant_plans.proofs.asking.next_number.Goals as goal

pub returns-then-count-place : goal.returns-then-count-place
returns-then-count-place c history same placed = next_number history c.args.place c.args.count (c.args.count + 1) same placed (λ below. refl)

pub returns-else-count-place : goal.returns-else-count-place
returns-else-count-place c history same placed = next_number history c.args.place c.args.count c.args.place same placed (λ below. absurd (omega (arith, below)))
