use Rattle.std.proofs.Common.{arith}
use Rattle.op_grant_plans.proofs.AskedNamed.{there_above, there_below}
use Rattle.op_grant_plans.proofs.asked.is_there.Goals as goal

pub returns-then-number-ge1 : goal.returns-then-number-ge1
returns-then-number-ge1 c history same = there_above history c.args.incomings c.args.number (omega arith) same

pub returns-else-number-ge1 : goal.returns-else-number-ge1
returns-else-number-ge1 c history same = there_below history c.args.incomings c.args.number (omega arith) same
