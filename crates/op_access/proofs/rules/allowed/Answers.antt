use Rattle.std.proofs.Common.{rules}
use Rattle.op_access.proofs.Facts.{same_decision}
use Rattle.op_access.proofs.rules.allowed.Goals as goal

pub returns-in-Some-spend-clause-by_history : goal.returns-in-Some-spend-clause-by_history
returns-in-Some-spend-clause-by_history c = same_decision c.args.facts.now _ (search rules)

pub returns-in-None-clause-by_history : goal.returns-in-None-clause-by_history
returns-in-None-clause-by_history c = same_decision c.args.facts.now _ (search rules)
