use Rattle.std.proofs.Common.{◌∙◌}
use Rattle.op_paying.proofs.KeptRows.{incomings_counted}
use Rattle.op_paying.proofs.money.Money.incoming_count.Goals as goal

pub returns : goal.returns
returns c history is = c.count.ensures ∙ incomings_counted history c.args.self.now is
