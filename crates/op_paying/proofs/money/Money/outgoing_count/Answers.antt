use Rattle.std.proofs.Common.{◌∙◌}
use Rattle.op_paying.proofs.KeptRows.{payments_counted}
use Rattle.op_paying.proofs.money.Money.outgoing_count.Goals as goal

pub returns : goal.returns
returns c history is = c.count.ensures ∙ payments_counted history c.args.self.now is
