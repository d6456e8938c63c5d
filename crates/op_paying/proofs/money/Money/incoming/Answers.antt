use Rattle.std.proofs.Common.{◌∙◌}
use Rattle.op_paying.proofs.KeptRows.{incoming_found}
use Rattle.op_paying.proofs.money.Money.incoming.Goals as goal

pub returns : goal.returns
returns c history is = c.row.ensures ∙ incoming_found history c.args.self.now c.args.n is
