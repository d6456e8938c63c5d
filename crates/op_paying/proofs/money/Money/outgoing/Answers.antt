use Rattle.std.proofs.Common.{◌∙◌}
use Rattle.op_paying.proofs.KeptRows.{outgoing_found}
use Rattle.op_paying.proofs.money.Money.outgoing.Goals as goal

pub returns : goal.returns
returns c history is = c.row.ensures.value ∙ outgoing_found history c.args.self.now c.args.n is
