use Rattle.std.proofs.Common.{◌∙◌}
use Rattle.op_paying.proofs.KeptRows.{quote_found}
use Rattle.op_paying.proofs.money.Money.quote.Goals as goal

pub returns : goal.returns
returns c history is = c.quote.ensures.value ∙ quote_found history c.args.self.now c.args.n is
