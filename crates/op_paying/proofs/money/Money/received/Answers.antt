use Rattle.std.proofs.Common.{◌∙◌, sym, ap}
use Rattle.std.specs.Option.{option_copied}
use Rattle.op_model.specs.Payments.{received}
use Rattle.op_paying.proofs.KeptRows.{received_kept}
use Rattle.op_paying.proofs.KeptRows.{there, missing}
use Rattle.op_paying.proofs.money.Money.received.Goals as goal

pub received-requires : goal.received-requires
received-requires c = there c.args.self.now.incomings c.args.n _ (sym c.row.ensures ∙ ap option_copied c.in-Some.is)

pub returns-in-Some : goal.returns-in-Some
returns-in-Some c history is = c.received.ensures.value ∙ received_kept history c.args.self.now.incomings c.args.n is.received

pub returns-in-None : goal.returns-in-None
returns-in-None c history is = missing history c.args.self.now c.args.n (λ row. received history c.args.n) 0 is (sym c.row.ensures ∙ ap option_copied c.in-None.is)
