use Rattle.std.proofs.Common.{◌∙◌, sym, ap, false}
use Rattle.std.specs.Option.{option_copied}
use Rattle.op_model.specs.Incoming.{is_open}
use Rattle.op_paying.proofs.IncomingMoney.{open_kept}
use Rattle.op_paying.proofs.KeptRows.{there, missing}
use Rattle.op_paying.proofs.money.Money.is_open.Goals as goal

pub is_open-requires : goal.is_open-requires
is_open-requires c = there c.args.self.now.incomings c.args.n _ (sym c.row.ensures ∙ ap option_copied c.in-Some.is)

pub returns-in-Some : goal.returns-in-Some
returns-in-Some c history is = c.is_open.ensures ∙ open_kept history c.args.self.now.incomings c.args.n c.args.t is.received

pub returns-in-None : goal.returns-in-None
returns-in-None c history is = missing history c.args.self.now c.args.n (λ row. is_open history c.args.n row c.args.t) false is (sym c.row.ensures ∙ ap option_copied c.in-None.is)
