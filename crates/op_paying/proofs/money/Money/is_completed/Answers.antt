use Rattle.std.proofs.Common.{◌∙◌, sym, ap, false}
use Rattle.std.specs.Option.{option_copied}
use Rattle.op_model.specs.Incoming.{is_completed}
use Rattle.op_paying.proofs.KeptRows.{completed_kept}
use Rattle.op_paying.proofs.KeptRows.{there, missing}
use Rattle.op_paying.proofs.money.Money.is_completed.Goals as goal

pub is_completed-requires : goal.is_completed-requires
is_completed-requires c = there c.args.self.now.incomings c.args.n _ (sym c.row.ensures ∙ ap option_copied c.in-Some.is)

pub returns-in-Some : goal.returns-in-Some
returns-in-Some c history is = c.is_completed.ensures ∙ completed_kept history c.args.self.now.incomings c.args.n is.received

pub returns-in-None : goal.returns-in-None
returns-in-None c history is = missing history c.args.self.now c.args.n (is_completed history c.args.n) false is (sym c.row.ensures ∙ ap option_copied c.in-None.is)
