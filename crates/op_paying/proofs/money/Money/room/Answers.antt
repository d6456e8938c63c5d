use Rattle.std.proofs.Common.{◌∙◌, sym, ap}
use Rattle.std.specs.Option.{option_copied}
use Rattle.op_model.specs.Incoming.{room_of}
use Rattle.op_paying.proofs.KeptRows.{room_kept}
use Rattle.op_paying.proofs.KeptRows.{there, missing}
use Rattle.op_paying.proofs.money.Money.room.Goals as goal

pub room-requires : goal.room-requires
room-requires c = there c.args.self.now.incomings c.args.n _ (sym c.row.ensures ∙ ap option_copied c.in-Some.is)

pub returns-in-Some-clause-value : goal.returns-in-Some-clause-value
returns-in-Some-clause-value c history is = c.room.ensures.value ∙ room_kept history c.args.self.now.incomings c.args.n is.received

pub returns-in-None-clause-value : goal.returns-in-None-clause-value
returns-in-None-clause-value c history is = missing history c.args.self.now c.args.n (room_of history c.args.n) 0 is (sym c.row.ensures ∙ ap option_copied c.in-None.is)
