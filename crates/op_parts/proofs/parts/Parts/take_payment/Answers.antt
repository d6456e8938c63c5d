use Rattle.std.proofs.Common.{refl}
use Rattle.op_paying.proofs.Opening.{on_err}
use Rattle.op_parts.specs.Parts.{KeepHistories}
use Rattle.op_parts.specs.declared.parts.Parts.{Parts}
use Rattle.op_parts.proofs.Taking.{can_take, may_pay, payer_there, payment_taken, payment_kept}
use Rattle.op_parts.proofs.parts.Parts.take_payment.Goals as goal

pub make_room-requires : goal.make_room-requires
make_room-requires c = payer_there c.args.self.now c.args.place c.args.entry.now c.args.paid c.requires.may c.requires.pays

pub take-requires : goal.take-requires
take-requires c = can_take c.requires.may.0 c.args.self.now c.args.place c.args.entry.now c.requires.may.1

pub take_made-requires : goal.take_made-requires
take_made-requires c = may_pay c.args.self.now c.args.place c.args.entry.now c.args.paid c.make_room.new.grants c.requires.may c.requires.pays c.make_room.ensures.kept

pub returns-in_err-make_room-clause-err : goal.returns-in_err-make_room-clause-err
returns-in_err-make_room-clause-err c =
    let old = c.args.self.now in
    let new : Parts = record { names = old.names; money = old.money; grants = c.make_room.new.grants } in
    on_err c.from_residual.result (KeepHistories old new) (payment_kept old new refl (λ h is. is) c.make_room.ensures.kept)

pub returns-in_err-take-clause-err : goal.returns-in_err-take-clause-err
returns-in_err-take-clause-err c =
    let old = c.args.self.now in
    let new : Parts = record { names = old.names; money = c.take.new.self; grants = c.make_room.new.grants } in
    on_err c.from_residual-in_err-take.result (KeepHistories old new) (payment_kept old new refl c.in_err-take.ensures.err c.make_room.ensures.kept)

pub returns-clause-ok : goal.returns-clause-ok
returns-clause-ok c =
    let old = c.args.self.now in
    let new : Parts = record { names = old.names; money = c.take.new.self; grants = c.take_made.new.grants } in
    payment_taken old new c.args.place c.args.entry.now c.args.paid c.make_room.new.grants c.requires.pays refl c.in_ok-take.ensures.ok c.make_room.ensures.kept c.in-Ok.ensures.ok
