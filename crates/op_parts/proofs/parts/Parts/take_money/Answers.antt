use Rattle.std.proofs.Common.{refl}
use Rattle.std.proofs.lemmas.Result.{on_ok_weaker, on_err_weaker}
use Rattle.op_parts.specs.declared.parts.Parts.{Parts}
use Rattle.op_parts.proofs.Taking.{can_take, money_taken, money_kept}
use Rattle.op_parts.proofs.parts.Parts.take_money.Goals as goal

pub take-requires : goal.take-requires
take-requires c = can_take c.requires.may.0 c.args.self.now c.args.place c.args.entry.now c.requires.may.1

pub returns-clause-ok : goal.returns-clause-ok
returns-clause-ok c =
    let old = c.args.self.now in
    let new : Parts = record { names = old.names; money = c.take.new.self; grants = old.grants } in
    on_ok_weaker c.take.result (λ money. money_taken old new c.args.place c.args.entry.now c.requires.adds c.requires.on c.requires.quiet refl money refl) c.take.ensures.ok

pub returns-clause-err : goal.returns-clause-err
returns-clause-err c =
    let old = c.args.self.now in
    let new : Parts = record { names = old.names; money = c.take.new.self; grants = old.grants } in
    on_err_weaker c.take.result (λ money. money_kept old new refl money refl) c.take.ensures.err
