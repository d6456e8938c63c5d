use Rattle.std.proofs.Common.{refl}
use Rattle.op_naming.proofs.NamesNext.{alike_names}
use Rattle.op_paying.proofs.Opening.{on_err}
use Rattle.op_parts.specs.Parts.{KeepHistories}
use Rattle.op_parts.specs.declared.parts.Parts.{Parts}
use Rattle.op_parts.proofs.Names.{coded_by, keyed_by, few_names}
use Rattle.op_parts.proofs.Taking.{can_take, names_kept, name_taken}
use Rattle.op_parts.proofs.parts.Parts.take_name.Goals as goal

pub prepare-requires : goal.prepare-requires
prepare-requires c = coded_by c.requires.may.0 c.args.entry.now c.requires.may.1.follows

pub take-requires : goal.take-requires
take-requires c = can_take c.requires.may.0 c.args.self.now c.args.place c.args.entry.now c.requires.may.1

pub add-requires-clause-few : goal.add-requires-clause-few
add-requires-clause-few c =
    let history = c.requires.may.0 in
    let ready = c.prepare.new.self in
    few_names history ready (alike_names history c.args.self.now.names ready c.prepare.ensures.alike c.requires.may.1.are.names_are) c.requires.may.1.small

pub add-requires-clause-act : goal.add-requires-clause-act
add-requires-clause-act c = keyed_by c.args.entry.now.act c.in_ok-added.added c.in_ok-added.ensures.added

pub returns-clause-ok : goal.returns-clause-ok
returns-clause-ok c =
    let old = c.args.self.now in
    let new : Parts = record { names = c.add.new.self; money = c.take.new.self; grants = old.grants } in
    name_taken old new c.args.place c.args.entry.now c.prepare.new.self c.in_ok-added.added c.requires.adds c.prepare.ensures.alike c.in_ok-added.ensures.added c.add.ensures c.in_ok-take.ensures.ok refl

pub returns-in_err-added-clause-err : goal.returns-in_err-added-clause-err
returns-in_err-added-clause-err c =
    let old = c.args.self.now in
    let new : Parts = record { names = c.prepare.new.self; money = old.money; grants = old.grants } in
    on_err c.from_residual.result (KeepHistories old new) (names_kept old new c.prepare.ensures.alike (λ h is. is) refl)

pub returns-in_err-take-clause-err : goal.returns-in_err-take-clause-err
returns-in_err-take-clause-err c =
    let old = c.args.self.now in
    let new : Parts = record { names = c.prepare.new.self; money = c.take.new.self; grants = old.grants } in
    on_err c.from_residual-in_err-take.result (KeepHistories old new) (names_kept old new c.prepare.ensures.alike c.in_err-take.ensures.err refl)
