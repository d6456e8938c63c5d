use Rattle.std.proofs.Common.{refl}
use Rattle.op_parts.specs.declared.parts.Parts.{Parts}
use Rattle.op_parts.proofs.Taking.{can_take, no_failure, may_fail, failure_taken}
use Rattle.op_parts.proofs.parts.Parts.take_failure.Goals as goal

pub unreachable-requires : goal.unreachable-requires
unreachable-requires c =
    let f = c.requires.fails in
    no_failure c.args.self.now c.args.place c.args.entry.now c.args.payment f.0 f.1 c.requires.may f.2 (c.in_default.ensures c.requires.may.0 c.requires.may.1.are.money_is)

pub take_failed-requires : goal.take_failed-requires
take_failed-requires c =
    let f = c.requires.fails in
    may_fail c.args.self.now c.args.place c.args.entry.now c.args.payment f.0 f.1 c.in-Some.row.now c.requires.may f.2 (c.in-Some.ensures c.requires.may.0 c.requires.may.1.are.money_is)

pub take-requires : goal.take-requires
take-requires c = can_take c.requires.may.0 c.args.self.now c.args.place c.args.entry.now c.requires.may.1

pub returns : goal.returns
returns c =
    let old = c.args.self.now in
    let f = c.requires.fails in
    let new : Parts = record { names = old.names; money = c.take.new.self; grants = c.take_failed.new.grants } in
    failure_taken old new c.args.place c.args.entry.now c.args.payment f.0 f.1 c.in-Some.row.now f.2 c.in-Some.ensures refl c.in-Ok.ensures.ok c.take_failed.ensures
