use Rattle.std.proofs.Common.{ℕ, ◌<◌, ◌≤◌, ◌∙◌, sym, ap, subst, arith}
use Rattle.op_time.specs.Interval.{Interval, IsInterval}
use Rattle.op_time.specs.declared.Place.TheVariants.{Before, Inside, After}
use Rattle.op_time.proofs.Places.{lies_once, lies_in-last, in_none, true-le}
use Rattle.op_time.proofs.Interval.index_at.Goals as goal

pub returns-then-ms-clause-once : goal.returns-then-ms-clause-once
returns-then-ms-clause-once c =
    lies_once c.args.self.now c.args.t (subst IsInterval c.self.view_is c.self.invariant)

pub returns-then-has-clause-once : goal.returns-then-has-clause-once
returns-then-has-clause-once c =
    lies_once c.args.self.now c.args.t (subst IsInterval c.self.view_is c.self.invariant)

pub returns-else-has-clause-once : goal.returns-else-has-clause-once
returns-else-has-clause-once c =
    lies_once c.args.self.now c.args.t (subst IsInterval c.self.view_is c.self.invariant)

pub last_begun-j-requires : goal.last_begun-j-requires
last_begun-j-requires c =
    let start = ap (λ (i : Interval). i.start) c.self.view_is in
    record { proper = subst IsInterval c.self.view_is c.self.invariant; from_start = omega arith }

pub returns-then-ms-clause-value : goal.returns-then-ms-clause-value
returns-then-ms-clause-value c =
    let is = subst IsInterval c.self.view_is c.self.invariant in
    let start = ap (λ (i : Interval). i.start) c.self.view_is in
    let early : c.args.t < c.args.self.now.start = omega arith in
    sym ((lies_once c.args.self.now c.args.t is).only Before early)

pub returns-then-has-clause-value : goal.returns-then-has-clause-value
returns-then-has-clause-value c =
    let is = subst IsInterval c.self.view_is c.self.invariant in
    let last = c.last_begun-j.ensures in
    let inside = lies_in-last c.args.self.now c.args.t c.last_begun-j.result (last.begun, last.last) ∙ sym c.if-has.ensures in
    sym ((lies_once c.args.self.now c.args.t is).only (Inside c.last_begun-j.result) inside)

pub returns-else-has-clause-value : goal.returns-else-has-clause-value
returns-else-has-clause-value c =
    let is = subst IsInterval c.self.view_is c.self.invariant in
    let start = ap (λ (i : Interval). i.start) c.self.view_is in
    let from_start : c.args.self.now.start ≤ c.args.t = omega arith in
    let last = c.last_begun-j.ensures in
    let none = λ (k : ℕ). in_none c.args.self.now c.args.t c.last_begun-j.result k is.takes_time (last.begun, last.last) (sym c.if-has.ensures) in
    sym ((lies_once c.args.self.now c.args.t is).only After (true-le _ _ from_start, none))
