use Rattle.std.proofs.Common.{◌≡◌, ◌+◌, ◌∙◌, sym, ap, arith}
use Rattle.op_time.specs.Starts.{has_begun}
use Rattle.op_time.proofs.Places.{first_has_begun, none_has_begun}
use Rattle.op_time.proofs.Interval.last_begun.Goals as goal

pub loop-high-init : goal.loop-high-init
loop-high-init c =
    (omega arith, omega arith, first_has_begun c.args.self.now c.args.t c.requires.proper c.requires.from_start, none_has_begun c.args.self.now c.args.t c.requires.proper)

pub loop-high-preserved-then-has_begun : goal.loop-high-preserved-then-has_begun
loop-high-preserved-then-has_begun c =
    (omega arith, omega arith, sym c.if-has_begun.ensures, c.loop-high.invariant.3)

pub loop-high-preserved : goal.loop-high-preserved
loop-high-preserved c =
    (omega arith, omega arith, c.loop-high.invariant.2, sym c.if-has_begun.ensures)

pub returns-clause-last : goal.returns-clause-last
returns-clause-last c =
    let next : c.loop-high.low + 1 ≡ c.loop-high.high = omega arith in
    ap (λ j. has_begun c.args.self.now j c.args.t) next ∙ c.loop-high.invariant.3
