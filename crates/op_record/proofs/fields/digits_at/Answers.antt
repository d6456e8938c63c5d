use Rattle.std.proofs.Common.{◌≡◌, ◌<◌, ◌≤◌, ◌+◌, ◌-◌, ◌*◌, ◌/◌, ◌^◌, ◌∷◌, ◌∙◌, arith, sym, ap, subst}
use Rattle.std.proofs.Math.Nat.{div-le_self}
use Rattle.op_record.proofs.Numbers.{pow_positive}
use Rattle.op_record.proofs.Digits.{power_low, digit_fits, digits_end, digits_bad, digits_more, digits_done}
use Rattle.op_record.proofs.fields.digits_at.Goals as goal

pub pow-requires : goal.pow-requires
pow-requires c = omega (arith, power_low (c.args.width - 1 - c.loop-at.at) (omega arith))

pub nonzero_div-most : goal.nonzero_div-most
nonzero_div-most c = omega (arith, pow_positive (c.args.width - 1 - c.loop-at.at))

pub returns-in_default-clause-gives : goal.returns-in_default-clause-gives
returns-in_default-clause-gives c = digits_end c.args.limit c.args.width c.loop-at.at c.loop-at.number c.loop-at.rest.now _ c.loop-at-test.true c.in_default.ensures.parts c.loop-at.invariant.so_far

pub overflow_mul-more : goal.overflow_mul-more
overflow_mul-more c = omega (arith, power_low c.loop-at.at (omega arith))

pub overflow_add-more : goal.overflow_add-more
overflow_add-more c = omega (arith, power_low c.loop-at.at (omega arith), c.in-Some.ensures.small)

pub returns-then-more-most-clause-gives : goal.returns-then-more-most-clause-gives
returns-then-more-most-clause-gives c =
    let big : c.args.limit / 256 ^ (c.args.width - 1 - c.loop-at.at) < c.loop-at.number * 256 + c.in-Some.digit =
    rw (← c.pow.ensures, ← c.from.ensures) c.if-more-most.true in
    digits_bad c.args.limit c.args.width c.loop-at.at c.loop-at.number c.in-Some.digit c.loop-at.rest.now c.in-Some.after.now _ c.loop-at-test.true c.in-Some.ensures.parts big c.loop-at.invariant.so_far

pub loop-at-preserved : goal.loop-at-preserved
loop-at-preserved c =
    let le : c.loop-at.number * 256 + c.in-Some.digit ≤ c.args.limit / 256 ^ (c.args.width - 1 - c.loop-at.at) =
    rw (← c.pow.ensures, ← c.from.ensures) c.if-more-most.false in
    rw c.from.ensures (record {
      so_far = digits_more c.args.limit c.args.width c.loop-at.at c.loop-at.number c.in-Some.digit c.loop-at.rest.now c.in-Some.after.now _ c.loop-at-test.true c.in-Some.ensures.parts c.in-Some.ensures.small le c.loop-at.invariant.so_far;
      few = digit_fits c.loop-at.at c.loop-at.number c.in-Some.digit c.loop-at.invariant.few c.in-Some.ensures.small;
      low = omega (arith, le, div-le_self c.args.limit (256 ^ (c.args.width - 1 - c.loop-at.at)));
    })

pub returns-clause-gives : goal.returns-clause-gives
returns-clause-gives c = digits_done c.args.limit c.args.width c.loop-at.at c.loop-at.number c.loop-at.rest.now _ c.loop-at-test.false c.loop-at.invariant.so_far
