use Rattle.std.proofs.Common.{◌≡◌, ◌<◌, ◌≤◌, ◌+◌, ◌*◌, ◌^◌, ◌++◌, ◌∙◌, List, ℕ, arith, ap, subst}
use Rattle.std.specs.Int.{bytes_high_first}
use Rattle.op_record.proofs.Digits.{power_low, digit_fits, whole_more, whole_is}
use Rattle.op_record.proofs.fields.whole_at.Goals as goal

pub overflow_mul-number : goal.overflow_mul-number
overflow_mul-number c = omega (arith, power_low c.loop-at._at (omega arith))

pub overflow_add-number : goal.overflow_add-number
overflow_add-number c = omega (arith, power_low c.loop-at._at (omega arith), c.in_ok-digit.ensures.small)

pub loop-at-preserved : goal.loop-at-preserved
loop-at-preserved c =
    let d = c.in_ok-digit in
    let inv = c.loop-at.invariant in
    rw c.from.ensures (record {
      so_far = whole_more c.loop-at._at c.loop-at.number d.digit c.args.bytes.now c.loop-at.rest.now d.after.now d.ensures.small inv.so_far d.ensures.parts;
      few = digit_fits c.loop-at._at c.loop-at.number d.digit inv.few d.ensures.small;
    })

pub returns : goal.returns
returns c =
    let inv = c.loop-at.invariant in
    let end : c.loop-at._at ≡ c.args.width = omega (arith, c.loop-at-test.false, c.loop-at.auto._at-end) in (
      subst (λ (k : ℕ). c.loop-at.number < 256 ^ k) end inv.few,
      inv.so_far ∙ ap (λ (k : ℕ). bytes_high_first k c.loop-at.number ++ c.loop-at.rest.now) end ∙ ap (λ (l : List ℕ). l ++ c.loop-at.rest.now) (whole_is c.args.width c.loop-at.number),
    )
