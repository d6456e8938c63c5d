use Rattle.std.proofs.Common.{arith}
use Rattle.std.proofs.lemmas.Int.Digits.{digits_value_more}
use Rattle.op_http.proofs.Numbers.{ten_to, ten_to-next, digit_at}
use Rattle.op_http.proofs.length.number.Goals as goal

pub overflow_mul-number : goal.overflow_mul-number
overflow_mul-number c = record { fits = omega (arith, ten_to c.loop-b.b-index 17 (omega arith)) }

pub overflow_add-number : goal.overflow_add-number
overflow_add-number c =
    let digit = digit_at c.args.digits.now c.loop-b.b-index c.requires.digits (omega arith) in
    record { fits = omega (arith, ten_to c.loop-b.b-index 17 (omega arith), c.from.ensures) }

pub loop-b-preserved : goal.loop-b-preserved
loop-b-preserved c =
    let digit = digit_at c.args.digits.now c.loop-b.b-index c.requires.digits (omega arith) in
    let more = digits_value_more 10 c.args.digits.now c.loop-b.b-index (omega arith) in
    let power = ten_to-next c.loop-b.b-index in
    (omega (arith, c.from.ensures), omega (arith, c.from.ensures))
