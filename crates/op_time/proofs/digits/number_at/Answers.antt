use Rattle.std.proofs.Common.{◌≡◌, ◌+◌, ◌-◌, arith}
use Rattle.op_time.proofs.Fitting.{fits_digits}
use Rattle.op_time.proofs.digits.number_at.Goals as goal

pub number-requires-clause-digits : goal.number-requires-clause-digits
number-requires-clause-digits c =
    let len : c.args.at + c.args.count - c.args.at ≡ c.args.count = omega arith in
    rw len (fits_digits c.args.pattern.now c.args.text.now c.args.at c.args.count c.requires.fits c.requires.digits)
