use Rattle.std.proofs.Common.{length, arith}
use Rattle.op_time.proofs.Fitting.{ten_to}
use Rattle.op_time.proofs.intervals.part.Goals as goal

pub returns-clause-bound : goal.returns-clause-bound
returns-clause-bound c =
    omega (arith, c.number.ensures.bound, ten_to (length c.digits_of-digits.result.now) 6 (omega arith))
