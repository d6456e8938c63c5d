use Rattle.std.specs.Char.{is_ascii_digit}
use Rattle.op_time.proofs.Fitting.{list_all_in_front}
use Rattle.op_time.proofs.digits.digits_of.Goals as goal

pub returns-clause-digits : goal.returns-clause-digits
returns-clause-digits c = rw c.digit_count.ensures (list_all_in_front is_ascii_digit c.args.text.now)
