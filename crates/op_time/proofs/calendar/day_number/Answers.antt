use Rattle.std.proofs.Common.{pos, arith, w32, refl}
use Rattle.jiff_core.specs.Date.{epoch_day}
use Rattle.jiff_core.proofs.SignedLemmas.{back_small}
use Rattle.op_time.specs.Calendar.{day_number, plain}
use Rattle.op_time.proofs.Epoch.{epoch_day_sum, epoch_day_small, day_number_small, day_number_bound}
use Rattle.op_time.proofs.calendar.day_number.Goals as goal

pub overflow_cast-result-2 : goal.overflow_cast-result-2
overflow_cast-result-2 c =
    let small = day_number_small c.args.date c.requires in
    rw (c.to_unix_epoch_day.ensures.value, back_small w32 (epoch_day c.args.date) (epoch_day_small c.args.date), epoch_day_sum c.args.date c.requires, back_small w32 (pos (day_number (plain c.args.date))) small) (tt, record { fits = omega arith })

pub returns-clause-value : goal.returns-clause-value
returns-clause-value c =
    let small = day_number_small c.args.date c.requires in
    rw (c.to_unix_epoch_day.ensures.value, back_small w32 (epoch_day c.args.date) (epoch_day_small c.args.date), epoch_day_sum c.args.date c.requires, back_small w32 (pos (day_number (plain c.args.date))) small) refl

pub returns-clause-bound : goal.returns-clause-bound
returns-clause-bound c =
    let small = day_number_small c.args.date c.requires in
    rw (c.to_unix_epoch_day.ensures.value, back_small w32 (epoch_day c.args.date) (epoch_day_small c.args.date), epoch_day_sum c.args.date c.requires, back_small w32 (pos (day_number (plain c.args.date))) small) (day_number_bound c.args.date c.requires)
