use Rattle.std.proofs.Common.{◌<◌, ◌^◌, pos, arith, w64}
use Rattle.jiff_core.proofs.SignedLemmas.{back_small}
use Rattle.op_time.proofs.Epoch.{year_of_epoch_day, plain-date_of}
use Rattle.op_time.proofs.calendar.date_of.Goals as goal

pub returns-clause-from_year_zero : goal.returns-clause-from_year_zero
returns-clause-from_year_zero c =
    let small : c.args.day < 2 ^ 63 = omega arith in
    let is = rw (c.from.ensures, back_small w64 (pos c.args.day) small) at c.in-Ok.ensures.value in
    year_of_epoch_day c.in-Ok.date c.args.day is

pub returns-clause-value : goal.returns-clause-value
returns-clause-value c =
    let small : c.args.day < 2 ^ 63 = omega arith in
    let is = rw (c.from.ensures, back_small w64 (pos c.args.day) small) at c.in-Ok.ensures.value in
    plain-date_of c.in-Ok.date c.args.day is
