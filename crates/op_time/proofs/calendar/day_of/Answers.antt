use Rattle.std.proofs.Common.{◌∙◌, Some, ap, arith, w8, w16}
use Rattle.std.proofs.lemmas.Int.{to_z_pos}
use Rattle.op_time.proofs.Epoch.{day_of_date-civil}
use Rattle.op_time.proofs.calendar.day_of.Goals as goal

pub returns-in-Ok-clause-value : goal.returns-in-Ok-clause-value
returns-in-Ok-clause-value c =
    let parts = c.in-Ok.ensures.value in
    let year = to_z_pos w16 c.args.year (omega arith) in
    let month = to_z_pos w8 c.args.month (omega arith) in
    let day = to_z_pos w8 c.args.day (omega arith) in
    ap Some c.day_number.ensures.value ∙ day_of_date-civil c.in-Ok.date c.args.year c.args.month c.args.day (parts.0 ∙ year) (parts.1 ∙ month) (parts.2 ∙ day)
