use Rattle.std.proofs.Common.{◌≡◌, ◌∙◌, ap}
use Rattle.op_record.specs.declared.fault.Fault.{Fault}
use Rattle.op_record.specs.declared.fault.ReadError.TheVariants as errors
use Rattle.op_record.specs.declared.fault.Fault.TheVariants.{Bad}
use Rattle.op_record.proofs.RoundLaws.{told}
use Rattle.op_record.proofs.rounds.read_whole.Goals as goal

pub overflow_sub-at : goal.overflow_sub-at
overflow_sub-at c =
    let part : c.in-Fault-Bad.field-0 ≡ Bad c.in-Fault-Bad.left = rw c.in-Fault-Bad.is at c.in-Fault-Bad.field-0-is in
    let e : c.in-Err.error ≡ errors.Fault (Bad c.in-Fault-Bad.left) = c.in-Fault-Bad.is ∙ ap (λ (f : Fault). errors.Fault f) part in
    (c.in-Err.ensures.bad c.in-Fault-Bad.left (ap told e)).within
