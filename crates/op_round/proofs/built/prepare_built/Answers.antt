use Rattle.op_round.proofs.SoFar.{reading_is_built}
use Rattle.op_round.proofs.built.prepare_built.Goals as goal

pub returns-in-Err-Refused-clause-printable : goal.returns-in-Err-Refused-clause-printable
returns-in-Err-Refused-clause-printable g c =
    reading_is_built c.in-Err-Refused.refusal (rw c.in-Err-Refused.field-0-is at c.in-Err-Refused.ensures.forms)
