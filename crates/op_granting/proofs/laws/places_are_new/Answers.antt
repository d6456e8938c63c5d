use Rattle.op_granting.proofs.Drawing.{places_are_new}
use Rattle.op_granting.proofs.laws.places_are_new.Goals as goal

pub returns : goal.returns
returns c = places_are_new
