use Rattle.op_granting.proofs.SpendingFollows.{fits}
use Rattle.op_granting.proofs.laws.spending_fits.Goals as goal

pub returns : goal.returns
returns c = fits
