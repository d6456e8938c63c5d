-- All laws.
use Rattle.op_model.specs.Laws.{LegalHistoriesKeepLaws}
use Rattle.op_laws.proofs.Caps.{all_capped}
use Rattle.op_laws.proofs.Covered.{all_covered}
use Rattle.op_legal.proofs.Once.{steps_once}
use Rattle.op_laws.proofs.Telescopes.{all_paid}
use Rattle.op_laws.proofs.Zero.{all_zero}

pub all_laws : LegalHistoriesKeepLaws
all_laws history legal = record {
  zero = all_zero history legal;
  caps = all_capped history legal;
  debits = (all_paid history legal).0;
  delivers = (all_paid history legal).1;
  covered = all_covered history legal;
  once = steps_once history legal;
}
