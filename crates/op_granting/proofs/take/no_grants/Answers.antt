use Rattle.std.proofs.Common.{sym, subst, []}
use Rattle.op_granting.specs.Keeping.{IsGrantsOf}
use Rattle.op_granting.proofs.Keeping.{none_of_none}
use Rattle.op_granting.proofs.take.no_grants.Goals as goal

pub returns : goal.returns
returns c = subst (IsGrantsOf []) (sym c.new.ensures) none_of_none
