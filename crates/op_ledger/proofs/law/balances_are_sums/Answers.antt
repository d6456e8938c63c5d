use Rattle.op_ledger.proofs.Sums.{balances_are_sums}
use Rattle.op_ledger.proofs.law.balances_are_sums.Goals as goal

pub returns : goal.returns
returns c = balances_are_sums
