use Rattle.op_desk.proofs.Unique.{one_spelling, one_history}
use Rattle.op_desk.proofs.laws.disks_spell_one_history.Goals as goal

pub returns-clause-rounds : goal.returns-clause-rounds
returns-clause-rounds c = one_spelling

pub returns-clause-history : goal.returns-clause-history
returns-clause-history c = one_history
