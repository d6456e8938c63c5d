use Rattle.op_legal.proofs.Stays.{stays_proper}
use Rattle.op_legal.proofs.answers.tasks_stay_proper.Goals as goal

pub returns : goal.returns
returns c = stays_proper
