use Rattle.op_names.proofs.IdTexts.{id_read_back}
use Rattle.op_names.proofs.laws.ids_read_back.Goals as goal

pub returns : goal.returns
returns c = id_read_back
