use Rattle.op_names.proofs.IdTexts.{id_read_back}
use Rattle.op_names.proofs.Printing.{row_read_back}
use Rattle.op_names.proofs.laws.rows_read_back.Goals as goal

pub returns : goal.returns
returns c name folder origin small is = row_read_back name.origin folder name.id origin is (id_read_back name.id small)
