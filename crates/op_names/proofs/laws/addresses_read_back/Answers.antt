use Rattle.op_names.proofs.Printing.{address_read}
use Rattle.op_names.proofs.laws.addresses_read_back.Goals as goal

pub returns : goal.returns
returns c name origin path = address_read name.origin name.path origin path
