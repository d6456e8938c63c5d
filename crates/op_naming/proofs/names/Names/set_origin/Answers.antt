use Rattle.op_naming.proofs.NamesNext.{origin_next}
use Rattle.op_naming.proofs.names.Names.set_origin.Goals as goal

pub returns : goal.returns
returns c history t is = origin_next history t c.args.origin c.args.self.now is
