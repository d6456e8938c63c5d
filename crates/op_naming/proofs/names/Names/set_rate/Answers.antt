use Rattle.op_naming.proofs.NamesNext.{rate_next}
use Rattle.op_naming.proofs.names.Names.set_rate.Goals as goal

pub returns : goal.returns
returns c history t is = rate_next history t c.args.source c.args.target c.args.rate c.args.self.now c.set.new.self is c.set.ensures
