use Rattle.op_naming.proofs.rates.Rates.set.Goals as goal

pub returns : goal.returns
returns c source target = c.in-Ok.ensures.updates.0 (source, target)
