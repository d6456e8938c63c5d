use Rattle.op_naming.proofs.rates.Rates.reserve.Goals as goal

pub returns-clause-same : goal.returns-clause-same
returns-clause-same c source target = c.reserve.ensures.entries.2 (source, target)
