use Rattle.op_round.proofs.prepare.asked_by.Goals as goal

pub returns-in-Ok-clause-ready : goal.returns-in-Ok-clause-ready
returns-in-Ok-clause-ready g c = λ start. record { built = c.in-Ok.ensures.fit.built; proper = c.in-Ok.ensures.fit.forms }
