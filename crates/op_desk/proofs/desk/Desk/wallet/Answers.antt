use Rattle.op_desk.proofs.desk.Desk.wallet.Goals as goal

pub returns-clause-sound : goal.returns-clause-sound
returns-clause-sound c = c.self.invariant.sound c.in-Some.wallet c.in-Some.is
