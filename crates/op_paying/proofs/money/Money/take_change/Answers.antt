use Rattle.op_paying.proofs.Acts.{leaves_rest}
use Rattle.op_paying.proofs.Untouched.{money_stays}
use Rattle.op_paying.proofs.money.Money.take_change.Goals as goal

pub returns-in_default : goal.returns-in_default
returns-in_default c history is next =
    let d = c.in_default in
    money_stays history c.args.entry.now c.args.self.now (leaves_rest c.args.entry.now.act c.requires.makes d.not-Deposited d.not-Withdrawn d.not-IncomingCompleted d.not-IncomingExpired d.not-OutgoingFunded d.not-OutgoingSent d.not-OutgoingCompleted d.not-OutgoingFailed) is next
