use Rattle.std.proofs.Common.{◌∙◌, ap}
use Rattle.op_granting.specs.Spending.{paid_by}
use Rattle.op_parts.proofs.Leaving.{no_spending}
use Rattle.op_parts.proofs.Taking.{quote_there}
use Rattle.op_parts.proofs.parts.Parts.take_spending.Goals as goal

pub paid_from-paid-requires : goal.paid_from-paid-requires
paid_from-paid-requires c =
    let a = c.in-OutgoingMade in
    (c.requires.may.0, c.requires.may.1.are.money_is, quote_there c.requires.may.0 c.args.entry.now a.grant a.quote a.metadata a.is c.requires.may.1.follows)

pub unreachable-requires : goal.unreachable-requires
unreachable-requires c =
    let d = c.in_default in
    no_spending c.args.entry.now.act c.requires.spends d.not-OutgoingMade d.not-OutgoingDirect d.not-OutgoingFailed

pub take_payment-requires-clause-pays : goal.take_payment-requires-clause-pays
take_payment-requires-clause-pays c = λ history are. ap (paid_by history) c.in-OutgoingMade.is ∙ c.paid_from-paid.ensures history are.money_is
