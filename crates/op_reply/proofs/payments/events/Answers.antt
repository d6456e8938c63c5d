use Rattle.std.proofs.Common.{sym, subst}
use Rattle.std.specs.Str.{IsUtf8}
use Rattle.op_reply.proofs.payments.events.Goals as goal

pub event-requires-clause-payee : goal.event-requires-clause-payee
event-requires-clause-payee c =
    subst (λ shown. IsUtf8 shown.payee) (sym c.shown-item.is) (c.requires.texts c.loop-shown.shown-index c.shown-item.result c.loop-shown-test.true)
