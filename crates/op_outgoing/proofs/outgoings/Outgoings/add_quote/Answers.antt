use Rattle.std.proofs.Common.{false, refl}
use Rattle.op_outgoing.proofs.Quotes.{tied_more}
use Rattle.op_outgoing.proofs.outgoings.Outgoings.add_quote.Goals as goal

pub invariant_of-self-2 : goal.invariant_of-self-2
invariant_of-self-2 c =
    rw c.in_ok-push.ensures.items (tied_more c.self.inside.quotes.items c.self.inside.payments (record { row = c.args.row; used = false }) c.self.invariant refl c.requires)
