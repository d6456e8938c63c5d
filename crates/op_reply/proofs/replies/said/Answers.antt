use Rattle.std.proofs.Common.{sym, subst}
use Rattle.op_reply.specs.Printable.{AreIncomingTexts, AreOutgoingTexts, AreEventTexts}
use Rattle.op_reply.proofs.replies.said.Goals as goal

pub incomings_listed-requires-clause-texts : goal.incomings_listed-requires-clause-texts
incomings_listed-requires-clause-texts c = let texts = rw c.in-IncomingsListed.is at c.requires.body in subst AreIncomingTexts (sym c.as_slice-in-IncomingsListed.ensures) texts

pub outgoings_listed-requires-clause-texts : goal.outgoings_listed-requires-clause-texts
outgoings_listed-requires-clause-texts c = let texts = rw c.in-OutgoingsListed.is at c.requires.body in subst AreOutgoingTexts (sym c.as_slice-in-OutgoingsListed.ensures) texts

pub feed_read-requires-clause-texts : goal.feed_read-requires-clause-texts
feed_read-requires-clause-texts c = let texts = rw c.in-FeedRead.is at c.requires.body in subst AreEventTexts (sym c.as_slice-in-FeedRead.ensures) texts
