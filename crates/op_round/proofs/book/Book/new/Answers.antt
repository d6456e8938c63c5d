use Rattle.op_round.proofs.Keeping.{begins}
use Rattle.op_round.proofs.book.Book.new.Goals as goal

pub invariant_of-result : goal.invariant_of-result
invariant_of-result g c =
    begins g.F.FeeTerms.allows g.N.Named.start g.N.Named.moment g.N.Named.asked c.args.batch c.args.replies.items c.requires.start.0 c.requires.start.1 c.requires.start.2 c.requires.indexes.0 c.requires.indexes.1 c.requires.replies
