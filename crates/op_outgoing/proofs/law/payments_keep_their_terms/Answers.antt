use Rattle.op_outgoing.proofs.RunLemmas.{payments_keep_their_terms}
use Rattle.op_outgoing.proofs.law.payments_keep_their_terms.Goals as goal

pub returns : goal.returns
returns c = payments_keep_their_terms
