use Rattle.op_ledger.specs.Balances.{is_there, is_outside}
use Rattle.op_ledger.proofs.AccountTests.{not_of}
use Rattle.op_ledger.proofs.Soundness.{posted_top}
use Rattle.op_ledger.proofs.book.Ledger.posted_of.Goals as goal

pub returns-clause-at_most : goal.returns-clause-at_most
returns-clause-at_most c =
    posted_top c.args.self.now c.args.account c.balance.result c.balance.ensures.sound c.balance.ensures.found (not_of (is_there c.args.self.now c.args.account) (is_outside c.args.account) c.requires)
