use Rattle.std.proofs.Common.{◌≡◌, ◌∙◌, true, ap}
use Rattle.op_ledger.specs.Balances.{LedgerValue, is_there, opened}
use Rattle.op_paying.proofs.Opening.{ok_on, there_itself}
use Rattle.op_paying.proofs.accounts.open_if.Goals as goal

pub returns-clause-ok : goal.returns-clause-ok
returns-clause-ok c =
    let old = c.args.ledger.now in
    let a = c.args.account in
    ok_on c.open_account.result (c.open_account.new.self ≡ opened old a c.args.number) (is_there c.open_account.new.self a ≡ true)
    (λ is. ap (λ (v : LedgerValue). is_there v a) is ∙ there_itself old a c.args.number) c.open_account.ensures.ok
