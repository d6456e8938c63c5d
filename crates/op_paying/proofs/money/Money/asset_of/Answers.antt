use Rattle.std.proofs.Common.{◌∙◌, ℕ, Option, ap}
use Rattle.std.specs.Prelude.{unwrap_or}
use Rattle.op_ledger.specs.Balances.{balance_of}
use Rattle.op_paying.proofs.BalanceAnswers.{account_kept}
use Rattle.op_paying.proofs.Kept.{asset_or}
use Rattle.op_paying.proofs.money.Money.asset_of.Goals as goal

pub returns-in-Wallet : goal.returns-in-Wallet
returns-in-Wallet c history is =
    c.unwrap_or.ensures ∙ ap (λ (o : Option ℕ). unwrap_or o 0) c.asset_of.ensures.value
    ∙ asset_or (balance_of c.args.self.now.ledger c.args.account)
    ∙ account_kept history c.args.self.now.ledger c.args.account _ is.stands c.in-Wallet.is
