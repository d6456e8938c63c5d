use Rattle.std.proofs.Common.{◌∙◌, ℕ, Option, ap}
use Rattle.std.specs.Prelude.{unwrap_or}
use Rattle.op_ledger.specs.Balances.{balance_of}
use Rattle.op_model.specs.declared.act.Account.TheVariants.{Wallet}
use Rattle.op_paying.proofs.Kept.{asset_or}
use Rattle.op_paying.proofs.terms.asset_of.Goals as goal

pub returns : goal.returns
returns c = c.unwrap_or.ensures ∙ ap (λ (o : Option ℕ). unwrap_or o 0) c.asset_of.ensures.value ∙ asset_or (balance_of c.args.ledger.now (Wallet c.args.address))
