use Rattle.std.proofs.Common.{◌∙◌, ap, length}
use Rattle.op_model.specs.History.{assets}
use Rattle.op_wallet.specs.Wallets.{WalletValue}
use Rattle.op_wallet.proofs.wallet.Wallet.assets.Goals as goal

pub returns : goal.returns
returns c = c.asset_count.ensures c.self.inside.history.packed.entries c.self.invariant.names_are ∙ ap (λ (w : WalletValue). length (assets w.history)) c.self.view_is
