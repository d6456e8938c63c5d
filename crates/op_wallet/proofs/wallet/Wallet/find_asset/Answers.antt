use Rattle.std.proofs.Common.{◌∙◌, ap}
use Rattle.op_model.specs.History.{asset_number}
use Rattle.op_wallet.specs.Wallets.{WalletValue}
use Rattle.op_wallet.proofs.wallet.Wallet.find_asset.Goals as goal

pub returns : goal.returns
returns c = c.find_asset.ensures c.self.inside.history.packed.entries c.self.invariant.names_are ∙ ap (λ (w : WalletValue). asset_number w.history c.args.asset.now) c.self.view_is
