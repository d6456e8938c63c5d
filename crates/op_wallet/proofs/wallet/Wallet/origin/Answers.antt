use Rattle.std.proofs.Common.{◌∙◌, ap}
use Rattle.op_model.specs.History.{origin_of}
use Rattle.op_wallet.specs.Wallets.{WalletValue}
use Rattle.op_wallet.proofs.wallet.Wallet.origin.Goals as goal

pub returns : goal.returns
returns c = c.origin.ensures c.self.inside.history.packed.entries c.self.invariant.names_are ∙ ap (λ (w : WalletValue). origin_of w.history) c.self.view_is
