use Rattle.std.proofs.Common.{◌∙◌, ap, Some}
use Rattle.op_model.specs.Asking.{address_named}
use Rattle.op_wallet.specs.Wallets.{WalletValue}
use Rattle.op_wallet.proofs.wallet.Wallet.find_address.Goals as goal

pub returns : goal.returns
returns c = c.find_address.ensures c.self.inside.history.packed.entries c.self.invariant.names_are ∙ ap (λ (w : WalletValue). address_named w.history (Some c.args.name.now)) c.self.view_is
