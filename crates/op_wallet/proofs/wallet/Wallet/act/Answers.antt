use Rattle.std.proofs.Common.{sym, ap, subst}
use Rattle.op_model.specs.Legal.{IsLegal}
use Rattle.op_model.specs.declared.act.Entry.{Entry}
use Rattle.op_model.proofs.LegalNext.{legal-next}
use Rattle.op_wallet.specs.Wallets.{WalletValue}
use Rattle.op_wallet.proofs.wallet.Wallet.act.Goals as goal

pub returns-in-Ok-clause-legal : goal.returns-in-Ok-clause-legal
returns-in-Ok-clause-legal c =
    let history = c.args.self.now.history in
    let e : Entry = record { at = c.args.t; act = c.args.act } in
    subst IsLegal (sym (ap (λ (w : WalletValue). w.history) c.in-Ok.ensures.ok)) ((legal-next history e).1 (c.last-legal.ensures.legal, c.requires.next))
