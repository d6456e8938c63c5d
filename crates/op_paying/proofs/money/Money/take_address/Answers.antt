use Rattle.std.proofs.Common.{◌+◌, ◌∷◌, ◌++◌, [], refl}
use Rattle.op_model.specs.Legal.{IsNext}
use Rattle.op_model.specs.declared.act.Act.TheVariants as acts
use Rattle.op_model.specs.declared.act.Entry.{Entry}
use Rattle.op_paying.specs.Money.{IsMoneyOf}
use Rattle.op_paying.specs.declared.money.Money.{Money}
use Rattle.op_paying.proofs.Acts.{with_act, of_act}
use Rattle.op_paying.proofs.AccountMoney.{wallet_fresh, address_money}
use Rattle.op_paying.proofs.money.Money.take_address.Goals as goal

pub open_account-requires-clause-fresh : goal.open_account-requires-clause-fresh
open_account-requires-clause-fresh c =
    let can = c.requires.can in
    wallet_fresh can.history c.args.self.now (c.args.self.now.addresses + 1) can.is refl

pub returns-clause-ok : goal.returns-clause-ok
returns-clause-ok c history is next =
    let old = c.args.self.now in
    let e = c.args.entry.now in
    let path = c.requires.is.0 in
    let name = c.requires.is.1 in
    let n = old.addresses + 1 in
    let act = acts.AddressAdded path c.args.asset name in
    let new : Money = record { ledger = c.open_account.new.self; incomings = old.incomings; outgoings = old.outgoings; pieces = old.pieces; addresses = n } in
    of_act (λ (x : Entry). IsMoneyOf (history ++ x ∷ []) new) e act c.requires.is.2
    (address_money history e.at path c.args.asset name n old new is (with_act (IsNext history) e act c.requires.is.2 next) refl c.in_ok-open_account.ensures.ok (record { incomings_are = refl; outgoings_are = refl }) refl refl)
