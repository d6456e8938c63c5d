use Rattle.std.proofs.Common.{◌∙◌, ◌<◌, ◌^◌, List, length, sym, ap, subst}
use Rattle.op_granting.specs.Models.{next_place}
use Rattle.op_model.specs.Legal.{IsNext}
use Rattle.op_model.specs.declared.act.Entry.{Entry}
use Rattle.op_parts.specs.Parts.{MayFollow}
use Rattle.op_wallet.specs.Wallets.{WalletValue}
use Rattle.op_wallet.proofs.Taking.{recorded}
use Rattle.op_wallet.proofs.wallet.Wallet.take.Goals as goal

pub reserve_for-requires-clause-writable : goal.reserve_for-requires-clause-writable
reserve_for-requires-clause-writable c =
    let items = ap (λ (w : WalletValue). w.history) c.self.view_is in
    let entry = c.args.entry.now in
    let next = subst (λ (h : List Entry). IsNext h entry) (sym items) c.requires.next in
    let small = subst (λ (h : List Entry). length h < 2 ^ 31) (sym items) c.requires.small in
    (recorded c.self.inside.history.packed.entries entry c.self.invariant.legal next small c.requires.word).0

pub take-requires : goal.take-requires
take-requires c =
    let history = c.self.inside.history.packed.entries in
    let items = ap (λ (w : WalletValue). w.history) c.self.view_is in
    let entry = c.args.entry.now in
    let follows : MayFollow history c.self.inside.parts c.next_place-place.result entry = record {
      are = c.self.invariant;
      follows = subst (λ (h : List Entry). IsNext h entry) (sym items) c.requires.next;
      stands = c.next_place-place.ensures ∙ ap next_place (sym items);
      small = subst (λ (h : List Entry). length h < 2 ^ 31) (sym items) c.requires.small;
    } in
    (history, follows)

pub push-requires-clause-writable : goal.push-requires-clause-writable
push-requires-clause-writable c =
    let items = ap (λ (w : WalletValue). w.history) c.self.view_is in
    let entry = c.args.entry.now in
    let next = subst (λ (h : List Entry). IsNext h entry) (sym items) c.requires.next in
    let small = subst (λ (h : List Entry). length h < 2 ^ 31) (sym items) c.requires.small in
    (recorded c.self.inside.history.packed.entries entry c.self.invariant.legal next small c.requires.word).0

pub push-requires-clause-fits : goal.push-requires-clause-fits
push-requires-clause-fits c =
    let items = ap (λ (w : WalletValue). w.history) c.self.view_is in
    let entry = c.args.entry.now in
    let next = subst (λ (h : List Entry). IsNext h entry) (sym items) c.requires.next in
    let small = subst (λ (h : List Entry). length h < 2 ^ 31) (sym items) c.requires.small in
    (recorded c.self.inside.history.packed.entries entry c.self.invariant.legal next small c.requires.word).1
