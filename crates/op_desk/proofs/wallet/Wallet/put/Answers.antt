use Rattle.std.proofs.Common.{◌≡◌, ◌∙◌, ◌++◌, ◌∷◌, [], List, sym, ap, subst, arith}
use Rattle.op_model.specs.declared.act.Entry.{Entry}
use Rattle.op_amount.specs.declared.Asset.{Asset}
use Rattle.op_record.specs.Packing.{PackedValue}
use Rattle.op_desk.specs.Wallets.{WalletState, IsTaken}
use Rattle.op_desk.proofs.Assets.{loaded, are_added, last_put, record_length}
use Rattle.op_desk.proofs.wallet.Wallet.put.Goals as goal

pub invariant_of-self-2 : goal.invariant_of-self-2
invariant_of-self-2 c =
    let e = c.args.entry.now in
    let w = c.self.inside in
    let inv = c.self.invariant in
    let kept = c.in_ok-reserve-2.ensures.ok in
    let put = c.in_ok-push.ensures.ok in
    let grown : c.push.new.self.entries ≡ w.history.entries ++ e ∷ [] = ap (λ (p : PackedValue). p.entries) put ∙ ap (λ (p : PackedValue). p.entries ++ e ∷ []) kept in
    let taken : IsTaken w.history.entries e = subst (λ (h : List Entry). IsTaken h e) (sym (ap (λ (s : WalletState). s.history) c.self.view_is)) c.requires.taken in
    let both = loaded w.history.entries c.push.new.self.entries e inv.sound taken grown in
    let listed : c.push_reserved.new.self.items ≡ w.assets.items ++ c.args.asset ∷ [] = c.push_reserved.ensures.items ∙ ap (λ (l : List Asset). l ++ c.args.asset ∷ []) c.in_ok-reserve.ensures.items in
    record {
      sound = both.0;
      assets = are_added w.assets.items c.push_reserved.new.self.items w.history.entries c.push.new.self.entries c.args.asset e inv.assets c.requires.adds listed grown;
      last = last_put w.history.entries c.push.new.self.entries e grown;
      origin = inv.origin ∙ both.1;
      spare = omega (arith, ap (λ (p : PackedValue). p.room) put, ap (λ (p : PackedValue). p.room) kept, c.in-Some.ensures, c.entry_length.ensures, record_length e);
    }

pub returns-clause-sound : goal.returns-clause-sound
returns-clause-sound c = (invariant_of-self-2 c).sound
