use Rattle.std.proofs.Common.{◌≡◌, ◌-◌, ◌≤◌, refl, subst, sym, ◌∙◌, ap, arith}
use Rattle.std.specs.Prelude.{Some}
use Rattle.op_ledger.specs.Balances.{balance_of}
use Rattle.op_ledger.specs.Indexed.{put}
use Rattle.op_ledger.specs.Sound.{IsSound, backing}
use Rattle.op_ledger.proofs.Puts.{ledger}
use Rattle.op_ledger.proofs.Soundness.{sound_held, covered_of}
use Rattle.op_ledger.proofs.Moves.{holding_is}
use Rattle.op_ledger.proofs.book.Ledger.void.Goals as goal

pub invariant_of-self : goal.invariant_of-self
invariant_of-self c =
    let v = c.args.self.now in
    let x = c.balance-balance.result in
    let sound = c.balance-balance.ensures.sound in
    let found : balance_of v x.account ≡ Some x = subst (λ a. balance_of v a ≡ Some x) (sym c.balance-balance.ensures.account) c.balance-balance.ensures.found in
    let after : c.set.new.self ≡ put (record x { held = x.held - c.args.value }) v.accounts = c.set.ensures ∙ ap (λ w. put (record x { held = x.held - c.args.value }) w.accounts) c.self.view_is in
    let covered : x.held - c.args.value ≤ backing x = omega (arith, covered_of v.accounts x.account x sound.covered found) in
    subst (λ xs. IsSound (ledger xs)) (sym after) (sound_held v x (x.held - c.args.value) sound found covered)

pub returns : goal.returns
returns c =
    let v = c.args.self.now in
    let x = c.balance-balance.result in
    let after : c.set.new.self ≡ put (record x { held = x.held - c.args.value }) v.accounts = c.set.ensures ∙ ap (λ w. put (record x { held = x.held - c.args.value }) w.accounts) c.self.view_is in
    ap ledger after ∙ holding_is v c.args.account x (x.held - c.args.value) (λ h. h - c.args.value) c.balance-balance.ensures.sound.distinct c.balance-balance.ensures.found refl
