use Rattle.std.proofs.Common.{◌≡◌, refl, sym, subst}
use Rattle.std.specs.Prelude.{IsSome}
use Rattle.op_desk.specs.Wallets.{WalletState, IsSound}
use Rattle.op_desk.proofs.desk.Desk.begin.Goals as goal

pub invariant_of-self : goal.invariant_of-self
invariant_of-self c =
    let sound = c.self.invariant.sound c.in-Some.wallet c.in-Some.is in
    record {
      sound = λ w is. let here : c.open_round.new.wallet ≡ w = cc in subst (λ (v : WalletState). IsSound v.history) here (subst IsSound (sym c.open_round.ensures.same) sound);
      is_open = λ _. c.self.invariant.is_open (subst IsSome (sym c.in-Some.is) refl);
    }
