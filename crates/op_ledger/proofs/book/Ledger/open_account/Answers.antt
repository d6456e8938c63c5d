use Rattle.std.proofs.Common.{◌≡◌, true, subst, sym}
use Rattle.std.specs.Prelude.{None, not}
use Rattle.op_ledger.specs.Balances.{LedgerValue, balance_of, is_there}
use Rattle.op_ledger.specs.Sound.{IsSound}
use Rattle.op_ledger.proofs.Index.{nothing_is}
use Rattle.op_ledger.proofs.Puts.{ledger}
use Rattle.op_ledger.proofs.Soundness.{sound_opened}
use Rattle.op_ledger.proofs.book.Ledger.open_account.Goals as goal

pub invariant_of-self : goal.invariant_of-self
invariant_of-self c = subst (λ xs. IsSound (ledger xs)) (sym c.in_err-open.ensures.err) c.self.invariant

pub invariant_of-self-2 : goal.invariant_of-self-2
invariant_of-self-2 c =
    let v : LedgerValue = ledger c.self.inside.accounts in
    let free : not (is_there v c.args.account) ≡ true = subst (λ u. not (is_there u c.args.account) ≡ true) (sym c.self.view_is) c.requires.fresh in
    let fresh : balance_of v c.args.account ≡ None = nothing_is (balance_of v c.args.account) free in
    subst (λ xs. IsSound (ledger xs)) (sym c.in_ok-open.ensures.ok) (sound_opened v c.args.account c.args.asset c.self.invariant fresh c.requires.numbered)
