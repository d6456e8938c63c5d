use Rattle.std.proofs.Common.{◌≡◌, subst, sym, ◌∙◌, true, length}
use Rattle.std.specs.Prelude.{None, not}
use Rattle.std.specs.Option.{is_some}
use Rattle.op_ledger.specs.Balances.{find_balance}
use Rattle.op_ledger.specs.Indexed.{IsIndexed, PlacesAlso}
use Rattle.op_ledger.proofs.Index.{indexed-append, nothing_is}
use Rattle.op_ledger.proofs.indexed.Accounts.open.Goals as goal

pub invariant_of-self-in-Ok : goal.invariant_of-self-in-Ok
invariant_of-self-in-Ok c =
    let old = c.self.inside in
    let account = c.args.balance.account in
    let free : not (is_some (find_balance old.balances.items account)) ≡ true = subst (λ v. not (is_some (find_balance v account)) ≡ true) (sym c.self.view_is) c.requires in
    let fresh : find_balance old.balances.items account ≡ None = nothing_is (find_balance old.balances.items account) free in
    let also : PlacesAlso old.places c.insert.new.self account (length old.balances.items) =
    subst (λ n. PlacesAlso old.places c.insert.new.self account n) (c.len-place.ensures ∙ old.balances.ok.0) c.in-Ok.ensures.ok in
    subst (λ items. IsIndexed c.insert.new.self items) (sym c.in_ok-push.ensures.items) (indexed-append old.places c.insert.new.self old.balances.items c.args.balance c.self.invariant also fresh)
