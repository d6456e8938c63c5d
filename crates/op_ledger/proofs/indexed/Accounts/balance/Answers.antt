use Rattle.std.proofs.Common.{◌≡◌, subst, sym, ap, ◌∙◌}
use Rattle.std.specs.Prelude.{Some}
use Rattle.std.proofs.lemmas.Option.{slice_get-get_or}
use Rattle.op_ledger.specs.Balances.{find_balance}
use Rattle.op_ledger.specs.Indexed.{IsPlaceOf}
use Rattle.op_ledger.proofs.Index.{found_account}
use Rattle.op_ledger.proofs.indexed.Accounts.balance.Goals as goal

pub returns-clause-account : goal.returns-clause-account
returns-clause-account c =
    let items = c.self.inside.balances.items in
    let placed = subst (λ o. IsPlaceOf items c.args.account o) (sym c.in-Some.ensures) (c.self.invariant.placed c.args.account) in
    let found : find_balance items c.args.account ≡ Some c.index.result.now =
    sym placed.1 ∙ slice_get-get_or items c.in-Some.place c.index.result.now placed.0 ∙ ap (λ b. Some b) (sym c.index.ensures) in
    found_account items c.args.account c.index.result.now found
