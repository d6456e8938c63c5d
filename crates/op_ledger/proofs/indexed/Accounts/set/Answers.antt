use Rattle.std.proofs.Common.{subst, sym, ◌∙◌, ap, ◌≡◌, true}
use Rattle.std.specs.Option.{is_some}
use Rattle.op_ledger.specs.Balances.{find_balance}
use Rattle.op_ledger.specs.Indexed.{IsIndexed, put, put_at}
use Rattle.op_ledger.proofs.Index.{set_is_put, indexed-map, put_keeps}
use Rattle.op_ledger.proofs.indexed.Accounts.set.Goals as goal

pub invariant_of-self : goal.invariant_of-self
invariant_of-self c =
    let old = c.self.inside in
    let there : is_some (find_balance old.balances.items c.args.balance.account) ≡ true = subst (λ v. is_some (find_balance v c.args.balance.account) ≡ true) (sym c.self.view_is) c.requires in
    let same : _ ≡ put c.args.balance old.balances.items = set_is_put old.places old.balances.items c.args.balance c.in-Some.place c.self.invariant (sym c.in-Some.ensures) there in
    subst (λ items. IsIndexed old.places items) (sym same) (indexed-map old.places (put_at c.args.balance) (put_keeps c.args.balance) old.balances.items c.self.invariant)

pub returns : goal.returns
returns c =
    let old = c.self.inside in
    let there : is_some (find_balance old.balances.items c.args.balance.account) ≡ true = subst (λ v. is_some (find_balance v c.args.balance.account) ≡ true) (sym c.self.view_is) c.requires in
    set_is_put old.places old.balances.items c.args.balance c.in-Some.place c.self.invariant (sym c.in-Some.ensures) there
    ∙ ap (put c.args.balance) c.self.view_is
