use Rattle.std.proofs.Common.{◌≡◌, ◌-◌, false, subst, sym, ◌∙◌, ap, arith}
use Rattle.std.specs.Prelude.{Some}
use Rattle.std.specs.Option.{is_some}
use Rattle.op_model.specs.declared.act.Account.TheVariants.{Outside}
use Rattle.op_ledger.specs.Balances.{find_balance, balance_of, is_there, is_outside}
use Rattle.op_ledger.specs.Indexed.{put}
use Rattle.op_ledger.specs.Sound.{IsSound}
use Rattle.op_ledger.proofs.AccountTests.{not_of}
use Rattle.op_ledger.proofs.Puts.{ledger}
use Rattle.op_ledger.proofs.Soundness.{sound_withdrawal, posted_outside, covered_inside}
use Rattle.op_ledger.proofs.Moves.{withdrawal_is, outside_stays}
use Rattle.op_ledger.proofs.book.Ledger.withdraw.Goals as goal

pub overflow_sub-available : goal.overflow_sub-available
overflow_sub-available c =
    let x = c.balance-inside in
    covered_inside c.args.self.now c.args.source x.result x.ensures.sound x.ensures.found (not_of (is_there c.args.self.now c.args.source) (is_outside c.args.source) c.requires.there)

pub overflow_sub-outside : goal.overflow_sub-outside
overflow_sub-outside c =
    let v = c.args.self.now in
    omega (arith, posted_outside v c.args.source c.balance-inside.result c.balance-outside.result c.balance-inside.ensures.sound c.balance-inside.ensures.found (not_of (is_there v c.args.source) (is_outside c.args.source) c.requires.there) c.balance-outside.ensures.found)

pub set-requires-2 : goal.set-requires-2
set-requires-2 c =
    let v = c.args.self.now in
    let x = c.balance-inside.result in
    let w = c.balance-outside.result in
    let inside : is_outside x.account ≡ false = ap is_outside c.balance-inside.ensures.account ∙ not_of (is_there v c.args.source) (is_outside c.args.source) c.requires.there in
    let found : balance_of v x.account ≡ Some x = subst (λ a. balance_of v a ≡ Some x) (sym c.balance-inside.ensures.account) c.balance-inside.ensures.found in
    let after : c.set.new.self ≡ put (record x { posted = x.posted - c.args.value }) v.accounts = c.set.ensures ∙ ap (λ u. put (record x { posted = x.posted - c.args.value }) u.accounts) c.self.view_is in
    let there : find_balance (put (record x { posted = x.posted - c.args.value }) v.accounts) (Outside x.asset) ≡ Some w = outside_stays (record x { posted = x.posted - c.args.value }) x w v.accounts x.asset found inside c.balance-outside.ensures.found in
    ap (λ xs. is_some (find_balance xs w.account)) after ∙ ap (λ a. is_some (find_balance (put (record x { posted = x.posted - c.args.value }) v.accounts) a)) c.balance-outside.ensures.account ∙ ap is_some there

pub invariant_of-self : goal.invariant_of-self
invariant_of-self c =
    let v = c.args.self.now in
    let x = c.balance-inside.result in
    let w = c.balance-outside.result in
    let y = record x { posted = x.posted - c.args.value } in
    let z = record w { posted = w.posted - c.args.value } in
    let after : c.set-2.new.self ≡ put z (put y v.accounts) = c.set-2.ensures ∙ ap (put z) (c.set.ensures ∙ ap (λ u. put y u.accounts) c.self.view_is) in
    subst (λ xs. IsSound (ledger xs)) (sym after) (sound_withdrawal v c.args.source c.args.value x w c.balance-inside.ensures.sound c.balance-inside.ensures.found (not_of (is_there v c.args.source) (is_outside c.args.source) c.requires.there) c.balance-outside.ensures.found (omega arith))

pub returns-clause-ok : goal.returns-clause-ok
returns-clause-ok c =
    let v = c.args.self.now in
    let x = c.balance-inside.result in
    let w = c.balance-outside.result in
    let y = record x { posted = x.posted - c.args.value } in
    let z = record w { posted = w.posted - c.args.value } in
    let after : c.set-2.new.self ≡ put z (put y v.accounts) = c.set-2.ensures ∙ ap (put z) (c.set.ensures ∙ ap (λ u. put y u.accounts) c.self.view_is) in
    ap ledger after ∙ withdrawal_is v c.args.source c.args.value x w c.balance-inside.ensures.sound.distinct c.balance-inside.ensures.found (not_of (is_there v c.args.source) (is_outside c.args.source) c.requires.there) c.balance-outside.ensures.found (omega arith)
