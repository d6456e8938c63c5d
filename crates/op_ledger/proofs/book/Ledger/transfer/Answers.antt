use Rattle.std.proofs.Common.{◌≡◌, ◌+◌, ◌-◌, ◌≤◌, subst, sym, ◌∙◌, ap, arith}
use Rattle.std.specs.Prelude.{Some}
use Rattle.std.specs.Option.{is_some, option_map_or}
use Rattle.op_ledger.specs.Balances.{find_balance, is_there, is_outside}
use Rattle.op_ledger.specs.Indexed.{put}
use Rattle.op_ledger.specs.Sound.{IsSound}
use Rattle.op_ledger.proofs.AccountTests.{left_of, not_of}
use Rattle.op_ledger.proofs.Puts.{ledger}
use Rattle.op_ledger.proofs.Moves.{transfer_is}
use Rattle.op_ledger.proofs.Transfers.{there-put, transfer_fits, sound_transfer}
use Rattle.op_ledger.proofs.book.Ledger.transfer.Goals as goal

pub balance-to-requires : goal.balance-to-requires
balance-to-requires c =
    let v = c.args.self.now in
    let x = c.balance-from.result in
    let y = record x { posted = x.posted - c.args.value } in
    let after : c.set.new.self ≡ put y v.accounts = c.set.ensures ∙ ap (λ u. put y u.accounts) c.self.view_is in
    ap (λ xs. is_some (find_balance xs c.args.target)) after ∙ there-put y v.accounts c.args.target ∙ left_of (is_there v c.args.target) _ c.requires.target

pub overflow_add-to : goal.overflow_add-to
overflow_add-to c =
    let v = c.args.self.now in
    let a = c.args.source in
    let x = c.balance-from.result in
    let w = c.balance-to.result in
    let y = record x { posted = x.posted - c.args.value } in
    let after : c.set.new.self ≡ put y v.accounts = c.set.ensures ∙ ap (λ u. put y u.accounts) c.self.view_is in
    let w_found : find_balance (put y v.accounts) c.args.target ≡ Some w = subst (λ xs. find_balance xs c.args.target ≡ Some w) after c.balance-to.ensures.found in
    let enough : c.args.value ≤ x.posted - x.held = subst (λ o. c.args.value ≤ option_map_or (λ b. b.posted) o 0 - option_map_or (λ b. b.held) o 0) c.balance-from.ensures.found c.requires.covered in
    omega (arith, transfer_fits v a c.args.target c.args.value x w c.balance-from.ensures.sound c.balance-from.ensures.found (not_of (is_there v a) (is_outside a) c.requires.source) w_found (not_of (is_there v c.args.target) (is_outside c.args.target) c.requires.target) c.requires.one_asset enough)

pub invariant_of-self : goal.invariant_of-self
invariant_of-self c =
    let v = c.args.self.now in
    let a = c.args.source in
    let x = c.balance-from.result in
    let w = c.balance-to.result in
    let y = record x { posted = x.posted - c.args.value } in
    let z = record w { posted = w.posted + c.args.value } in
    let after : c.set.new.self ≡ put y v.accounts = c.set.ensures ∙ ap (λ u. put y u.accounts) c.self.view_is in
    let w_found : find_balance (put y v.accounts) c.args.target ≡ Some w = subst (λ xs. find_balance xs c.args.target ≡ Some w) after c.balance-to.ensures.found in
    let enough : c.args.value ≤ x.posted - x.held = subst (λ o. c.args.value ≤ option_map_or (λ b. b.posted) o 0 - option_map_or (λ b. b.held) o 0) c.balance-from.ensures.found c.requires.covered in
    subst (λ xs. IsSound (ledger xs)) (sym (c.set-2.ensures ∙ ap (put z) after))
    (sound_transfer v a c.args.target c.args.value x w c.balance-from.ensures.sound c.balance-from.ensures.found (not_of (is_there v a) (is_outside a) c.requires.source) w_found (not_of (is_there v c.args.target) (is_outside c.args.target) c.requires.target) c.requires.one_asset enough)

pub returns : goal.returns
returns c =
    let v = c.args.self.now in
    let a = c.args.source in
    let x = c.balance-from.result in
    let w = c.balance-to.result in
    let y = record x { posted = x.posted - c.args.value } in
    let z = record w { posted = w.posted + c.args.value } in
    let after : c.set.new.self ≡ put y v.accounts = c.set.ensures ∙ ap (λ u. put y u.accounts) c.self.view_is in
    let w_found : find_balance (put y v.accounts) c.args.target ≡ Some w = subst (λ xs. find_balance xs c.args.target ≡ Some w) after c.balance-to.ensures.found in
    let enough : c.args.value ≤ x.posted - x.held = subst (λ o. c.args.value ≤ option_map_or (λ b. b.posted) o 0 - option_map_or (λ b. b.held) o 0) c.balance-from.ensures.found c.requires.covered in
    ap ledger (c.set-2.ensures ∙ ap (put z) after)
    ∙ transfer_is v a c.args.target c.args.value x w c.balance-from.ensures.sound.distinct c.balance-from.ensures.found (not_of (is_there v a) (is_outside a) c.requires.source) w_found (not_of (is_there v c.args.target) (is_outside c.args.target) c.requires.target) (omega (arith, enough))
