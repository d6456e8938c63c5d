-- Deposits and withdrawals.
use Rattle.std.proofs.Common.{◌≡◌, ℕ, ◌+◌, ◌≤◌, Bool, true, false, List, [], ◌∷◌, ◌++◌, refl, ◌∙◌, sym, ap, arith}
use Rattle.std.specs.Prelude.{◌&&◌, IsTrue}
use Rattle.op_amount.specs.declared.TheConstants.{TOP}
use Rattle.op_ledger.specs.Balances.{LedgerValue, is_there, is_outside, IsInside, held_in, available_in, asset_in, total_in}
use Rattle.op_ledger.specs.Runs.{Call, Deposited, Withdrawn, CanCall, after_call, call_legs}
use Rattle.op_ledger.specs.Balances.{deposit_legs, withdrawal_legs}
use Rattle.op_ledger.proofs.Posting.{fees_numbered, pool_numbered}
use Rattle.op_ledger.proofs.Sums.{held_call}
use Rattle.op_ledger.proofs.Transfers.{there-moved, asset-moved}
use Rattle.op_legal.specs.Numbers.{HasAccount}
use Rattle.op_legal.proofs.Named.{next_names}
use Rattle.op_laws.specs.Placed.{IsPlacedIn}
use Rattle.op_laws.proofs.MakingActs.{deposit_acts, withdrawal_acts}
use Rattle.op_model.specs.Balances.{Movement, comes, goes, account_asset, legs, total}
use Rattle.op_model.specs.Legal.{IsNext}
use Rattle.op_model.specs.Payments.{outgoings}
use Rattle.op_model.specs.declared.act.Account.{Account}
use Rattle.op_model.specs.declared.act.Account.TheVariants.{Outside, Pool, Fees, Wallet}
use Rattle.op_model.specs.declared.act.Act.TheVariants as acts
use Rattle.op_model.specs.declared.act.Entry.{Entry}
use Rattle.op_model.proofs.SumsNext.{held_stays}
use Rattle.op_outgoing.specs.Held.{is_asset_there}
use Rattle.op_paying.specs.Ledgers.{StandsAs}
use Rattle.op_paying.proofs.Ledgers.{KeepsNames, call_sums, stands_next}
use Rattle.op_paying.proofs.StepReplies.{available_same}
use Rattle.op_paying.proofs.StepFollows.{wallet_there}

first : (a b : Bool) → (a && b) ≡ true → a ≡ true
first true b h = refl
first false b h = h

second : (a b : Bool) → (a && b) ≡ true → b ≡ true
second true b h = h
second false b h = absurd (let e : false ≡ true = h in cc)

with_true : (b : Bool) → b ≡ true → (b && true) ≡ true
with_true b h = ap (λ t. t && true) h

-- an account that can be moved to and from
pub record IsMovable (history : List Entry) (v : LedgerValue) (account : Account) : Type 0 where
  pub there : IsInside v account
  pub inside : is_outside account ≡ false
  pub outside : IsTrue (is_there v (Outside (asset_in v account)))
  pub asset : account_asset history account ≡ asset_in v account

pub is_movable : (history : List Entry) (v : LedgerValue) (account : Account) → StandsAs history v → IsPlacedIn history → HasAccount history account → IsMovable history v account
is_movable history v (Outside n) stands placed has = absurd has
is_movable history v (Pool n) stands placed has =
    let there = stands.pools n has in
    let asset = pool_numbered v n stands.sound there in
    record { there = with_true (is_there v (Pool n)) there; inside = refl; outside = ap (λ k. is_there v (Outside k)) asset ∙ stands.outsides n has; asset = sym asset }
is_movable history v (Fees n) stands placed has =
    let there = stands.fees n has in
    let asset = fees_numbered v n stands.sound there in
    record { there = with_true (is_there v (Fees n)) there; inside = refl; outside = ap (λ k. is_there v (Outside k)) asset ∙ stands.outsides n has; asset = sym asset }
is_movable history v (Wallet n) stands placed has =
    let all = wallet_there history v n stands placed has in
    let asset = asset_in v (Wallet n) in
    record {
      there = with_true (is_there v (Wallet n)) (first (is_there v (Wallet n)) (is_asset_there v asset) all);
      inside = refl;
      outside = first (is_there v (Outside asset)) _ (second (is_there v (Wallet n)) (is_asset_there v asset) all);
      asset = sym (stands.asset n);
    }

pub total_same : (history : List Entry) (v : LedgerValue) (n : ℕ) → StandsAs history v → total_in v n ≡ total history n
total_same history v n stands = omega (arith, stands.total n)

-- the entry moves what the call moves, and holds nothing
moved_stands : (history : List Entry) (e : Entry) (v : LedgerValue) (call : Call) → StandsAs history v → CanCall v call → KeepsNames history e → legs history e ≡ call_legs (asset_in v) call → ((a : Account) → held_in (after_call v call) a ≡ held_in v a) → outgoings (history ++ e ∷ []) ≡ outgoings history
    → ((a : Account) → is_there (after_call v call) a ≡ is_there v a) → ((a : Account) → asset_in (after_call v call) a ≡ asset_in v a) → StandsAs (history ++ e ∷ []) (after_call v call)
moved_stands history e v call stands can keeps legs_are held_is same there asset =
    stands_next history e v (after_call v call) stands keeps (record { there = there; asset = asset })
    (call_sums history e v call stands can legs_are (λ a. held_is a ∙ stands.held_is a ∙ sym (held_stays history (history ++ e ∷ []) a same)))

abbrev deposit_of : Account → ℕ → ℕ → List Movement
deposit_of account value n = comes value account ∷ goes value (Outside n) ∷ []

abbrev withdrawal_of : Account → ℕ → ℕ → List Movement
withdrawal_of account value n = goes value account ∷ comes value (Outside n) ∷ []

pub deposit_fits : (history : List Entry) (v : LedgerValue) (t : ℕ) (id : List ℕ) (account : Account) (value : ℕ) → StandsAs history v → IsMovable history v account → IsNext history (record { at = t; act = acts.Deposited id account value }) → total_in v (asset_in v account) + value ≤ TOP
deposit_fits history v t id account value stands movable next =
    let is = deposit_acts history t id account value next in
    let same : total_in v (asset_in v account) ≡ total history (account_asset history account) = total_same history v (asset_in v account) stands ∙ ap (total history) (sym movable.asset) in
    omega (arith, is.fits, same)

pub deposit_stands : (history : List Entry) (v : LedgerValue) (t : ℕ) (id : List ℕ) (account : Account) (value : ℕ) → StandsAs history v → IsPlacedIn history → IsNext history (record { at = t; act = acts.Deposited id account value }) → KeepsNames history (record { at = t; act = acts.Deposited id account value })
    → outgoings (history ++ record { at = t; act = acts.Deposited id account value } ∷ []) ≡ outgoings history → StandsAs (history ++ record { at = t; act = acts.Deposited id account value } ∷ []) (after_call v (Deposited account value))
deposit_stands history v t id account value stands placed next keeps same =
    let e : Entry = record { at = t; act = acts.Deposited id account value } in
    let call : Call = Deposited account value in
    let movable = is_movable history v account stands placed (next_names history e next) in
    let can : CanCall v call = (movable.there, movable.outside, deposit_fits history v t id account value stands movable next) in
    moved_stands history e v call stands can keeps (ap (λ n. deposit_of account value n) movable.asset)
    (λ a. let h = held_call v call can a in omega (arith, h)) same
    (there-moved v (deposit_legs v account value)) (asset-moved v (deposit_legs v account value))

pub withdrawal_fits : (history : List Entry) (v : LedgerValue) (t : ℕ) (id : List ℕ) (account : Account) (value : ℕ) → StandsAs history v → IsMovable history v account → IsNext history (record { at = t; act = acts.Withdrawn id account value }) → value ≤ available_in v account
withdrawal_fits history v t id account value stands movable next =
    let is = withdrawal_acts history t id account value next in
    omega (arith, is.covered, available_same history v account stands movable.inside)

pub withdrawal_stands : (history : List Entry) (v : LedgerValue) (t : ℕ) (id : List ℕ) (account : Account) (value : ℕ) → StandsAs history v → IsPlacedIn history → IsNext history (record { at = t; act = acts.Withdrawn id account value }) → KeepsNames history (record { at = t; act = acts.Withdrawn id account value })
    → outgoings (history ++ record { at = t; act = acts.Withdrawn id account value } ∷ []) ≡ outgoings history → StandsAs (history ++ record { at = t; act = acts.Withdrawn id account value } ∷ []) (after_call v (Withdrawn account value))
withdrawal_stands history v t id account value stands placed next keeps same =
    let e : Entry = record { at = t; act = acts.Withdrawn id account value } in
    let call : Call = Withdrawn account value in
    let movable = is_movable history v account stands placed (next_names history e next) in
    let can : CanCall v call = (movable.there, movable.outside, withdrawal_fits history v t id account value stands movable next) in
    moved_stands history e v call stands can keeps (ap (λ n. withdrawal_of account value n) movable.asset)
    (λ a. let h = held_call v call can a in omega (arith, h)) same
    (there-moved v (withdrawal_legs v account value)) (asset-moved v (withdrawal_legs v account value))
