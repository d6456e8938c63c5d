-- What stands before the movements of a piece.
use Rattle.std.proofs.Common.{◌≡◌, ℕ, ◌-◌, ◌≤◌, Bool, true, false, cond, sym, ap, subst, ◌∙◌, arith}
use Rattle.std.specs.Prelude.{not, ◌&&◌, ◌||◌, ◌==◌, IsTrue}
use Rattle.std.specs.Option.{option_map_or}
use Rattle.std.proofs.lemmas.Bool.Decides.{nat_tests}
use Rattle.op_model.specs.Balances.{is_same_account}
use Rattle.op_model.specs.declared.act.Account.{Account}
use Rattle.op_model.specs.declared.act.Account.TheVariants.{Pool, Fees}
use Rattle.op_ledger.specs.declared.values.Piece.{Piece}
use Rattle.op_ledger.specs.Balances.{LedgerValue, balance_of, is_there, posted_in, held_in, available_in, asset_in, is_outside, IsInside, IsNumbered, with_held, holding}
use Rattle.op_ledger.specs.Sound.{IsSound}
use Rattle.op_ledger.specs.Pieces.{taken, is_within_one_asset, are_pools_there, CanMoveWithin, CanMoveBetween}
use Rattle.op_ledger.proofs.AccountTests.{left_of, right_of, not_of, is_account}
use Rattle.op_ledger.proofs.Index.{found_account, there_is, distinct-map}
use Rattle.op_ledger.proofs.Soundness.{covered_inside, numbered_of}
use Rattle.op_ledger.proofs.Transfers.{held_keeps, there-holding, asset-holding, posted-holding, held-holding}

number_apart : (m n : ℕ) → (m ≡ n → ⊥) → (m == n) ≡ false
number_apart m n h = grind (arith, nat_tests)

pub fees_numbered : (v : LedgerValue) (n : ℕ) → IsSound v → is_there v (Fees n) ≡ true → asset_in v (Fees n) ≡ n
fees_numbered v n sound there =
    let x = there_is (balance_of v (Fees n)) there in
    let number : n ≡ x.0.asset = subst (λ a. IsNumbered a x.0.asset) (found_account v.accounts (Fees n) x.0 x.1) (numbered_of v.accounts (Fees n) x.0 sound.numbered x.1) in
    ap (λ o. option_map_or (λ b. b.asset) o 0) x.1 ∙ sym number

pub pool_numbered : (v : LedgerValue) (n : ℕ) → IsSound v → is_there v (Pool n) ≡ true → asset_in v (Pool n) ≡ n
pool_numbered v n sound there =
    let x = there_is (balance_of v (Pool n)) there in
    let number : n ≡ x.0.asset = subst (λ a. IsNumbered a x.0.asset) (found_account v.accounts (Pool n) x.0 x.1) (numbered_of v.accounts (Pool n) x.0 sound.numbered x.1) in
    ap (λ o. option_map_or (λ b. b.asset) o 0) x.1 ∙ sym number

pub held_posted : (v : LedgerValue) (a : Account) → IsSound v → is_there v a ≡ true → is_outside a ≡ false → held_in v a ≤ posted_in v a
held_posted v a sound there inside =
    let x = there_is (balance_of v a) there in
    subst (λ o. option_map_or (λ b. b.held) o 0 ≤ option_map_or (λ b. b.posted) o 0) (sym x.1) (covered_inside v a x.0 sound x.1 inside)

stays_inside : (v : LedgerValue) (a : Account) (change : ℕ → ℕ) (c : Account) → IsInside v c → IsInside (holding v a change) c
stays_inside v a change c h = ap (λ t. t && not (is_outside c)) (there-holding v a change c) ∙ h

-- what was held is available
freed : (v : LedgerValue) (a : Account) (n : ℕ) → IsSound v → IsInside v a → n ≤ held_in v a → n ≤ available_in (holding v a (λ h. h - n)) a
freed v a n sound h le =
    let there : is_there v a ≡ true = left_of (is_there v a) (not (is_outside a)) h in
    let inside : is_outside a ≡ false = not_of (is_there v a) (is_outside a) h in
    let held : held_in (holding v a (λ k. k - n)) a ≡ held_in v a - n =
    held-holding v a (λ k. k - n) a there ∙ ap (λ t. cond t (held_in v a - n) (held_in v a)) (is_account a) in
    omega (arith, held, posted-holding v a (λ k. k - n) a, held_posted v a sound there inside, le)

less_held : (t : Bool) (h n : ℕ) → cond t (h - n) h ≤ h
less_held true h n = omega arith
less_held false h n = omega arith

-- no less is available anywhere
not_less : (v : LedgerValue) (a : Account) (n : ℕ) (c : Account) → is_there v c ≡ true → available_in v c ≤ available_in (holding v a (λ h. h - n)) c
not_less v a n c there =
    omega (arith, held-holding v a (λ k. k - n) c there, less_held (is_same_account c a) (held_in v c) n, posted-holding v a (λ k. k - n) c)

pub can_move_within : (v : LedgerValue) (asset : ℕ) (piece : Piece) → IsSound v → IsInside v piece.payer → IsInside v piece.payee → IsTrue (is_there v (Fees (asset_in v piece.payer))) → taken piece ≤ held_in v piece.payer → asset_in v piece.payer ≡ asset → asset_in v piece.payee ≡ asset → CanMoveWithin (holding v piece.payer (λ h. h - taken piece)) asset piece
can_move_within v asset piece sound payer payee fees covered payer_asset payee_asset =
    let p = piece.payer in
    let change : ℕ → ℕ = λ h. h - taken piece in
    let fees_there : is_there v (Fees asset) ≡ true = subst (λ n. is_there v (Fees n) ≡ true) payer_asset fees in
    record {
      payer = stays_inside v p change p payer;
      payee = stays_inside v p change piece.payee payee;
      fees = there-holding v p change (Fees asset) ∙ fees_there;
      payer_asset = asset-holding v p change p ∙ payer_asset;
      payee_asset = asset-holding v p change piece.payee ∙ payee_asset;
      fees_asset = asset-holding v p change (Fees asset) ∙ fees_numbered v asset sound fees_there;
      covered = freed v p (taken piece) sound payer covered;
      distinct = distinct-map (with_held p change) (held_keeps p change) v.accounts sound.distinct;
    }

either : (p q : Bool) → (p || q) ≡ true → p ≡ false → q ≡ true
either true q h e = absurd (let f : true ≡ false = e in cc)
either false q h e = h

pub can_move_between : (v : LedgerValue) (source target : ℕ) (piece : Piece) → IsSound v → IsInside v piece.payer → IsInside v piece.payee → IsTrue (is_there v (Fees (asset_in v piece.payer))) → IsTrue (are_pools_there v piece) → taken piece ≤ held_in v piece.payer → asset_in v piece.payer ≡ source → asset_in v piece.payee ≡ target → (source ≡ target → ⊥) → piece.delivered ≤ available_in v (Pool target) → CanMoveBetween (holding v piece.payer (λ h. h - taken piece)) source target piece
can_move_between v source target piece sound payer payee fees pools covered payer_asset payee_asset differ liquid =
    let p = piece.payer in
    let change : ℕ → ℕ = λ h. h - taken piece in
    let fees_there : is_there v (Fees source) ≡ true = subst (λ n. is_there v (Fees n) ≡ true) payer_asset fees in
    let apart : is_within_one_asset v piece ≡ false = number_apart (asset_in v piece.payer) (asset_in v piece.payee) (λ e. differ (sym payer_asset ∙ e ∙ payee_asset)) in
    let both = either (is_within_one_asset v piece) (is_there v (Pool (asset_in v piece.payer)) && is_there v (Pool (asset_in v piece.payee))) pools apart in
    let source_pool : is_there v (Pool source) ≡ true = subst (λ n. is_there v (Pool n) ≡ true) payer_asset (left_of (is_there v (Pool (asset_in v piece.payer))) (is_there v (Pool (asset_in v piece.payee))) both) in
    let target_pool : is_there v (Pool target) ≡ true = subst (λ n. is_there v (Pool n) ≡ true) payee_asset (right_of (is_there v (Pool (asset_in v piece.payer))) (is_there v (Pool (asset_in v piece.payee))) both) in
    record {
      payer = stays_inside v p change p payer;
      payee = stays_inside v p change piece.payee payee;
      fees = there-holding v p change (Fees source) ∙ fees_there;
      source_pool = there-holding v p change (Pool source) ∙ source_pool;
      target_pool = there-holding v p change (Pool target) ∙ target_pool;
      payer_asset = asset-holding v p change p ∙ payer_asset;
      payee_asset = asset-holding v p change piece.payee ∙ payee_asset;
      fees_asset = asset-holding v p change (Fees source) ∙ fees_numbered v source sound fees_there;
      source_pool_asset = asset-holding v p change (Pool source) ∙ pool_numbered v source sound source_pool;
      target_pool_asset = asset-holding v p change (Pool target) ∙ pool_numbered v target sound target_pool;
      two_assets = differ;
      covered = freed v p (taken piece) sound payer covered;
      liquid = omega (arith, liquid, not_less v p (taken piece) (Pool target) target_pool);
      distinct = distinct-map (with_held p change) (held_keeps p change) v.accounts sound.distinct;
    }
