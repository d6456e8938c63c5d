-- Balances behind a list of calls.
use Rattle.std.proofs.Common.{◌≡◌, ℕ, ◌+◌, ◌-◌, ◌≤◌, Bool, true, false, cond, refl, sym, ap, subst, ◌∙◌, arith}
use Rattle.std.specs.Prelude.{Some, not, ◌&&◌, ◌==◌, nat_lt}
use Rattle.std.specs.Option.{option_map_or}
use Rattle.std.proofs.lemmas.Bool.Decides.{nat_tests}
use Rattle.op_amount.specs.declared.TheConstants.{TOP}
use Rattle.op_model.specs.Balances.{is_same_account}
use Rattle.op_model.specs.declared.act.Account.{Account}
use Rattle.op_model.specs.declared.act.Account.TheVariants.{Outside, Pool, Fees}
use Rattle.op_ledger.specs.declared.values.Balance.{Balance}
use Rattle.op_ledger.specs.declared.values.Piece.{Piece}
use Rattle.op_ledger.specs.Balances.{LedgerValue, find_balance, balance_of, is_there, is_outside, IsInside, available_in, asset_in, total_in, moved, holding, transfer_legs}
use Rattle.op_ledger.specs.Indexed.{put}
use Rattle.op_ledger.specs.Sound.{IsSound, backing}
use Rattle.op_ledger.specs.Pieces.{within_legs, between_legs, taken, is_within_one_asset, CanMoveWithin, CanMoveBetween}
use Rattle.op_ledger.specs.Runs.{Call, Opened, Deposited, Withdrawn, Held, Posted, Voided, CanPost, CanCall, after_call}
use Rattle.op_ledger.proofs.AccountTests.{left_of, not_of, same_number}
use Rattle.op_ledger.proofs.Index.{found_account, there_is, nothing_is}
use Rattle.op_ledger.proofs.Soundness.{sound_held, sound_deposit, sound_withdrawal, sound_opened, covered_of, covered_inside, backing_inside}
use Rattle.op_ledger.proofs.Moves.{holding_is, deposit_is, withdrawal_is, transfer_is}
use Rattle.op_ledger.proofs.Transfers.{there-moved, asset-moved, there-put, sound_transfer, within_is, between_is, apart_assets, stays_there, same_asset, available_source, available_other}
use Rattle.op_ledger.proofs.Posting.{can_move_within, can_move_between}

-- ---- sound behind each call

pub moved_transfer : (v : LedgerValue) (a c : Account) (n : ℕ) → IsSound v → IsInside v a → IsInside v c → asset_in v a ≡ asset_in v c → n ≤ available_in v a → IsSound (moved v (transfer_legs a c n))
moved_transfer v a c n sound a_in c_in one le =
    let x = there_is (balance_of v a) (left_of (is_there v a) (not (is_outside a)) a_in) in
    let y : Balance = record x.0 { posted = x.0.posted - n } in
    let w = there_is (find_balance (put y v.accounts) c) (there-put y v.accounts c ∙ left_of (is_there v c) (not (is_outside c)) c_in) in
    let a_inside = not_of (is_there v a) (is_outside a) a_in in
    let c_inside = not_of (is_there v c) (is_outside c) c_in in
    let enough : n ≤ x.0.posted - x.0.held = subst (λ o. n ≤ option_map_or (λ b. b.posted) o 0 - option_map_or (λ b. b.held) o 0) x.1 le in
    subst IsSound (transfer_is v a c n x.0 w.0 sound.distinct x.1 a_inside w.1 c_inside (omega (arith, enough)))
    (sound_transfer v a c n x.0 w.0 sound x.1 a_inside w.1 c_inside one enough)

moved_within : (v : LedgerValue) (asset : ℕ) (piece : Piece) → IsSound v → CanMoveWithin v asset piece → IsSound (moved v (within_legs asset piece))
moved_within v asset piece sound can =
    let p = piece.payer in
    let there = left_of (is_there v p) (not (is_outside p)) can.payer in
    let inside = not_of (is_there v p) (is_outside p) can.payer in
    let fee = transfer_legs p (Fees asset) piece.fee in
    let fees_in : IsInside v (Fees asset) = ap (λ t. t && true) can.fees in
    let first : IsSound (moved v fee) = moved_transfer v p (Fees asset) piece.fee sound can.payer fees_in (can.payer_asset ∙ sym can.fees_asset) (omega (arith, can.covered)) in
    subst IsSound (within_is v asset piece can.distinct there (omega (arith, can.covered)))
    (moved_transfer (moved v fee) p piece.payee piece.sent first (stays_there v fee p can.payer) (stays_there v fee piece.payee can.payee)
    (same_asset v fee p piece.payee asset can.payer_asset can.payee_asset)
    (available_source v p (Fees asset) piece.fee piece.sent there inside can.covered))

moved_between : (v : LedgerValue) (source target : ℕ) (piece : Piece) → IsSound v → CanMoveBetween v source target piece → IsSound (moved v (between_legs source target piece))
moved_between v source target piece sound can =
    let p = piece.payer in
    let there = left_of (is_there v p) (not (is_outside p)) can.payer in
    let inside = not_of (is_there v p) (is_outside p) can.payer in
    let fee = transfer_legs p (Fees source) piece.fee in
    let pay = transfer_legs p (Pool source) piece.sent in
    let fees_in : IsInside v (Fees source) = ap (λ t. t && true) can.fees in
    let source_in : IsInside v (Pool source) = ap (λ t. t && true) can.source_pool in
    let target_in : IsInside v (Pool target) = ap (λ t. t && true) can.target_pool in
    let first : IsSound (moved v fee) = moved_transfer v p (Fees source) piece.fee sound can.payer fees_in (can.payer_asset ∙ sym can.fees_asset) (omega (arith, can.covered)) in
    let second : IsSound (moved (moved v fee) pay) =
    moved_transfer (moved v fee) p (Pool source) piece.sent first (stays_there v fee p can.payer) (stays_there v fee (Pool source) source_in)
    (same_asset v fee p (Pool source) source can.payer_asset can.source_pool_asset)
    (available_source v p (Fees source) piece.fee piece.sent there inside can.covered) in
    let apart : is_same_account p (Pool target) ≡ false = apart_assets v p (Pool target) (λ e. can.two_assets (sym can.payer_asset ∙ e ∙ can.target_pool_asset)) in
    subst IsSound (between_is v source target piece can.distinct there (omega (arith, can.covered)))
    (moved_transfer (moved (moved v fee) pay) (Pool target) piece.payee piece.delivered second
    (stays_there (moved v fee) pay (Pool target) (stays_there v fee (Pool target) target_in))
    (stays_there (moved v fee) pay piece.payee (stays_there v fee piece.payee can.payee))
    (same_asset (moved v fee) pay (Pool target) piece.payee target (asset-moved v fee (Pool target) ∙ can.target_pool_asset) (asset-moved v fee piece.payee ∙ can.payee_asset))
    (omega (
      arith,
      can.liquid,
      available_other v p (Fees source) (Pool target) piece.fee can.target_pool refl apart,
      available_other (moved v fee) p (Pool source) (Pool target) piece.sent (there-moved v fee (Pool target) ∙ can.target_pool) refl apart,
    )))

pub freed_sound : (v : LedgerValue) (a : Account) (n : ℕ) → IsSound v → is_there v a ≡ true → IsSound (holding v a (λ h. h - n))
freed_sound v a n sound there =
    let x = there_is (balance_of v a) there in
    let found : balance_of v x.0.account ≡ Some x.0 = subst (λ c. balance_of v c ≡ Some x.0) (sym (found_account v.accounts a x.0 x.1)) x.1 in
    subst IsSound (holding_is v a x.0 (x.0.held - n) (λ h. h - n) sound.distinct x.1 refl)
    (sound_held v x.0 (x.0.held - n) sound found (omega (arith, covered_of v.accounts a x.0 sound.covered x.1)))

held_sound : (v : LedgerValue) (a : Account) (n : ℕ) → IsSound v → IsInside v a → n ≤ available_in v a → IsSound (holding v a (λ h. h + n))
held_sound v a n sound a_in le =
    let x = there_is (balance_of v a) (left_of (is_there v a) (not (is_outside a)) a_in) in
    let at : x.0.account ≡ a = found_account v.accounts a x.0 x.1 in
    let found : balance_of v x.0.account ≡ Some x.0 = subst (λ c. balance_of v c ≡ Some x.0) (sym at) x.1 in
    let inside = not_of (is_there v a) (is_outside a) a_in in
    let enough : n ≤ x.0.posted - x.0.held = subst (λ o. n ≤ option_map_or (λ b. b.posted) o 0 - option_map_or (λ b. b.held) o 0) x.1 le in
    let backed : backing x.0 ≡ x.0.posted = backing_inside x.0 (ap is_outside at ∙ inside) in
    subst IsSound (holding_is v a x.0 (x.0.held + n) (λ h. h + n) sound.distinct x.1 refl)
    (sound_held v x.0 (x.0.held + n) sound found (omega (arith, backed, enough, covered_inside v a x.0 sound x.1 inside)))

differ_of : (m n : ℕ) → (m == n) ≡ false → m ≡ n → ⊥
differ_of m n h e = grind (arith, nat_tests)

not_less_of : (m n : ℕ) → nat_lt m n ≡ false → n ≤ m
not_less_of m n h = grind (arith, nat_tests)

liquid_of : (p q : Bool) → (not p && q) ≡ false → p ≡ false → q ≡ false
liquid_of true q h e = absurd (let f : true ≡ false = e in cc)
liquid_of false q h e = h

pub within_can : (v : LedgerValue) (piece : Piece) → is_within_one_asset v piece ≡ true → IsSound v → CanPost v piece → CanMoveWithin (holding v piece.payer (λ h. h - taken piece)) (asset_in v piece.payer) piece
within_can v piece e sound can =
    can_move_within v (asset_in v piece.payer) piece sound can.payer can.payee can.fees can.covered refl (sym (same_number (asset_in v piece.payer) (asset_in v piece.payee) e))

pub between_can : (v : LedgerValue) (piece : Piece) → is_within_one_asset v piece ≡ false → IsSound v → CanPost v piece → CanMoveBetween (holding v piece.payer (λ h. h - taken piece)) (asset_in v piece.payer) (asset_in v piece.payee) piece
between_can v piece e sound can =
    let enough = liquid_of (is_within_one_asset v piece) (nat_lt (available_in v (Pool (asset_in v piece.payee))) piece.delivered) can.liquid e in
    can_move_between v (asset_in v piece.payer) (asset_in v piece.payee) piece sound can.payer can.payee can.fees can.pools can.covered refl refl
    (differ_of (asset_in v piece.payer) (asset_in v piece.payee) e)
    (not_less_of (available_in v (Pool (asset_in v piece.payee))) piece.delivered enough)

piece_step : (t : Bool) (v : LedgerValue) (piece : Piece) → is_within_one_asset v piece ≡ t → IsSound v → CanPost v piece → IsSound (moved (holding v piece.payer (λ h. h - taken piece)) (cond t (within_legs (asset_in v piece.payer) piece) (between_legs (asset_in v piece.payer) (asset_in v piece.payee) piece)))
piece_step true v piece e sound can =
    moved_within (holding v piece.payer (λ h. h - taken piece)) (asset_in v piece.payer) piece
    (freed_sound v piece.payer (taken piece) sound (left_of (is_there v piece.payer) (not (is_outside piece.payer)) can.payer)) (within_can v piece e sound can)
piece_step false v piece e sound can =
    moved_between (holding v piece.payer (λ h. h - taken piece)) (asset_in v piece.payer) (asset_in v piece.payee) piece
    (freed_sound v piece.payer (taken piece) sound (left_of (is_there v piece.payer) (not (is_outside piece.payer)) can.payer)) (between_can v piece e sound can)

-- the balance on the other side of a deposit or a withdrawal
other_side : (v : LedgerValue) (a : Account) (x : Balance) → balance_of v a ≡ Some x → is_there v (Outside (asset_in v a)) ≡ true → (w : Balance) × (balance_of v (Outside x.asset) ≡ Some w)
other_side v a x found there =
    there_is (balance_of v (Outside x.asset)) (subst (λ o. is_there v (Outside (option_map_or (λ b. b.asset) o 0)) ≡ true) found there)

pub sound_call : (v : LedgerValue) (call : Call) → IsSound v → CanCall v call → IsSound (after_call v call)
sound_call v (Opened account asset) sound can = sound_opened v account asset sound (nothing_is (balance_of v account) can.0) can.1
sound_call v (Deposited a n) sound can =
    let x = there_is (balance_of v a) (left_of (is_there v a) (not (is_outside a)) can.0) in
    let inside = not_of (is_there v a) (is_outside a) can.0 in
    let w = other_side v a x.0 x.1 can.1 in
    let top : w.0.posted + n ≤ TOP =
    subst (λ o. option_map_or (λ b. b.posted) o 0 + n ≤ TOP) w.1
    (subst (λ o. total_in v (option_map_or (λ b. b.asset) o 0) + n ≤ TOP) x.1 can.2) in
    subst IsSound (deposit_is v a n x.0 w.0 sound.distinct x.1 inside w.1) (sound_deposit v a n x.0 w.0 sound x.1 inside w.1 top)
sound_call v (Withdrawn a n) sound can =
    let x = there_is (balance_of v a) (left_of (is_there v a) (not (is_outside a)) can.0) in
    let inside = not_of (is_there v a) (is_outside a) can.0 in
    let w = other_side v a x.0 x.1 can.1 in
    let enough : n ≤ x.0.posted - x.0.held = subst (λ o. n ≤ option_map_or (λ b. b.posted) o 0 - option_map_or (λ b. b.held) o 0) x.1 can.2 in
    subst IsSound (withdrawal_is v a n x.0 w.0 sound.distinct x.1 inside w.1 (omega (arith, enough))) (sound_withdrawal v a n x.0 w.0 sound x.1 inside w.1 enough)
sound_call v (Held a n) sound can = held_sound v a n sound can.0 can.1
sound_call v (Posted piece) sound can = piece_step (is_within_one_asset v piece) v piece refl sound can
sound_call v (Voided a n) sound can = freed_sound v a n sound can.0
