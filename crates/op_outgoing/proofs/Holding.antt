-- What is held on a ledger, and what payments have left to post.
use Rattle.std.proofs.Common.{◌≡◌, refl, sym, ap, subst, ◌∙◌, ℕ, ◌+◌, ◌-◌, ◌*◌, ◌/◌, ◌<◌, ◌≤◌, Bool, true, false, cond, arith}
use Rattle.std.specs.Prelude.{◌==◌, ◌&&◌, Some, None, is_some}
use Rattle.std.specs.Option.{option_map_or}
use Rattle.std.specs.declared.option.Option.{Option}
use Rattle.std.proofs.Math.Nat.{div-mul-le_self, div-le_of_le-mul, mul-le-mul_left, mul-div_cancel}
use Rattle.std.proofs.lemmas.Nat.{le-div}
use Rattle.op_amount.specs.Rates.{share}
use Rattle.op_ledger.specs.Balances.{LedgerValue, balance_of, is_there, held_in, holding}
use Rattle.op_ledger.specs.declared.values.Balance.{Balance}
use Rattle.op_ledger.specs.Pieces.{taken, with_piece, piece_legs}
use Rattle.op_ledger.proofs.AccountTests.{account_is, is_same_account-sym, same_number}
use Rattle.op_ledger.proofs.Transfers.{held-holding, held-moved, there-holding}
use Rattle.op_model.specs.Balances.{is_same_account, is_payer}
use Rattle.op_model.specs.Payments.{is_sending, left_to_post}
use Rattle.op_model.specs.declared.act.Account.{Account}
use Rattle.op_model.specs.declared.act.Account.TheVariants.{Wallet}
use Rattle.op_model.specs.declared.act.FailReason.{FailReason}
use Rattle.op_model.specs.declared.row.OutgoingRow.{OutgoingRow}
use Rattle.op_model.specs.declared.row.PaymentState.TheVariants as states
use Rattle.op_outgoing.specs.Held.{left_by, HoldsAlike}
use Rattle.op_outgoing.specs.Pieces.{next_sent, next_fee, next_piece}
use Rattle.op_outgoing.specs.Sound.{IsAsFarAs, IsSoundRow}
use Rattle.op_outgoing.specs.Steps.{funded_row, with_next_piece, ended_as, to_hold}

-- ---- what is held, behind a change on one account

nothing : (found : Option Balance) → is_some found ≡ false → option_map_or (λ b. b.held) found 0 ≡ 0
nothing None h = refl
nothing (Some b) h = absurd (let no : true ≡ false = h in cc)

apart_step : (t : Bool) (v : LedgerValue) (a c : Account) → is_same_account c a ≡ t → is_there v a ≡ true → is_there v c ≡ false → t ≡ false
apart_step true v a c is there none = absurd (let no : true ≡ false = sym there ∙ ap (is_there v) (sym (account_is c a is)) ∙ none in cc)
apart_step false v a c is there none = refl

held_step : (t : Bool) (v : LedgerValue) (a : Account) (change : ℕ → ℕ) (c : Account) → is_there v c ≡ t → is_there v a ≡ true → held_in (holding v a change) c ≡ cond (is_same_account c a) (change (held_in v c)) (held_in v c)
held_step true v a change c is there = held-holding v a change c is
held_step false v a change c is there =
    let before : held_in v c ≡ 0 = nothing (balance_of v c) is in
    let after : held_in (holding v a change) c ≡ 0 = nothing (balance_of (holding v a change) c) (there-holding v a change c ∙ is) in
    after ∙ sym before ∙ sym (ap (λ t. cond t (change (held_in v c)) (held_in v c)) (apart_step (is_same_account c a) v a c refl there is))

held_at : (v : LedgerValue) (a : Account) (change : ℕ → ℕ) (c : Account) → is_there v a ≡ true → held_in (holding v a change) c ≡ cond (is_same_account c a) (change (held_in v c)) (held_in v c)
held_at v a change c there = held_step (is_there v c) v a change c refl there

-- ---- what is left to post

left_step : (payer sends : Bool) (left : ℕ) → cond (payer && sends) left 0 ≡ cond payer (cond sends left 0) 0
left_step true sends left = refl
left_step false sends left = refl

left_is : (account : Account) (row : OutgoingRow) → left_by account row ≡ cond (is_payer account row) (to_hold row) 0
left_is account row = left_step (is_payer account row) (is_sending row.state) (left_to_post row)

alike_step : (t : Bool) (v : LedgerValue) (old new : OutgoingRow) (change : ℕ → ℕ) (address : ℕ) → is_payer (Wallet address) old ≡ t → is_payer (Wallet address) new ≡ t → is_there v (Wallet old.terms.payer) ≡ true → change (held_in v (Wallet old.terms.payer)) + to_hold old ≡ held_in v (Wallet old.terms.payer) + to_hold new → held_in (holding v (Wallet old.terms.payer) change) (Wallet address) + left_by (Wallet address) old ≡ held_in v (Wallet address) + left_by (Wallet address) new
alike_step true v old new change address was is there e =
    let payer = Wallet old.terms.payer in
    let here : held_in v (Wallet address) ≡ held_in v payer = ap (held_in v) (sym (account_is payer (Wallet address) was)) in
    let after : held_in (holding v payer change) (Wallet address) ≡ change (held_in v payer) =
    held_at v payer change (Wallet address) there ∙ ap (λ t. cond t (change (held_in v (Wallet address))) (held_in v (Wallet address))) (is_same_account-sym (Wallet address) payer ∙ was) ∙ ap change here in
    let left_old : left_by (Wallet address) old ≡ to_hold old = left_is (Wallet address) old ∙ ap (λ t. cond t (to_hold old) 0) was in
    let left_new : left_by (Wallet address) new ≡ to_hold new = left_is (Wallet address) new ∙ ap (λ t. cond t (to_hold new) 0) is in
    omega (arith, here, after, left_old, left_new, e)
alike_step false v old new change address was is there e =
    let payer = Wallet old.terms.payer in
    let after : held_in (holding v payer change) (Wallet address) ≡ held_in v (Wallet address) =
    held_at v payer change (Wallet address) there ∙ ap (λ t. cond t (change (held_in v (Wallet address))) (held_in v (Wallet address))) (is_same_account-sym (Wallet address) payer ∙ was) in
    let left_old : left_by (Wallet address) old ≡ 0 = left_is (Wallet address) old ∙ ap (λ t. cond t (to_hold old) 0) was in
    let left_new : left_by (Wallet address) new ≡ 0 = left_is (Wallet address) new ∙ ap (λ t. cond t (to_hold new) 0) is in
    omega (arith, after, left_old, left_new)

-- a change of what is held on the payer, by what a payment has to be held
alike : (v : LedgerValue) (old new : OutgoingRow) (change : ℕ → ℕ) → is_there v (Wallet old.terms.payer) ≡ true → ((address : ℕ) → is_payer (Wallet address) new ≡ is_payer (Wallet address) old) → change (held_in v (Wallet old.terms.payer)) + to_hold old ≡ held_in v (Wallet old.terms.payer) + to_hold new → HoldsAlike old new v (holding v (Wallet old.terms.payer) change)
alike v old new change there same e =
    λ address. alike_step (is_payer (Wallet address) old) v old new change address refl (same address) there e

-- nothing is changed
unchanged_step : (t : Bool) (h was is : ℕ) → was ≡ is → h + cond t was 0 ≡ h + cond t is 0
unchanged_step true h was is e = omega arith
unchanged_step false h was is e = refl

pub alike_unchanged : (v : LedgerValue) (old new : OutgoingRow) → ((address : ℕ) → is_payer (Wallet address) new ≡ is_payer (Wallet address) old) → to_hold old ≡ to_hold new → HoldsAlike old new v v
alike_unchanged v old new same e = λ address.
    ap (λ n. held_in v (Wallet address) + n) (left_is (Wallet address) old)
    ∙ unchanged_step (is_payer (Wallet address) old) (held_in v (Wallet address)) (to_hold old) (to_hold new) e
    ∙ sym (ap (λ n. held_in v (Wallet address) + n) (left_is (Wallet address) new ∙ ap (λ t. cond t (to_hold new) 0) (same address)))

-- ---- shares

pub zero_share : (fee whole : ℕ) → share fee 0 whole ≡ 0
zero_share fee whole = let none : fee * 0 / whole ≤ 0 = div-le_of_le-mul whole (omega arith) in omega arith

pub share-le : (fee s t whole : ℕ) → s ≤ t → 0 < whole → share fee s whole ≤ share fee t whole
share-le fee s t whole le some = le-div (fee * s / whole) (fee * t) whole some (omega (arith, div-mul-le_self (fee * s) whole, mul-le-mul_left fee le))

pub share_whole : (fee whole : ℕ) → 0 < whole → share fee whole whole ≡ fee
share_whole fee whole some = mul-div_cancel fee some

-- ---- what has to be held for a payment, behind each step

pub waiting_holds_none : (row : OutgoingRow) → row.state ≡ states.Funding → to_hold row ≡ 0
waiting_holds_none row is = ap (λ state. cond (is_sending state) (left_to_post row) 0) is

pub sending_holds : (row : OutgoingRow) → row.state ≡ states.Sending → to_hold row ≡ left_to_post row
sending_holds row is = ap (λ state. cond (is_sending state) (left_to_post row) 0) is

pub funding_far : (row : OutgoingRow) → IsSoundRow row → row.state ≡ states.Funding → row.sent ≡ 0
funding_far row sound is = let far = subst (λ state. IsAsFarAs state row) is sound.far in far.0

pub sending_far : (row : OutgoingRow) → IsSoundRow row → row.state ≡ states.Sending → row.sent < row.terms.source
sending_far row sound is = let far = subst (λ state. IsAsFarAs state row) is sound.far in far.0

pub alike_funded : (v : LedgerValue) (row : OutgoingRow) → IsSoundRow row → row.state ≡ states.Funding → is_there v (Wallet row.terms.payer) ≡ true → HoldsAlike row (funded_row row) v (holding v (Wallet row.terms.payer) (λ h. h + row.terms.debit))
alike_funded v row sound is there =
    let none = waiting_holds_none row is in
    let sent = funding_far row sound is in
    let fee : row.fee ≡ 0 = sound.fee ∙ ap (λ s. share row.terms.fee s row.terms.source) sent ∙ zero_share row.terms.fee row.terms.source in
    alike v row (funded_row row) (λ h. h + row.terms.debit) there (λ address. refl) (omega (arith, none, sent, fee))

pub alike_not_funded : (v : LedgerValue) (row : OutgoingRow) (reason : FailReason) → row.state ≡ states.Funding → HoldsAlike row (ended_as reason row) v v
alike_not_funded v row reason is = alike_unchanged v row (ended_as reason row) (λ address. refl) (waiting_holds_none row is)

pub alike_failed : (v : LedgerValue) (row : OutgoingRow) (reason : FailReason) → row.state ≡ states.Sending → is_there v (Wallet row.terms.payer) ≡ true → to_hold row ≤ held_in v (Wallet row.terms.payer) → HoldsAlike row (ended_as reason row) v (holding v (Wallet row.terms.payer) (λ h. h - left_to_post row))
alike_failed v row reason is there covered =
    let holds = sending_holds row is in
    alike v row (ended_as reason row) (λ h. h - left_to_post row) there (λ address. refl) (omega (arith, holds, covered))

next_holds_step : (t : Bool) (row : OutgoingRow) → (next_sent row == row.terms.source) ≡ t → IsSoundRow row → cond (is_sending (cond t states.Completed states.Sending)) (row.terms.debit - next_sent row - next_fee row) 0 ≡ row.terms.debit - next_sent row - next_fee row
next_holds_step true row is sound =
    let all : next_sent row ≡ row.terms.source = same_number (next_sent row) row.terms.source is in
    let fee : next_fee row ≡ row.terms.fee = ap (λ s. share row.terms.fee s row.terms.source) all ∙ share_whole row.terms.fee row.terms.source sound.priced.some in
    omega (arith, all, fee, sound.priced.debit)
next_holds_step false row is sound = refl

next_holds : (row : OutgoingRow) → IsSoundRow row → to_hold (with_next_piece row) ≡ row.terms.debit - next_sent row - next_fee row
next_holds row sound =
    ap (λ state. cond (is_sending state) (row.terms.debit - next_sent row - next_fee row) 0) refl
    ∙ next_holds_step (next_sent row == row.terms.source) row refl sound

pub alike_sent : (v : LedgerValue) (row : OutgoingRow) → IsSoundRow row → row.state ≡ states.Sending → is_there v (Wallet row.terms.payer) ≡ true → to_hold row ≤ held_in v (Wallet row.terms.payer) → HoldsAlike row (with_next_piece row) v (with_piece v (next_piece row))
alike_sent v row sound is there covered =
    let some = sound.priced.some in
    let holds = sending_holds row is in
    let then_holds = next_holds row sound in
    let more : row.sent ≤ next_sent row = omega (arith, sound.sent) in
    let within : next_sent row ≤ row.terms.source = omega arith in
    let fee : row.fee ≤ next_fee row = omega (arith, sound.fee, share-le row.terms.fee row.sent (next_sent row) row.terms.source more some) in
    let fee_within : next_fee row ≤ row.terms.fee = omega (arith, share-le row.terms.fee (next_sent row) row.terms.source row.terms.source within some, share_whole row.terms.fee row.terms.source some) in
    let taken_is : taken (next_piece row) ≡ (next_sent row - row.sent) + (next_fee row - row.fee) = refl in
    let part = alike v row (with_next_piece row) (λ h. h - taken (next_piece row)) there (λ address. refl)
    (omega (arith, holds, then_holds, covered, more, within, fee, fee_within, taken_is, sound.priced.debit)) in
    λ address. ap (λ h. h + left_by (Wallet address) row) (held-moved (holding v (Wallet row.terms.payer) (λ h. h - taken (next_piece row))) (piece_legs v (next_piece row)) (Wallet address)) ∙ part address
