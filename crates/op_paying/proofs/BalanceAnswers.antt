-- What the ledger of a history tells of its accounts, and what it answers.
use Rattle.std.proofs.Common.{◌≡◌, ℕ, ◌+◌, ◌-◌, ◌<◌, ◌≤◌, Bool, true, false, List, refl, ◌∙◌, sym, ap, arith, Some, None, Option, Ok, Err}
use Rattle.std.specs.Prelude.{◌&&◌, not, is_some, unwrap_or, nat_lt}
use Rattle.std.specs.Option.{option_map, option_map_or, option_and_then}
use Rattle.std.proofs.lemmas.Bool.Decides.{nat_tests}
use Rattle.op_amount.specs.declared.TheConstants.{TOP}
use Rattle.op_ledger.specs.declared.values.Balance.{Balance}
use Rattle.op_ledger.specs.Balances.{LedgerValue, balance_of, is_there, is_outside, posted_in, available_in, asset_in}
use Rattle.op_ledger.proofs.AccountTests.{not_of}
use Rattle.op_model.specs.Asking.{refuse_if}
use Rattle.op_model.specs.Balances.{account_asset, posted, available, total}
use Rattle.op_model.specs.History.{AssetRow, nth, assets, no_asset, asset_row}
use Rattle.op_model.specs.Payments.{outgoing_row, is_ended}
use Rattle.op_model.specs.declared.act.Account.{Account}
use Rattle.op_model.specs.declared.act.Account.TheVariants.{Outside, Pool, Fees, Wallet}
use Rattle.op_model.specs.declared.act.Entry.{Entry}
use Rattle.op_model.specs.declared.reply.Refusal.{Refusal}
use Rattle.op_model.specs.declared.reply.Refusal.TheVariants.{AssetFull, Short}
use Rattle.op_model.specs.declared.reply.ProgressShown.{ProgressShown}
use Rattle.op_model.specs.declared.row.OutgoingRow.{OutgoingRow}
use Rattle.op_model.specs.declared.row.PaymentState.{PaymentState}
use Rattle.op_model.specs.declared.row.PaymentState.TheVariants as states
use Rattle.op_outgoing.specs.Sound.{IsSoundRow, IsAsFarAs}
use Rattle.op_paying.specs.Balances.{deposit_answer, withdrawal_answer, cancelled_shown}
use Rattle.op_paying.specs.Ledgers.{StandsAs}
use Rattle.op_paying.specs.Money.{IsMoneyOf}
use Rattle.op_paying.specs.declared.money.Money.{Money}
use Rattle.op_paying.proofs.Moving.{total_same}
use Rattle.op_paying.proofs.StepReplies.{nth_map, available_same}

-- ---- accounts that are there

pub posted_inside : (history : List Entry) (v : LedgerValue) (a : Account) → StandsAs history v → (is_there v a && not (is_outside a)) ≡ true → posted_in v a ≡ posted history a
posted_inside history v a stands inside = omega (arith, stands.posted a (not_of (is_there v a) (is_outside a) inside))

pub available_inside : (history : List Entry) (v : LedgerValue) (a : Account) → StandsAs history v → (is_there v a && not (is_outside a)) ≡ true → available_in v a ≡ available history a
available_inside history v a stands inside = available_same history v a stands (not_of (is_there v a) (is_outside a) inside)

-- ---- accounts that are not there

absent : (f : Balance → ℕ) (o : Option Balance) → is_some o ≡ false → option_map_or f o 0 ≡ 0
absent f None h = refl
absent f (Some b) h = absurd (let e : true ≡ false = h in cc)

left_false : (b : Bool) → (b && true) ≡ false → b ≡ false
left_false true h = h
left_false false h = refl

absent_posted : (history : List Entry) (v : LedgerValue) (a : Account) → StandsAs history v → is_outside a ≡ false → is_there v a ≡ false → posted history a ≡ 0
absent_posted history v a stands inside none =
    let zero : posted_in v a ≡ 0 = absent (λ b. b.posted) (balance_of v a) none in
    omega (arith, stands.posted a inside, zero)

pub none_posted : (history : List Entry) (v : LedgerValue) (a : Account) → StandsAs history v → (is_there v a && not (is_outside a)) ≡ false → posted history a ≡ 0
none_posted history v (Outside n) stands none = omega (arith, stands.total n)
none_posted history v (Pool n) stands none = absent_posted history v (Pool n) stands refl (left_false (is_there v (Pool n)) none)
none_posted history v (Fees n) stands none = absent_posted history v (Fees n) stands refl (left_false (is_there v (Fees n)) none)
none_posted history v (Wallet n) stands none = absent_posted history v (Wallet n) stands refl (left_false (is_there v (Wallet n)) none)

pub none_available : (history : List Entry) (v : LedgerValue) (a : Account) → StandsAs history v → (is_there v a && not (is_outside a)) ≡ false → available history a ≡ 0
none_available history v a stands none = let zero = none_posted history v a stands none in omega (arith, zero)

pub none_total : (history : List Entry) (v : LedgerValue) (n : ℕ) → StandsAs history v → is_there v (Outside n) ≡ false → total history n ≡ 0
none_total history v n stands none = sym (total_same history v n stands) ∙ absent (λ b. b.posted) (balance_of v (Outside n)) none

-- ---- the asset of an account

pub account_kept : (history : List Entry) (v : LedgerValue) (a : Account) (n : ℕ) → StandsAs history v → a ≡ Wallet n → asset_in v a ≡ account_asset history a
account_kept history v a n stands is = ap (asset_in v) is ∙ stands.asset n ∙ ap (account_asset history) (sym is)

-- ---- the pieces of an asset

row_pieces : (o : Option AssetRow) → unwrap_or (option_map (λ (row : AssetRow). row.pieces) o) 1 ≡ (unwrap_or o no_asset).pieces
row_pieces None = refl
row_pieces (Some row) = refl

pub pieces_are_kept : (history : List Entry) (money : Money) (n : ℕ) → IsMoneyOf history money → unwrap_or (nth money.pieces.items n) 1 ≡ (asset_row history n).pieces
pieces_are_kept history money n is =
    ap (λ (l : List ℕ). unwrap_or (nth l n) 1) is.pieces_are
    ∙ ap (λ (o : Option ℕ). unwrap_or o 1) (nth_map (λ (row : AssetRow). row.pieces) (assets history) n)
    ∙ row_pieces (nth (assets history) n)

-- ---- what deposits and withdrawals are answered

less : (m n : ℕ) → m < n → nat_lt m n ≡ true
less m n h = grind (arith, nat_tests)

not_less : (m n : ℕ) → n ≤ m → nat_lt m n ≡ false
not_less m n h = grind (arith, nat_tests)

refused : (b : Bool) (given due : Refusal) → b ≡ true → due ≡ given → refuse_if b due ≡ Err given
refused b given due is same = rw (is, same) refl

passed : (b : Bool) (due : Refusal) → b ≡ false → refuse_if b due ≡ Ok tt
passed b due is = rw is refl

pub same_total : (history : List Entry) (account : Account) (asset held : ℕ) → asset ≡ account_asset history account → held ≡ total history asset → held ≡ total history (account_asset history account)
same_total history account asset held is held_is = held_is ∙ ap (total history) is

pub deposit_full : (history : List Entry) (account : Account) (held value : ℕ) → held ≡ total history (account_asset history account) → TOP - held < value → deposit_answer history account value ≡ Err (AssetFull held)
deposit_full history account held value is over =
    let all = total history (account_asset history account) in
    let more : TOP < all + value = omega (arith, is, over) in
    refused (nat_lt TOP (all + value)) (AssetFull held) (AssetFull all) (less TOP (all + value) more) (ap AssetFull (sym is))

pub deposit_fits : (history : List Entry) (account : Account) (held value : ℕ) → held ≡ total history (account_asset history account) → held ≤ TOP → value ≤ TOP - held → deposit_answer history account value ≡ Ok tt
deposit_fits history account held value is top fits =
    let all = total history (account_asset history account) in
    let within : all + value ≤ TOP = omega (arith, is, top, fits) in
    passed (nat_lt TOP (all + value)) (AssetFull all) (not_less TOP (all + value) within)

pub withdrawal_short : (history : List Entry) (account : Account) (has value : ℕ) → has ≡ available history account → has < value → withdrawal_answer history account value ≡ Err (Short has)
withdrawal_short history account has value is less_than =
    let here = available history account in
    let lacks : here < value = omega (arith, is, less_than) in
    refused (nat_lt here value) (Short has) (Short here) (less here value lacks) (ap Short (sym is))

pub withdrawal_covered : (history : List Entry) (account : Account) (has value : ℕ) → has ≡ available history account → value ≤ has → withdrawal_answer history account value ≡ Ok tt
withdrawal_covered history account has value is enough =
    let here = available history account in
    let covers : value ≤ here = omega (arith, is, enough) in
    passed (nat_lt here value) (Short here) (not_less here value covers)

-- ---- outgoing payments

pub payment_kept : (history : List Entry) (money : Money) (n : ℕ) → IsMoneyOf history money → nth money.outgoings.rows n ≡ outgoing_row history n
payment_kept history money n is = ap (λ (l : List OutgoingRow). nth l n) is.payments_are

-- the steps of a payment that has not ended are counted
steps_at : (state : PaymentState) (row : OutgoingRow) → IsAsFarAs state row → row.sent ≤ TOP → is_ended state ≡ false → row.step ≤ TOP + 1
steps_at states.Funding row far top running = omega (arith, far.1)
steps_at states.Sending row far top running = omega (arith, far.1, top)
steps_at states.Completed row far top running = absurd (let e : true ≡ false = running in cc)
steps_at states.Failed row far top running = absurd (let e : true ≡ false = running in cc)

pub steps_fit : (row : OutgoingRow) → IsSoundRow row → is_ended row.state ≡ false → row.step ≤ TOP + 1
steps_fit row sound running =
    let top : row.sent ≤ TOP = omega (arith, sound.sent, sound.priced.debit, sound.priced.top) in
    steps_at row.state row sound.far top running

pub none_cancelled : (found : Option OutgoingRow) → found ≡ None → None ≡ option_and_then cancelled_shown found
none_cancelled found none = sym (ap (option_and_then cancelled_shown) none)

pub ended_cancelled : (found : Option OutgoingRow) (row : OutgoingRow) → Some row ≡ found → is_ended row.state ≡ true → None ≡ option_and_then cancelled_shown found
ended_cancelled found row there ended = let e : cancelled_shown row ≡ None = rw ended refl in sym e ∙ ap (option_and_then cancelled_shown) there

pub is_cancelled : (found : Option OutgoingRow) (row : OutgoingRow) (told : ProgressShown) → Some row ≡ found → is_ended row.state ≡ false → Some told ≡ cancelled_shown row → Some told ≡ option_and_then cancelled_shown found
is_cancelled found row told there running is = is ∙ ap (option_and_then cancelled_shown) there
