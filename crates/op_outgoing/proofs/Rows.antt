-- Payments in a list, of which one changes.
use Rattle.std.proofs.Common.{◌≡◌, refl, sym, ap, subst, ◌∙◌, ℕ, zero, suc, ◌+◌, ◌-◌, ◌<◌, ◌≤◌, Bool, true, false, cond, List, [], ◌∷◌, map, length, get_or, arith}
use Rattle.std.specs.Prelude.{◌==◌, ◌||◌, slice_set, slice_get, Some, None}
use Rattle.std.specs.List.{enumerate_from, list_any}
use Rattle.std.specs.Option.{option_map_or}
use Rattle.std.proofs.lemmas.List.Sums.{sum_by-set, get_or-le-sum_by}
use Rattle.std.proofs.lemmas.Option.{slice_get_within, get_or_from_slice_get}
use Rattle.op_ledger.specs.Balances.{LedgerValue, held_in}
use Rattle.op_ledger.proofs.AccountTests.{is_account}
use Rattle.op_model.specs.Balances.{is_payer}
use Rattle.op_model.specs.History.{nth, changed_at, with_item}
use Rattle.op_model.specs.declared.act.Account.{Account}
use Rattle.op_model.specs.declared.act.Account.TheVariants.{Wallet}
use Rattle.op_model.specs.declared.row.OutgoingRow.{OutgoingRow}
use Rattle.op_model.proofs.Items.{set_is_with_item}
use Rattle.op_outgoing.specs.Held.{left_by, left_of, IsCovered, HoldsAlike}
use Rattle.op_outgoing.specs.Steps.{to_hold}
use Rattle.op_outgoing.specs.Tied.{AreTied}
use Rattle.op_outgoing.specs.Value.{OutgoingsValue, is_from}
use Rattle.op_outgoing.specs.declared.quoted.Quoted.{Quoted}

-- ---- items by number

-- item n, as an index has it
pub record IsAt {X : Type 0} (xs : List X) (n : ℕ) (x : X) : Type 0 where
  pub some : 1 ≤ n
  pub got : slice_get xs (n - 1) ≡ Some x

pub place_of : {X : Type 0} (xs : List X) (n : ℕ) (x : X) → nth xs n ≡ Some x → IsAt xs n x
place_of xs zero x h = absurd (let no : None ≡ Some x = h in cc)
place_of xs (suc m) x h =
    let same : suc m - 1 ≡ m = omega arith in
    record { some = omega arith; got = subst (λ k. slice_get xs k ≡ Some x) (sym same) h }

pub written : {X : Type 0} (change : X → X) (xs : List X) (n : ℕ) (x : X) → nth xs n ≡ Some x → slice_set xs (n - 1) (change x) ≡ with_item change xs n
written change xs n x h = let at = place_of xs n x h in set_is_with_item change n xs x at.some at.got

-- two changes that agree at the item
pub with_item-agree : {X : Type 0} (f g : X → X) (xs : List X) (n : ℕ) (x : X) → nth xs n ≡ Some x → f x ≡ g x → with_item f xs n ≡ with_item g xs n
with_item-agree f g xs n x h same = sym (written f xs n x h) ∙ ap (slice_set xs (n - 1)) same ∙ written g xs n x h

same_either : {X : Type 0} (t : Bool) (x : X) → cond t x x ≡ x
same_either true x = refl
same_either false x = refl

unchanged_from : {X : Type 0} (n b : ℕ) (xs : List X) → map (changed_at (λ x. x) n) (enumerate_from b xs) ≡ xs
unchanged_from n b [] = refl
unchanged_from n b (x ∷ xs) = rw (same_either (b == n) x, unchanged_from n (b + 1) xs) refl

-- a change that leaves the item as it is
pub with_item-same : {X : Type 0} (f : X → X) (xs : List X) (n : ℕ) (x : X) → nth xs n ≡ Some x → f x ≡ x → with_item f xs n ≡ xs
with_item-same f xs n x h same = with_item-agree f (λ y. y) xs n x h same ∙ unchanged_from n 1 xs

-- ---- quotes that were paid

quoted_step : (t : Bool) (change : OutgoingRow → OutgoingRow) (q : ℕ) (row : OutgoingRow) → (change row).quote ≡ row.quote → is_from q (cond t (change row) row) ≡ is_from q row
quoted_step true change q row same = ap (λ quote. option_map_or (λ n. n == q) quote false) same
quoted_step false change q row same = refl

paid_from : (change : OutgoingRow → OutgoingRow) (n b q : ℕ) (rows : List OutgoingRow) → ((row : OutgoingRow) → (change row).quote ≡ row.quote) → list_any (is_from q) (map (changed_at change n) (enumerate_from b rows)) ≡ list_any (is_from q) rows
paid_from change n b q [] same = refl
paid_from change n b q (row ∷ rows) same =
    ap (λ t. t || list_any (is_from q) (map (changed_at change n) (enumerate_from (b + 1) rows))) (quoted_step (b == n) change q row (same row))
    ∙ ap (λ t. is_from q row || t) (paid_from change n (b + 1) q rows same)

pub tied_changed : (change : OutgoingRow → OutgoingRow) (quotes : List Quoted) (rows : List OutgoingRow) (n : ℕ) → ((row : OutgoingRow) → (change row).quote ≡ row.quote) → AreTied quotes rows → AreTied quotes (with_item change rows n)
tied_changed change quotes rows n same tied = record {
  priced = tied.priced;
  marked = λ q. tied.marked q ∙ sym (paid_from change n 1 q rows same);
}

-- ---- what is left to post

pub left_changed : (rows : List OutgoingRow) (change : OutgoingRow → OutgoingRow) (n : ℕ) (row : OutgoingRow) (account : Account) → nth rows n ≡ Some row → left_of (with_item change rows n) account + left_by account row ≡ left_of rows account + left_by account (change row)
left_changed rows change n row account h =
    let at = place_of rows n row h in
    let within : n - 1 < length rows = slice_get_within rows (n - 1) row at.got in
    ap (λ xs. left_of xs account + left_by account row) (sym (written change rows n row h))
    ∙ ap (λ x. left_of (slice_set rows (n - 1) (change row)) account + left_by account x) (sym (get_or_from_slice_get rows (n - 1) row row at.got))
    ∙ sum_by-set (left_by account) rows (n - 1) (change row) row within

payer_step : (row : OutgoingRow) → is_payer (Wallet row.terms.payer) row ≡ true → left_by (Wallet row.terms.payer) row ≡ to_hold row
payer_step row is = rw is refl

-- what has to be held for a payment is a part of what its payer's have left
pub hold-le : (rows : List OutgoingRow) (n : ℕ) (row : OutgoingRow) → nth rows n ≡ Some row → to_hold row ≤ left_of rows (Wallet row.terms.payer)
hold-le rows n row h =
    let at = place_of rows n row h in
    let within : n - 1 < length rows = slice_get_within rows (n - 1) row at.got in
    let part = get_or-le-sum_by (left_by (Wallet row.terms.payer)) rows (n - 1) row within in
    let here : left_by (Wallet row.terms.payer) (get_or rows (n - 1) row) ≡ to_hold row = ap (left_by (Wallet row.terms.payer)) (get_or_from_slice_get rows (n - 1) row row at.got) ∙ payer_step row (is_account (Wallet row.terms.payer)) in
    omega (arith, here, part)

-- what is held on a wallet changes by what its payments have left to post
pub held_changed : (rows : List OutgoingRow) (change : OutgoingRow → OutgoingRow) (n : ℕ) (row : OutgoingRow) (ledger after : LedgerValue) → nth rows n ≡ Some row → HoldsAlike row (change row) ledger after → (address : ℕ) → held_in after (Wallet address) + left_of rows (Wallet address) ≡ held_in ledger (Wallet address) + left_of (with_item change rows n) (Wallet address)
held_changed rows change n row ledger after h alike address =
    omega (arith, alike address, left_changed rows change n row (Wallet address) h)

pub still_covered : (rows later : List OutgoingRow) (ledger after : LedgerValue) (address : ℕ) → held_in after (Wallet address) + left_of rows (Wallet address) ≡ held_in ledger (Wallet address) + left_of later (Wallet address) → left_of rows (Wallet address) ≤ held_in ledger (Wallet address) → left_of later (Wallet address) ≤ held_in after (Wallet address)
still_covered rows later ledger after address alike covered = omega (arith, alike, covered)

-- ---- the same, where the payments are a part of a value

pub covered_in : (rows : List OutgoingRow) (value : OutgoingsValue) (ledger : LedgerValue) → rows ≡ value.rows → IsCovered value ledger → (address : ℕ) → left_of rows (Wallet address) ≤ held_in ledger (Wallet address)
covered_in rows value ledger same covered = λ address. subst (λ xs. left_of xs (Wallet address) ≤ held_in ledger (Wallet address)) (sym same) (covered address)

pub held_in_value : (rows later : List OutgoingRow) (value : OutgoingsValue) (ledger after : LedgerValue) (change : OutgoingRow → OutgoingRow) (n : ℕ) (row : OutgoingRow) → rows ≡ value.rows → later ≡ with_item change rows n → nth rows n ≡ Some row → HoldsAlike row (change row) ledger after → (address : ℕ) → held_in after (Wallet address) + left_of value.rows (Wallet address) ≡ held_in ledger (Wallet address) + left_of later (Wallet address)
held_in_value rows later value ledger after change n row same is found alike = λ address.
    subst (λ xs. held_in after (Wallet address) + left_of xs (Wallet address) ≡ held_in ledger (Wallet address) + left_of later (Wallet address)) same
    (subst (λ xs. held_in after (Wallet address) + left_of rows (Wallet address) ≡ held_in ledger (Wallet address) + left_of xs (Wallet address)) (sym is)
    (held_changed rows change n row ledger after found alike address))

pub covered_in_value : (rows later : List OutgoingRow) (value : OutgoingsValue) (ledger after : LedgerValue) (change : OutgoingRow → OutgoingRow) (n : ℕ) (row : OutgoingRow) → rows ≡ value.rows → later ≡ with_item change rows n → nth rows n ≡ Some row → HoldsAlike row (change row) ledger after → IsCovered value ledger → (address : ℕ) → left_of later (Wallet address) ≤ held_in after (Wallet address)
covered_in_value rows later value ledger after change n row same is found alike covered = λ address.
    subst (λ xs. left_of xs (Wallet address) ≤ held_in after (Wallet address)) (sym is)
    (still_covered rows (with_item change rows n) ledger after address (held_changed rows change n row ledger after found alike address) (covered_in rows value ledger same covered address))
