-- What one balance put in place of another changes.
use Rattle.std.proofs.Common.{◌≡◌, ℕ, suc, ◌+◌, ◌≤◌, Bool, true, false, cond, List, [], ◌∷◌, sum_by, get_or, refl, sym, ap, subst, ◌∙◌, arith}
use Rattle.std.specs.Prelude.{Some, None, ◌==◌, All}
use Rattle.std.specs.List.{find}
use Rattle.std.specs.Option.{option_map, option_map_or}
use Rattle.std.specs.declared.option.Option.{Option}
use Rattle.std.proofs.lemmas.List.Sums.{sum_by-cons}
use Rattle.std.proofs.lemmas.List.Elements.{All-map}
use Rattle.op_model.specs.Balances.{is_same_account}
use Rattle.op_model.specs.declared.act.Account.{Account}
use Rattle.op_model.specs.declared.act.Account.TheVariants.{Outside}
use Rattle.op_ledger.specs.declared.values.Balance.{Balance}
use Rattle.op_ledger.specs.Balances.{LedgerValue, find_balance, is_outside, total_in}
use Rattle.op_ledger.specs.Indexed.{AreDistinct, put_at, put}
use Rattle.op_ledger.specs.Sound.{inside_part, inside}
use Rattle.op_ledger.proofs.Replaced.{find_passes, sum_by-replaced}
use Rattle.op_ledger.proofs.AccountTests.{account_is, is_same_account-sym, not_outside, number_same}
use Rattle.op_ledger.proofs.Index.{found_account, only_account, find_balance-map, put_keeps}

-- the ledger of a list of balances
abbrev pub ledger : List Balance → LedgerValue
ledger xs = record { accounts = xs }

-- ---- what is found

other_step : (y : Balance) (a : Account) (xs : List Balance) (o : Option Balance) → find_balance xs a ≡ o → is_same_account y.account a ≡ false → option_map (put_at y) o ≡ o
other_step y a xs None h e = refl
other_step y a xs (Some b) h e =
    let at : b.account ≡ a = found_account xs a b h in
    let apart : is_same_account b.account y.account ≡ false = ap (λ c. is_same_account c y.account) at ∙ is_same_account-sym a y.account ∙ e in
    rw apart refl

found_step : (t : Bool) (y x : Balance) (a : Account) (xs : List Balance) → is_same_account y.account a ≡ t → find_balance xs y.account ≡ Some x → option_map (put_at y) (find_balance xs a) ≡ cond t (Some y) (find_balance xs a)
found_step true y x a xs e found =
    let here : find_balance xs a ≡ Some x = subst (λ c. find_balance xs c ≡ Some x) (account_is y.account a e) found in
    let same : is_same_account x.account y.account ≡ true = find_passes (λ b. is_same_account b.account y.account) xs x found in
    ap (option_map (put_at y)) here ∙ ap (λ t. Some (cond t y x)) same
found_step false y x a xs e found = other_step y a xs (find_balance xs a) refl e

pub find_balance-put : (y x : Balance) (xs : List Balance) (a : Account) → find_balance xs y.account ≡ Some x → find_balance (put y xs) a ≡ cond (is_same_account y.account a) (Some y) (find_balance xs a)
find_balance-put y x xs a found =
    find_balance-map (put_at y) (put_keeps y) xs a ∙ found_step (is_same_account y.account a) y x a xs refl found

-- ---- totals

abbrev posted_of : Option Balance → ℕ
posted_of o = option_map_or (λ b. b.posted) o 0

pub total-put_inside : (y x : Balance) (xs : List Balance) (q : ℕ) → find_balance xs y.account ≡ Some x → is_outside y.account ≡ false → total_in (ledger (put y xs)) q ≡ total_in (ledger xs) q
total-put_inside y x xs q found out =
    ap posted_of (find_balance-put y x xs (Outside q) found ∙ ap (λ t. cond t (Some y) (find_balance xs (Outside q))) (not_outside y.account q out))

posted_step : (t : Bool) (y : Balance) (o : Option Balance) → posted_of (cond t (Some y) o) ≡ cond t y.posted (posted_of o)
posted_step true y o = refl
posted_step false y o = refl

pub total-put_outside : (y x : Balance) (xs : List Balance) (s q : ℕ) → find_balance xs y.account ≡ Some x → y.account ≡ Outside s → total_in (ledger (put y xs)) q ≡ cond (s == q) y.posted (total_in (ledger xs) q)
total-put_outside y x xs s q found at =
    ap posted_of (find_balance-put y x xs (Outside q) found ∙ ap (λ a. cond (is_same_account a (Outside q)) (Some y) (find_balance xs (Outside q))) at)
    ∙ posted_step (s == q) y (find_balance xs (Outside q))

held_step : (t : Bool) (y x : Balance) (a : Account) (xs : List Balance) → is_same_account y.account a ≡ t → find_balance xs y.account ≡ Some x → y.posted ≡ x.posted → posted_of (cond t (Some y) (find_balance xs a)) ≡ posted_of (find_balance xs a)
held_step true y x a xs e found same =
    let here : find_balance xs a ≡ Some x = subst (λ c. find_balance xs c ≡ Some x) (account_is y.account a e) found in
    same ∙ sym (ap posted_of here)
held_step false y x a xs e found same = refl

-- a balance with the same value posted
pub total-put_held : (y x : Balance) (xs : List Balance) (q : ℕ) → find_balance xs y.account ≡ Some x → y.posted ≡ x.posted → total_in (ledger (put y xs)) q ≡ total_in (ledger xs) q
total-put_held y x xs q found same =
    ap posted_of (find_balance-put y x xs (Outside q) found)
    ∙ held_step (is_same_account y.account (Outside q)) y x (Outside q) xs refl found same

-- ---- sums over an asset

pub inside-put : (y x : Balance) (xs : List Balance) (q : ℕ) → AreDistinct xs → find_balance xs y.account ≡ Some x → inside (ledger (put y xs)) q + inside_part q x ≡ inside (ledger xs) q + inside_part q y
inside-put y x xs q distinct found =
    sum_by-replaced (inside_part q) (λ b. is_same_account b.account y.account) y xs x (only_account y.account xs distinct) found

pub part_outside : (q : ℕ) (b : Balance) → is_outside b.account ≡ true → inside_part q b ≡ 0
part_outside q b out = rw out refl

pub part_inside : (q : ℕ) (b : Balance) → is_outside b.account ≡ false → inside_part q b ≡ cond (b.asset == q) b.posted 0
part_inside q b out = rw out refl

sum_step : {X : Type 0} (f : X → ℕ) (t : Bool) (z x : X) (xs : List X) (o : Option X) → (o ≡ Some x → f x ≤ sum_by f xs) → cond t (Some z) o ≡ Some x → f x ≤ sum_by f (z ∷ xs)
sum_step f true z x xs o rest h =
    let same : z ≡ x = cc in
    let here : f z ≡ f x = ap f same in
    omega (arith, sum_by-cons f z xs)
sum_step f false z x xs o rest h = omega (arith, rest h, sum_by-cons f z xs)

-- one that is found adds no more than all
pub sum_by-found : {X : Type 0} (f : X → ℕ) (p : X → Bool) (xs : List X) (x : X) → find p xs ≡ Some x → f x ≤ sum_by f xs
sum_by-found f p [] x h = absurd (let e : None ≡ Some x = h in cc)
sum_by-found f p (z ∷ xs) x h = sum_step f (p z) z x xs (find p xs) (sum_by-found f p xs x) h

pub posted_inside : (xs : List Balance) (a : Account) (x : Balance) → find_balance xs a ≡ Some x → is_outside x.account ≡ false → x.posted ≤ inside (ledger xs) x.asset
posted_inside xs a x found out =
    let part : inside_part x.asset x ≡ x.posted = part_inside x.asset x out ∙ ap (λ t. cond t x.posted 0) (number_same x.asset) in
    let le : inside_part x.asset x ≤ inside (ledger xs) x.asset = sum_by-found (inside_part x.asset) (λ b. is_same_account b.account a) xs x found in
    subst (λ n. n ≤ inside (ledger xs) x.asset) part le

-- ---- what holds of each balance

keep_step : (P : Balance → Type 0) (t : Bool) (y b : Balance) → P y → P b → P (cond t y b)
keep_step P true y b here there = here
keep_step P false y b here there = there

pub All-put : (P : Balance → Type 0) (y : Balance) (xs : List Balance) → P y → All P xs → All P (put y xs)
All-put P y xs here all =
    All-map P (put_at y) xs (λ k d h. keep_step P (is_same_account (get_or xs k d).account y.account) y (get_or xs k d) here (all k d h))

all_step : {X : Type 0} (P : X → Type 0) (t : Bool) (z x : X) (o : Option X) → P z → (o ≡ Some x → P x) → cond t (Some z) o ≡ Some x → P x
all_step P true z x o here rest h = let same : z ≡ x = cc in subst P same here
all_step P false z x o here rest h = rest h

pub All-found : {X : Type 0} (P : X → Type 0) (p : X → Bool) (xs : List X) (x : X) → All P xs → find p xs ≡ Some x → P x
All-found P p [] x all h = absurd (let e : None ≡ Some x = h in cc)
All-found P p (z ∷ xs) x all h =
    all_step P (p z) z x (find p xs) (all 0 z (omega arith)) (All-found P p xs x (λ k d lt. all (suc k) d (omega (arith, lt)))) h
