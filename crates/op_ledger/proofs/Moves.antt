-- What movements make of a ledger.
use Rattle.std.proofs.Common.{◌≡◌, ℕ, ◌+◌, ◌-◌, ◌≤◌, Bool, true, false, cond, List, [], ◌∷◌, ◌++◌, refl, sym, ap, subst, ◌∙◌, arith, zero-add}
use Rattle.std.specs.Prelude.{Some, slice_get, if◌then◌else◌}
use Rattle.std.specs.Option.{option_map_or}
use Rattle.std.proofs.lemmas.List.Sums.{sum_by-append}
use Rattle.std.proofs.lemmas.Simd.{map-map}
use Rattle.op_model.specs.Balances.{Movement, comes, goes, came_to, went_from, is_same_account}
use Rattle.op_model.specs.declared.act.Account.{Account}
use Rattle.op_model.specs.declared.act.Account.TheVariants.{Outside}
use Rattle.op_ledger.specs.declared.values.Balance.{Balance}
use Rattle.op_ledger.specs.Balances.{LedgerValue, find_balance, balance_of, is_outside, moved_balance, moved, with_held, holding, deposit_legs, withdrawal_legs, transfer_legs}
use Rattle.op_ledger.specs.Indexed.{AreDistinct, put_at, put}
use Rattle.op_ledger.proofs.Replaced.{map_same}
use Rattle.op_ledger.proofs.AccountTests.{account_is, is_account, is_same_account-sym, not_outside}
use Rattle.op_ledger.proofs.Index.{found_account, found_itself, distinct-map, put_keeps, some_is}
use Rattle.op_ledger.proofs.Puts.{ledger, find_balance-put}

-- each account has one balance
pub same_found : (xs : List Balance) (k : ℕ) (b : Balance) (a : Account) (x : Balance) → AreDistinct xs → slice_get xs k ≡ Some b → find_balance xs a ≡ Some x → is_same_account b.account a ≡ true → b ≡ x
same_found xs k b a x distinct at found e =
    some_is b x (sym (found_itself xs k b distinct at) ∙ ap (find_balance xs) (account_is b.account a e) ∙ found)

-- ---- holds

holding_step : (t : Bool) (b x : Balance) (h : ℕ) (change : ℕ → ℕ) → (t ≡ true → b ≡ x) → change x.held ≡ h → cond t (record b { held = change b.held }) b ≡ cond t (record x { held = h }) b
holding_step true b x h change same e = ap (λ (c : Balance). record c { held = change c.held }) (same refl) ∙ ap (λ n. record x { held = n }) e
holding_step false b x h change same e = refl

pub holding_is : (v : LedgerValue) (a : Account) (x : Balance) (h : ℕ) (change : ℕ → ℕ) → AreDistinct v.accounts → balance_of v a ≡ Some x → change x.held ≡ h → ledger (put (record x { held = h }) v.accounts) ≡ holding v a change
holding_is v a x h change distinct found e =
    let xs = v.accounts in
    let y : Balance = record x { held = h } in
    sym (ap ledger (map_same (with_held a change) (put_at y) xs
    (λ k b at.
    holding_step (is_same_account b.account a) b x h change (same_found xs k b a x distinct at found) e
    ∙ ap (λ c. cond (is_same_account b.account c) y b) (sym (found_account xs a x found)))))

-- ---- one movement

zero_cond : (t : Bool) → let nothing : ℕ = 0 in 0 + cond t nothing nothing ≡ nothing
zero_cond true = refl
zero_cond false = refl

came_comes : (n : ℕ) (a c : Account) → came_to (comes n a ∷ []) c ≡ cond (is_same_account a c) n 0
came_comes n a c = zero-add (cond (is_same_account a c) n 0)

went_comes : (n : ℕ) (a c : Account) → went_from (comes n a ∷ []) c ≡ 0
went_comes n a c = zero_cond (is_same_account a c)

came_goes : (n : ℕ) (a c : Account) → came_to (goes n a ∷ []) c ≡ 0
came_goes n a c = zero_cond (is_same_account a c)

went_goes : (n : ℕ) (a c : Account) → went_from (goes n a ∷ []) c ≡ cond (is_same_account a c) n 0
went_goes n a c = zero-add (cond (is_same_account a c) n 0)

pub moved_outside : (moves : List Movement) (b : Balance) → is_outside b.account ≡ true → moved_balance moves b ≡ record b { posted = b.posted + went_from moves b.account - came_to moves b.account }
moved_outside moves b e = rw e refl

pub moved_inside : (moves : List Movement) (b : Balance) → is_outside b.account ≡ false → moved_balance moves b ≡ record b { posted = b.posted + came_to moves b.account - went_from moves b.account }
moved_inside moves b e = rw e refl

account_step : (t : Bool) (x y : Balance) (a : Account) → x.account ≡ a → y.account ≡ a → (cond t x y).account ≡ a
account_step true x y a p q = p
account_step false x y a p q = q

pub moved_account : (moves : List Movement) (b : Balance) → (moved_balance moves b).account ≡ b.account
moved_account moves b =
    account_step (is_outside b.account) (record b { posted = b.posted + went_from moves b.account - came_to moves b.account }) (record b { posted = b.posted + came_to moves b.account - went_from moves b.account }) b.account refl refl

untouched_step : (o : Bool) (b : Balance) (c w : ℕ) → c ≡ 0 → w ≡ 0 → cond o (record b { posted = b.posted + w - c }) (record b { posted = b.posted + c - w }) ≡ b
untouched_step true b c w p q = let e : b.posted + w - c ≡ b.posted = omega (arith, p, q) in ap (λ n. record b { posted = n }) e
untouched_step false b c w p q = let e : b.posted + c - w ≡ b.posted = omega (arith, p, q) in ap (λ n. record b { posted = n }) e

untouched : (m : Movement) (b : Balance) → is_same_account m.account b.account ≡ false → moved_balance (m ∷ []) b ≡ b
untouched m b e =
    untouched_step (is_outside b.account) b (came_to (m ∷ []) b.account) (went_from (m ∷ []) b.account) (ap (λ t. 0 + cond t m.came 0) e) (ap (λ t. 0 + cond t m.went 0) e)

one_step : (t : Bool) (m : Movement) (b x : Balance) → (t ≡ true → b ≡ x) → (t ≡ false → is_same_account m.account b.account ≡ false) → moved_balance (m ∷ []) b ≡ cond t (moved_balance (m ∷ []) x) b
one_step true m b x same apart = ap (moved_balance (m ∷ [])) (same refl)
one_step false m b x same apart = untouched m b (apart refl)

-- a movement changes the balance of its account
pub moved_one : (v : LedgerValue) (m : Movement) (x : Balance) → AreDistinct v.accounts → balance_of v m.account ≡ Some x → moved v (m ∷ []) ≡ ledger (put (moved_balance (m ∷ []) x) v.accounts)
moved_one v m x distinct found =
    let xs = v.accounts in
    let y = moved_balance (m ∷ []) x in
    let at_x : x.account ≡ m.account = found_account xs m.account x found in
    ap ledger (map_same (moved_balance (m ∷ [])) (put_at y) xs
    (λ k b at.
    one_step (is_same_account b.account m.account) m b x (same_found xs k b m.account x distinct at found) (λ e. is_same_account-sym m.account b.account ∙ e)
    ∙ ap (λ a. cond (is_same_account b.account a) y b) (sym (moved_account (m ∷ []) x ∙ at_x))))

-- ---- movements after movements

-- movements take from a balance no more than it has
abbrev pub IsCovered : List Movement → Balance → Type 0
IsCovered moves b =
    (is_outside b.account ≡ true → came_to moves b.account ≤ b.posted + went_from moves b.account)
    × (is_outside b.account ≡ false → went_from moves b.account ≤ b.posted + came_to moves b.account)

pub came-append : (l r : List Movement) (a : Account) → came_to (l ++ r) a ≡ came_to l a + came_to r a
came-append l r a = sum_by-append (λ m. if is_same_account m.account a then m.came else 0) l r

pub went-append : (l r : List Movement) (a : Account) → went_from (l ++ r) a ≡ went_from l a + went_from r a
went-append l r a = sum_by-append (λ m. if is_same_account m.account a then m.went else 0) l r

left_over : (p w1 c1 w2 c2 w c : ℕ) → w ≡ w1 + w2 → c ≡ c1 + c2 → c1 ≤ p + w1 → p + w - c ≡ p + w1 - c1 + w2 - c2
left_over p w1 c1 w2 c2 w c h k covered = omega arith

append_step : (o : Bool) (l r : List Movement) (b : Balance) → is_outside b.account ≡ o → IsCovered l b → moved_balance (l ++ r) b ≡ moved_balance r (moved_balance l b)
append_step true l r b e covered =
    let a = b.account in
    let n : ℕ = b.posted + went_from l a - came_to l a in
    let sums : b.posted + went_from (l ++ r) a - came_to (l ++ r) a ≡ n + went_from r a - came_to r a =
    left_over b.posted (went_from l a) (came_to l a) (went_from r a) (came_to r a) (went_from (l ++ r) a) (came_to (l ++ r) a) (went-append l r a) (came-append l r a) (covered.0 e) in
    moved_outside (l ++ r) b e ∙ ap (λ k. record b { posted = k }) sums
    ∙ sym (ap (moved_balance r) (moved_outside l b e) ∙ moved_outside r (record b { posted = n }) e)
append_step false l r b e covered =
    let a = b.account in
    let n : ℕ = b.posted + came_to l a - went_from l a in
    let sums : b.posted + came_to (l ++ r) a - went_from (l ++ r) a ≡ n + came_to r a - went_from r a =
    left_over b.posted (came_to l a) (went_from l a) (came_to r a) (went_from r a) (came_to (l ++ r) a) (went_from (l ++ r) a) (came-append l r a) (went-append l r a) (covered.1 e) in
    moved_inside (l ++ r) b e ∙ ap (λ k. record b { posted = k }) sums
    ∙ sym (ap (moved_balance r) (moved_inside l b e) ∙ moved_inside r (record b { posted = n }) e)

pub moved-append : (v : LedgerValue) (l r : List Movement) → ((k : ℕ) (b : Balance) → slice_get v.accounts k ≡ Some b → IsCovered l b) → moved v (l ++ r) ≡ moved (moved v l) r
moved-append v l r covered =
    ap ledger
    (map_same (moved_balance (l ++ r)) (λ b. moved_balance r (moved_balance l b)) v.accounts (λ k b at. append_step (is_outside b.account) l r b refl (covered k b at))
    ∙ sym (map-map (moved_balance r) (moved_balance l) v.accounts))

-- ---- a movement on an account inside, and one after it

inside_step : (t : Bool) (a c : Account) (n m : ℕ) → is_same_account a c ≡ t → is_outside a ≡ false → is_outside c ≡ true → cond t n 0 ≤ m
inside_step true a c n m e in_a out_c = absurd (let same : is_outside a ≡ is_outside c = ap is_outside (account_is a c e) in let f : false ≡ true = sym in_a ∙ same ∙ out_c in cc)
inside_step false a c n m e in_a out_c = omega arith

pub covered_comes : (n : ℕ) (a : Account) (b : Balance) → is_outside a ≡ false → IsCovered (comes n a ∷ []) b
covered_comes n a b in_a = (
  λ out. subst (λ k. k ≤ b.posted + went_from (comes n a ∷ []) b.account) (sym (came_comes n a b.account)) (inside_step (is_same_account a b.account) a b.account n (b.posted + went_from (comes n a ∷ []) b.account) refl in_a out),
  λ inside. omega (arith, went_comes n a b.account),
)

goes_step : (t : Bool) (b x : Balance) (n m : ℕ) → (t ≡ true → b ≡ x) → n ≤ x.posted → cond t n 0 ≤ b.posted + m
goes_step true b x n m same le = let e : b.posted ≡ x.posted = ap (λ (c : Balance). c.posted) (same refl) in omega (arith, e, le)
goes_step false b x n m same le = omega arith

pub covered_goes : (n : ℕ) (a : Account) (b x : Balance) → (is_same_account a b.account ≡ true → b ≡ x) → n ≤ x.posted → IsCovered (goes n a ∷ []) b
covered_goes n a b x same le = (
  λ out. omega (arith, came_goes n a b.account),
  λ inside. subst (λ k. k ≤ b.posted + came_to (goes n a ∷ []) b.account) (sym (went_goes n a b.account)) (goes_step (is_same_account a b.account) b x n (came_to (goes n a ∷ []) b.account) same le),
)

-- the balance of a movement's account, behind it
touched : (n : ℕ) (a : Account) (x : Balance) → x.account ≡ a → cond (is_same_account a x.account) n 0 ≡ n
touched n a x at = ap (λ t. cond t n 0) (ap (is_same_account a) at ∙ is_account a)

pub comes_inside : (n : ℕ) (a : Account) (x : Balance) → x.account ≡ a → is_outside x.account ≡ false → moved_balance (comes n a ∷ []) x ≡ record x { posted = x.posted + n }
comes_inside n a x at inside =
    let sums : x.posted + came_to (comes n a ∷ []) x.account - went_from (comes n a ∷ []) x.account ≡ x.posted + n =
    omega (arith, came_comes n a x.account, touched n a x at, went_comes n a x.account) in
    moved_inside (comes n a ∷ []) x inside ∙ ap (λ k. record x { posted = k }) sums

pub goes_inside : (n : ℕ) (a : Account) (x : Balance) → x.account ≡ a → is_outside x.account ≡ false → moved_balance (goes n a ∷ []) x ≡ record x { posted = x.posted - n }
goes_inside n a x at inside =
    let sums : x.posted + came_to (goes n a ∷ []) x.account - went_from (goes n a ∷ []) x.account ≡ x.posted - n =
    omega (arith, came_goes n a x.account, touched n a x at, went_goes n a x.account) in
    moved_inside (goes n a ∷ []) x inside ∙ ap (λ k. record x { posted = k }) sums

pub comes_outside : (n : ℕ) (a : Account) (x : Balance) → x.account ≡ a → is_outside x.account ≡ true → moved_balance (comes n a ∷ []) x ≡ record x { posted = x.posted - n }
comes_outside n a x at outside =
    let sums : x.posted + went_from (comes n a ∷ []) x.account - came_to (comes n a ∷ []) x.account ≡ x.posted - n =
    omega (arith, came_comes n a x.account, touched n a x at, went_comes n a x.account) in
    moved_outside (comes n a ∷ []) x outside ∙ ap (λ k. record x { posted = k }) sums

pub goes_outside : (n : ℕ) (a : Account) (x : Balance) → x.account ≡ a → is_outside x.account ≡ true → moved_balance (goes n a ∷ []) x ≡ record x { posted = x.posted + n }
goes_outside n a x at outside =
    let sums : x.posted + went_from (goes n a ∷ []) x.account - came_to (goes n a ∷ []) x.account ≡ x.posted + n =
    omega (arith, came_goes n a x.account, touched n a x at, went_goes n a x.account) in
    moved_outside (goes n a ∷ []) x outside ∙ ap (λ k. record x { posted = k }) sums

two_legs : (v : LedgerValue) (l m : Movement) (x w y z : Balance) → AreDistinct v.accounts → balance_of v l.account ≡ Some x → ((k : ℕ) (b : Balance) → slice_get v.accounts k ≡ Some b → IsCovered (l ∷ []) b) → moved_balance (l ∷ []) x ≡ y → find_balance (put y v.accounts) m.account ≡ Some w → moved_balance (m ∷ []) w ≡ z → ledger (put z (put y v.accounts)) ≡ moved v (l ∷ m ∷ [])
two_legs v l m x w y z distinct found covered first then_found second =
    let xs = v.accounts in
    sym
    (moved-append v (l ∷ []) (m ∷ []) covered
    ∙ ap (λ u. moved u (m ∷ [])) (moved_one v l x distinct found ∙ ap (λ b. ledger (put b xs)) first)
    ∙ moved_one (ledger (put y xs)) m w (distinct-map (put_at y) (put_keeps y) xs distinct) then_found
    ∙ ap (λ b. ledger (put b (put y xs))) second)

-- what is found outside, behind a change inside
pub outside_stays : (y x w : Balance) (xs : List Balance) (s : ℕ) → find_balance xs y.account ≡ Some x → is_outside y.account ≡ false → find_balance xs (Outside s) ≡ Some w → find_balance (put y xs) (Outside s) ≡ Some w
outside_stays y x w xs s found inside w_found =
    find_balance-put y x xs (Outside s) found ∙ ap (λ t. cond t (Some y) (find_balance xs (Outside s))) (not_outside y.account s inside) ∙ w_found

found_there : (v : LedgerValue) (a : Account) (x : Balance) → balance_of v a ≡ Some x → balance_of v x.account ≡ Some x
found_there v a x found = subst (λ c. balance_of v c ≡ Some x) (sym (found_account v.accounts a x found)) found

inside_found : (v : LedgerValue) (a : Account) (x : Balance) → balance_of v a ≡ Some x → is_outside a ≡ false → is_outside x.account ≡ false
inside_found v a x found inside = ap is_outside (found_account v.accounts a x found) ∙ inside

pub deposit_is : (v : LedgerValue) (a : Account) (n : ℕ) (x w : Balance) → AreDistinct v.accounts → balance_of v a ≡ Some x → is_outside a ≡ false → balance_of v (Outside x.asset) ≡ Some w → ledger (put (record w { posted = w.posted + n }) (put (record x { posted = x.posted + n }) v.accounts)) ≡ moved v (deposit_legs v a n)
deposit_is v a n x w distinct found inside w_found =
    let y : Balance = record x { posted = x.posted + n } in
    let in_x = inside_found v a x found inside in
    let at_w : w.account ≡ Outside x.asset = found_account v.accounts (Outside x.asset) w w_found in
    two_legs v (comes n a) (goes n (Outside x.asset)) x w y (record w { posted = w.posted + n }) distinct found (λ k b at. covered_comes n a b inside)
    (comes_inside n a x (found_account v.accounts a x found) in_x)
    (outside_stays y x w v.accounts x.asset (found_there v a x found) in_x w_found)
    (goes_outside n (Outside x.asset) w at_w (ap is_outside at_w))
    ∙ ap (λ o. moved v (comes n a ∷ goes n (Outside (option_map_or (λ b. b.asset) o 0)) ∷ [])) (sym found)

pub withdrawal_is : (v : LedgerValue) (a : Account) (n : ℕ) (x w : Balance) → AreDistinct v.accounts → balance_of v a ≡ Some x → is_outside a ≡ false → balance_of v (Outside x.asset) ≡ Some w → n ≤ x.posted → ledger (put (record w { posted = w.posted - n }) (put (record x { posted = x.posted - n }) v.accounts)) ≡ moved v (withdrawal_legs v a n)
withdrawal_is v a n x w distinct found inside w_found le =
    let y : Balance = record x { posted = x.posted - n } in
    let in_x = inside_found v a x found inside in
    let at_w : w.account ≡ Outside x.asset = found_account v.accounts (Outside x.asset) w w_found in
    two_legs v (goes n a) (comes n (Outside x.asset)) x w y (record w { posted = w.posted - n }) distinct found
    (λ k b at. covered_goes n a b x (λ e. same_found v.accounts k b a x distinct at found (is_same_account-sym b.account a ∙ e)) le)
    (goes_inside n a x (found_account v.accounts a x found) in_x)
    (outside_stays y x w v.accounts x.asset (found_there v a x found) in_x w_found)
    (comes_outside n (Outside x.asset) w at_w (ap is_outside at_w))
    ∙ ap (λ o. moved v (goes n a ∷ comes n (Outside (option_map_or (λ b. b.asset) o 0)) ∷ [])) (sym found)

pub transfer_is : (v : LedgerValue) (a c : Account) (n : ℕ) (x w : Balance) → AreDistinct v.accounts → balance_of v a ≡ Some x → is_outside a ≡ false → find_balance (put (record x { posted = x.posted - n }) v.accounts) c ≡ Some w → is_outside c ≡ false → n ≤ x.posted → ledger (put (record w { posted = w.posted + n }) (put (record x { posted = x.posted - n }) v.accounts)) ≡ moved v (transfer_legs a c n)
transfer_is v a c n x w distinct found inside w_found w_inside le =
    let y : Balance = record x { posted = x.posted - n } in
    let at_w : w.account ≡ c = found_account (put y v.accounts) c w w_found in
    two_legs v (goes n a) (comes n c) x w y (record w { posted = w.posted + n }) distinct found
    (λ k b at. covered_goes n a b x (λ e. same_found v.accounts k b a x distinct at found (is_same_account-sym b.account a ∙ e)) le)
    (goes_inside n a x (found_account v.accounts a x found) (inside_found v a x found inside))
    w_found
    (comes_inside n c w at_w (ap is_outside at_w ∙ w_inside))
