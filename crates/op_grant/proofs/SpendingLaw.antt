-- What was spent, behind a list of calls.
use Rattle.std.proofs.Common.{◌≡◌, ℕ, ◌+◌, ◌-◌, ◌≤◌, Bool, true, false, cond, List, [], ◌∷◌, refl, sym, ap, subst, ◌∙◌, arith, add-zero, IsTrue, sum_by}
use Rattle.std.specs.Prelude.{Some, None, ◌==◌, ◌&&◌, not, nat_lt, is_some, unwrap_or, MatchOption}
use Rattle.std.specs.Option.{option_map, option_map_or, option_and_then}
use Rattle.std.specs.Map.{lookup, set_value}
use Rattle.std.specs.BTreeMap.{is_at}
use Rattle.std.specs.declared.option.Option.{Option}
use Rattle.std.proofs.lemmas.Bool.Decides.{nat_tests}
use Rattle.std.proofs.lemmas.List.Sums.{sum_by-cons}
use Rattle.op_model.specs.History.{nth, changed_at}
use Rattle.op_model.specs.Grants.{cap_of}
use Rattle.op_model.specs.declared.grant.Cap.{Cap}
use Rattle.op_model.specs.declared.row.GrantRow.{GrantRow}
use Rattle.op_grant.specs.Value.{GrantsValue, no_grants, has_row, with_row, cap_in, by_grant, counter_of, spent_in, with_spent, with_counter, spent_less}
use Rattle.op_grant.specs.Limits.{covers_spending, passes_cap}
use Rattle.op_grant.specs.Rows.{proceeded_row}
use Rattle.op_grant.specs.declared.fault.Proceeded.{Proceeded}
use Rattle.op_grant.specs.declared.fault.Proceeded.TheVariants as answers
use Rattle.op_grant.specs.Runs.{Call, CanCall, AreCalls, after_call, after_calls, spent_by, given_back_by, IsSpentSum, SpendingIsSum}
use Rattle.op_grant.specs.Runs.Call.{Requested, Decided, Continued, Cancelled, Rotated, Revoked, Reserved, Spent, GivenBack}
use Rattle.op_grant.proofs.Counters.{Key, Counters, tested_key, own_key, lookup-insert_entry, lookup-set_value, lookup-set_other}
use Rattle.op_grant.proofs.MaySpend.{set_value_none}
use Rattle.op_grant.proofs.Numbered.{nth-with_item, nth-append}

-- ---- what no call changes

pub rows_stay : (o : Option Cap) (value : GrantsValue) (n j v : ℕ) → (option_map_or (λ cap. with_spent value n j v) o value).rows ≡ value.rows
rows_stay None value n j v = refl
rows_stay (Some cap) value n j v = refl

there_mapped : {X Y : Type 0} (f : X → Y) (o : Option X) → is_some o ≡ true → is_some (option_map f o) ≡ true
there_mapped f None h = h
there_mapped f (Some x) h = refl

pub there_of : {X : Type 0} (o : Option X) → is_some o ≡ true → (x : X) × (o ≡ Some x)
there_of None h = absurd (let e : false ≡ true = h in cc)
there_of (Some x) h = (x, refl)

row_stays : (value : GrantsValue) (f : GrantRow → GrantRow) (m n : ℕ) → IsTrue (has_row value n) → IsTrue (has_row (with_row f value m) n)
row_stays value f m n h =
    ap is_some (nth-with_item f value.rows m n) ∙ there_mapped (λ x. changed_at f m (n, x)) (nth value.rows n) h

pub has_row-after : (value : GrantsValue) (call : Call) (n : ℕ) → IsTrue (has_row value n) → IsTrue (has_row (after_call value call) n)
has_row-after value (Requested t drawing asked) n h =
    let x = there_of (nth value.rows n) h in
    ap is_some (nth-append value.rows _ n x.0 x.1)
has_row-after value (Decided m accept drawing) n h = row_stays value _ m n h
has_row-after value (Continued m t token reference drawing answer) n h = row_stays value _ m n h
has_row-after value (Cancelled m token) n h = row_stays value _ m n h
has_row-after value (Rotated m t token drawing) n h = row_stays value _ m n h
has_row-after value (Revoked m token) n h = row_stays value _ m n h
has_row-after value (Reserved m k) n h = h
has_row-after value (Spent m k v) n h = subst (λ rows. IsTrue (is_some (nth rows n))) (sym (rows_stay (cap_in value m) value m k (spent_in value m k + v))) h
has_row-after value (GivenBack m k v) n h = h

cap_step : (f : GrantRow → GrantRow) (b : Bool) (x : GrantRow) → ((r : GrantRow) → (f r).items ≡ r.items) → cap_of (cond b (f x) x).items ≡ cap_of x.items
cap_step f true x keeps = ap cap_of (keeps x)
cap_step f false x keeps = refl

cap_mapped : (f : GrantRow → GrantRow) (b : Bool) (o : Option GrantRow) → ((r : GrantRow) → (f r).items ≡ r.items) → option_and_then (λ row. cap_of row.items) (option_map (λ x. cond b (f x) x) o) ≡ option_and_then (λ row. cap_of row.items) o
cap_mapped f b None keeps = refl
cap_mapped f b (Some x) keeps = cap_step f b x keeps

cap_stays : (value : GrantsValue) (f : GrantRow → GrantRow) (m n : ℕ) → ((r : GrantRow) → (f r).items ≡ r.items) → cap_in (with_row f value m) n ≡ cap_in value n
cap_stays value f m n keeps =
    ap (option_and_then (λ row. cap_of row.items)) (nth-with_item f value.rows m n) ∙ cap_mapped f (n == m) (nth value.rows n) keeps

proceeded_items : (t : ℕ) (word : List ℕ) (place : ℕ) (answer : Proceeded) (r : GrantRow) → (proceeded_row t word place answer r).items ≡ r.items
proceeded_items t word place answers.Issued r = refl
proceeded_items t word place answers.Polled r = refl

pub cap_in-after : (value : GrantsValue) (call : Call) (n : ℕ) → IsTrue (has_row value n) → cap_in (after_call value call) n ≡ cap_in value n
cap_in-after value (Requested t drawing asked) n h =
    let x = there_of (nth value.rows n) h in
    ap (option_and_then (λ row. cap_of row.items)) (nth-append value.rows _ n x.0 x.1 ∙ sym x.1)
cap_in-after value (Decided m accept drawing) n h = cap_stays value _ m n (λ r. refl)
cap_in-after value (Continued m t token reference drawing answer) n h =
    cap_stays value _ m n (proceeded_items t drawing.word drawing.place answer)
cap_in-after value (Cancelled m token) n h = cap_stays value _ m n (λ r. refl)
cap_in-after value (Rotated m t token drawing) n h = cap_stays value _ m n (λ r. refl)
cap_in-after value (Revoked m token) n h = cap_stays value _ m n (λ r. refl)
cap_in-after value (Reserved m k) n h = refl
cap_in-after value (Spent m k v) n h = ap (λ rows. option_and_then (λ row. cap_of row.items) (nth rows n)) (rows_stay (cap_in value m) value m k (spent_in value m k + v))
cap_in-after value (GivenBack m k v) n h = refl

pub cap_in-end : (value : GrantsValue) (calls : List Call) (n : ℕ) → IsTrue (has_row value n) → cap_in (after_calls value calls) n ≡ cap_in value n
cap_in-end value [] n h = refl
cap_in-end value (call ∷ calls) n h =
    cap_in-end (after_call value call) calls n (has_row-after value call n h) ∙ cap_in-after value call n h

-- ---- one call

same_number : (m n : ℕ) → (m == n) ≡ true → m ≡ n
same_number m n h = grind (arith, nat_tests)

itself : (n : ℕ) → (n == n) ≡ true
itself n = grind (arith, nat_tests)

both : (p q : Bool) → (p && q) ≡ true → (p ≡ true) × (q ≡ true)
both true q h = (refl, h)
both false q h = absurd (let e : false ≡ true = h in cc)

keys_same : (m k n j : ℕ) → ((m == n) && (k == j)) ≡ true → (m ≡ n) × (k ≡ j)
keys_same m k n j h =
    let parts = both (m == n) (k == j) h in
    (same_number m n parts.0, same_number k j parts.1)

-- the test on keys is the one on their parts
pub key_test : (m k n j : ℕ) (b : Bool) → is_at (by_grant (n, j)) (m, k) ≡ b → ((m == n) && (k == j)) ≡ b
key_test m k n j true h =
    let same : (n, j) ≡ (m, k) = tested_key (n, j) (m, k) h in
    let first : n ≡ m = ap (λ p. p.0) same in
    let second : j ≡ k = ap (λ p. p.1) same in
    rw (first, second) (ap (λ b. b && (k == k)) (itself m) ∙ itself k)
key_test m k n j false h = false_where ((m == n) && (k == j)) (λ t.
    let parts = keys_same m k n j t in
    let own = ap (λ p. is_at (by_grant p) (m, k)) (ap (λ x. (x, j)) (sym parts.0) ∙ ap (λ y. (m, y)) (sym parts.1)) ∙ own_key (m, k) in
    absurd (let e : false ≡ true = sym h ∙ own in cc))
  where
    false_where : (b : Bool) → (b ≡ true → ⊥) → b ≡ false
    false_where true h = absurd (h refl)
    false_where false h = refl

spent_step : (b : Bool) (value : GrantsValue) (m k n j v : ℕ) → is_at (by_grant (n, j)) (m, k) ≡ b
    → unwrap_or (cond b (Some (spent_in value m k + v)) (counter_of value n j)) 0 + 0 ≡ spent_in value n j + cond b v 0
spent_step true value m k n j v h =
    let same : (n, j) ≡ (m, k) = tested_key (n, j) (m, k) h in
    let counters = ap (λ p. unwrap_or (lookup (is_at (by_grant p)) value.spent) 0) same in
    omega (arith, counters)
spent_step false value m k n j v h = omega arith

-- with so much more, where there is a cap
pub counted_more : (value : GrantsValue) (m k n j v : ℕ) → spent_in (with_spent value m k (spent_in value m k + v)) n j + 0 ≡ spent_in value n j + cond ((m == n) && (k == j)) v 0
counted_more value m k n j v =
    let b = is_at (by_grant (n, j)) (m, k) in
    ap (λ o. unwrap_or o 0 + 0) (lookup-insert_entry (n, j) (m, k) value.spent (spent_in value m k + v))
    ∙ spent_step b value m k n j v refl ∙ ap (λ c. spent_in value n j + cond c v 0) (sym (key_test m k n j b refl))

kept_by : (b : Bool) (v : ℕ) → v ≡ 0 → cond b v 0 ≡ 0
kept_by true v h = h
kept_by false v h = refl

-- a counter that is entered changes nothing of what was spent
pub counter_kept : (value : GrantsValue) (m k n j : ℕ) → spent_in (with_counter value m k) n j + 0 ≡ spent_in value n j + 0
counter_kept value m k n j =
    ap (λ v. spent_in (with_spent value m k v) n j + 0) (sym (add-zero (spent_in value m k)))
    ∙ counted_more value m k n j 0 ∙ ap (λ d. spent_in value n j + d) (kept_by ((m == n) && (k == j)) 0 refl)

more_step : (o : Option Cap) (value : GrantsValue) (m k n j v : ℕ) (cap : Cap) → (m ≡ n → o ≡ Some cap)
    → spent_in (option_map_or (λ c. with_spent value m k (spent_in value m k + v)) o value) n j + 0 ≡ spent_in value n j + cond ((m == n) && (k == j)) v 0
more_step (Some c) value m k n j v cap h = counted_more value m k n j v
more_step None value m k n j v cap h = ap (λ c. spent_in value n j + cond c v 0) (sym (other ((m == n) && (k == j)) refl))
  where
    other : (b : Bool) → ((m == n) && (k == j)) ≡ b → b ≡ false
    other true e = absurd (let f : None ≡ Some cap = h (keys_same m k n j e).0 in cc)
    other false e = refl

less_own : (o : Option ℕ) (es : Counters) (test : Key → Bool) (v : ℕ) → lookup test es ≡ o → v ≤ unwrap_or o 0 → unwrap_or (lookup test (set_value test es (unwrap_or o 0 - v))) 0 + v ≡ unwrap_or o 0
less_own None es test v is covers =
    let same : lookup test (set_value test es (0 - v)) ≡ None = ap (lookup test) (set_value_none test es (0 - v) is) ∙ is in
    omega (arith, ap (λ o. unwrap_or o 0) same, covers)
less_own (Some s) es test v is covers =
    omega (arith, ap (λ o. unwrap_or o 0) (lookup-set_value test es (s - v) s is), covers)

pub less_step : (b : Bool) (value : GrantsValue) (m k n j v : ℕ) → is_at (by_grant (n, j)) (m, k) ≡ b → v ≤ spent_in value m k
    → spent_in (spent_less value m k v) n j + cond b v 0 ≡ spent_in value n j + 0
less_step true value m k n j v h covers =
    let same : (n, j) ≡ (m, k) = tested_key (n, j) (m, k) h in
    let own = less_own (counter_of value m k) value.spent (is_at (by_grant (m, k))) v refl covers in
    let P : Key → Type 0 = λ p. unwrap_or (lookup (is_at (by_grant p)) (spent_less value m k v).spent) 0 + v ≡ unwrap_or (lookup (is_at (by_grant p)) value.spent) 0 in
    let there : P (n, j) = subst P (sym same) own in
    omega (arith, there)
less_step false value m k n j v h covers =
    let apart : (p : Key) → is_at (by_grant (m, k)) p ≡ true → is_at (by_grant (n, j)) p ≡ true → ⊥ = λ p a b.
    absurd (let same : (m, k) ≡ p = tested_key (m, k) p a in let here : is_at (by_grant (n, j)) (m, k) ≡ true = ap (is_at (by_grant (n, j))) same ∙ b in let e : false ≡ true = sym h ∙ here in cc) in
    ap (λ o. unwrap_or o 0 + 0) (lookup-set_other (is_at (by_grant (m, k))) (is_at (by_grant (n, j))) value.spent (spent_in value m k - v) apart)

pub sum_step : (value : GrantsValue) (call : Call) (n j : ℕ) (cap : Cap) → CanCall value call → (IsTrue (has_row value n) → cap_in value n ≡ Some cap)
    → spent_in (after_call value call) n j + given_back_by n j call ≡ spent_in value n j + spent_by n j call
sum_step value (Requested t drawing asked) n j cap can h = refl
sum_step value (Decided m accept drawing) n j cap can h = refl
sum_step value (Continued m t token reference drawing answer) n j cap can h = refl
sum_step value (Cancelled m token) n j cap can h = refl
sum_step value (Rotated m t token drawing) n j cap can h = refl
sum_step value (Revoked m token) n j cap can h = refl
sum_step value (Reserved m k) n j cap can h = counter_kept value m k n j
sum_step value (Spent m k v) n j cap can h =
    more_step (cap_in value m) value m k n j v cap (λ same. ap (cap_in value) same ∙ h (subst (λ i. IsTrue (has_row value i)) same can.0))
sum_step value (GivenBack m k v) n j cap can h =
    ap (λ c. spent_in (spent_less value m k v) n j + cond c v 0) (key_test m k n j (is_at (by_grant (n, j)) (m, k)) refl)
    ∙ less_step (is_at (by_grant (n, j)) (m, k)) value m k n j v refl can.1

-- ---- the cap

covered_is : (spent v : ℕ) (cap : Cap) (o : Option Cap) → o ≡ Some cap → option_map_or (λ c. not (passes_cap spent v c)) o true ≡ true → spent + v ≤ cap.sum.value
covered_is spent v cap None is h = absurd (let e : None ≡ Some cap = is in cc)
covered_is spent v cap (Some c) is h =
    let same : c ≡ cap = cc in
    let at : not (nat_lt cap.sum.value (spent + v)) ≡ true = subst (λ d. not (nat_lt d.sum.value (spent + v)) ≡ true) same h in
    grind (arith, nat_tests)

within_step : (b : Bool) (value : GrantsValue) (m k n j v : ℕ) (cap : Cap) → ((m == n) && (k == j)) ≡ b → IsTrue (covers_spending value m k v) → (m ≡ n → cap_in value m ≡ Some cap) → spent_in value n j ≤ cap.sum.value
    → spent_in value n j + cond b v 0 ≤ cap.sum.value
within_step true value m k n j v cap e covers h within =
    let parts = keys_same m k n j e in
    let own = covered_is (spent_in value m k) v cap (cap_in value m) (h parts.0) covers in
    let same : spent_in value m k ≡ spent_in value n j = ap (λ i. spent_in value i k) parts.0 ∙ ap (spent_in value n) parts.1 in
    omega (arith, own, same)
within_step false value m k n j v cap e covers h within = omega (arith, within)

pub within_call : (value : GrantsValue) (call : Call) (n j : ℕ) (cap : Cap) → CanCall value call → (IsTrue (has_row value n) → cap_in value n ≡ Some cap) → spent_in value n j ≤ cap.sum.value
    → spent_in value n j + spent_by n j call ≤ cap.sum.value
within_call value (Requested t drawing asked) n j cap can h within = omega (arith, within)
within_call value (Decided m accept drawing) n j cap can h within = omega (arith, within)
within_call value (Continued m t token reference drawing answer) n j cap can h within = omega (arith, within)
within_call value (Cancelled m token) n j cap can h within = omega (arith, within)
within_call value (Rotated m t token drawing) n j cap can h within = omega (arith, within)
within_call value (Revoked m token) n j cap can h within = omega (arith, within)
within_call value (Reserved m k) n j cap can h within = omega (arith, within)
within_call value (Spent m k v) n j cap can h within =
    within_step ((m == n) && (k == j)) value m k n j v cap refl can.1 (λ same. ap (cap_in value) same ∙ h (subst (λ i. IsTrue (has_row value i)) same can.0)) within
within_call value (GivenBack m k v) n j cap can h within = omega (arith, within)

-- ---- a list of calls

pub sums_from : (value : GrantsValue) (calls : List Call) (n j : ℕ) (cap : Cap) → AreCalls value calls → cap_in (after_calls value calls) n ≡ Some cap → spent_in value n j ≤ cap.sum.value
    → (spent_in (after_calls value calls) n j + sum_by (given_back_by n j) calls ≡ spent_in value n j + sum_by (spent_by n j) calls) × (spent_in (after_calls value calls) n j ≤ cap.sum.value)
sums_from value [] n j cap can end within = (refl, within)
sums_from value (call ∷ calls) n j cap can end within =
    let has : IsTrue (has_row value n) → cap_in value n ≡ Some cap = λ there. sym (cap_in-end value (call ∷ calls) n there) ∙ end in
    let step = sum_step value call n j cap can.0 has in
    let below = within_call value call n j cap can.0 has within in
    let rest = sums_from (after_call value call) calls n j cap can.1 end (omega (arith, step, below)) in
    (omega (arith, step, rest.0, sum_by-cons (given_back_by n j) call calls, sum_by-cons (spent_by n j) call calls), rest.1)

spent_sum : (calls : List Call) (n j : ℕ) (cap : Cap) → AreCalls no_grants calls → cap_in (after_calls no_grants calls) n ≡ Some cap → IsSpentSum (after_calls no_grants calls) calls n j cap
spent_sum calls n j cap can end =
    let from = sums_from no_grants calls n j cap can end (omega arith) in
    record { sum = omega (arith, from.0); within = from.1 }

-- ---- without a cap

uncapped_step : (o : Option Cap) (value : GrantsValue) (m k n j v : ℕ) → (m ≡ n → o ≡ None) → spent_in value n j ≡ 0 → spent_in (option_map_or (λ c. with_spent value m k (spent_in value m k + v)) o value) n j ≡ 0
uncapped_step None value m k n j v h zero_before = zero_before
uncapped_step (Some c) value m k n j v h zero_before =
    let elsewhere : ((m == n) && (k == j)) ≡ false = other ((m == n) && (k == j)) refl in
    let same = counted_more value m k n j v ∙ ap (λ b. spent_in value n j + cond b v 0) elsewhere in
    omega (arith, same, zero_before)
  where
    other : (b : Bool) → ((m == n) && (k == j)) ≡ b → b ≡ false
    other true e = absurd (let f : Some c ≡ None = h (keys_same m k n j e).0 in cc)
    other false e = refl

uncapped_call : (value : GrantsValue) (call : Call) (n j : ℕ) → CanCall value call → (IsTrue (has_row value n) → cap_in value n ≡ None) → spent_in value n j ≡ 0 → spent_in (after_call value call) n j ≡ 0
uncapped_call value (Requested t drawing asked) n j can h before = before
uncapped_call value (Decided m accept drawing) n j can h before = before
uncapped_call value (Continued m t token reference drawing answer) n j can h before = before
uncapped_call value (Cancelled m token) n j can h before = before
uncapped_call value (Rotated m t token drawing) n j can h before = before
uncapped_call value (Revoked m token) n j can h before = before
uncapped_call value (Reserved m k) n j can h before = let kept = counter_kept value m k n j in omega (arith, kept, before)
uncapped_call value (Spent m k v) n j can h before =
    uncapped_step (cap_in value m) value m k n j v (λ same. ap (cap_in value) same ∙ h (subst (λ i. IsTrue (has_row value i)) same can.0)) before
uncapped_call value (GivenBack m k v) n j can h before =
    let less = less_step (is_at (by_grant (n, j)) (m, k)) value m k n j v refl can.1 in
    omega (arith, less, before)

uncapped_calls : (value : GrantsValue) (calls : List Call) (n j : ℕ) → AreCalls value calls → cap_in (after_calls value calls) n ≡ None → spent_in value n j ≡ 0 → spent_in (after_calls value calls) n j ≡ 0
uncapped_calls value [] n j can end before = before
uncapped_calls value (call ∷ calls) n j can end before =
    uncapped_calls (after_call value call) calls n j can.1 end
    (uncapped_call value call n j can.0 (λ there. sym (cap_in-end value (call ∷ calls) n there) ∙ end) before)

by_cap : (o : Option Cap) (calls : List Call) (n j : ℕ) → AreCalls no_grants calls → cap_in (after_calls no_grants calls) n ≡ o
    → MatchOption o (spent_in (after_calls no_grants calls) n j ≡ 0) (IsSpentSum (after_calls no_grants calls) calls n j)
by_cap None calls n j can end = uncapped_calls no_grants calls n j can end refl
by_cap (Some cap) calls n j can end = spent_sum calls n j cap can end

pub spending_is_sum : SpendingIsSum
spending_is_sum calls n j can = by_cap (cap_in (after_calls no_grants calls) n) calls n j can refl
