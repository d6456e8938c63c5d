-- Items by number: where one changes or one is added, and what a choice takes of them.
use Rattle.std.proofs.Common.{◌≡◌, ℕ, zero, suc, ◌+◌, ◌<◌, ◌≤◌, Bool, true, false, List, [], ◌∷◌, ◌++◌, length, map, refl, sym, ap, subst, ◌∙◌, arith, add-zero, Some, None, Option, cond, sum_by}
use Rattle.std.specs.Prelude.{slice_get, ◌||◌, ◌==◌}
use Rattle.std.proofs.lemmas.Bool.Decides.{nat_tests}
use Rattle.std.proofs.lemmas.List.Sums.{sum_by-cons}
use Rattle.std.specs.List.{enumerate_from, filter_map, last_or, cons_option, AllByRecursion, list_any}
use Rattle.std.specs.Option.{option_map}
use Rattle.op_model.specs.History.{nth, numbered, last, with_item, changed_at}
use Rattle.op_model.proofs.Items.{rest_stays}

some_is : {X : Type 0} (x y : X) → Some x ≡ Some y → x ≡ y
some_is x y h = cc

-- ---- rows of numbered items

mapped_get : {X Y : Type 0} (f : ℕ × X → Y) (b : ℕ) (xs : List X) (k : ℕ) → slice_get (map f (enumerate_from b xs)) k ≡ option_map (λ x. f (b + k, x)) (slice_get xs k)
mapped_get f b [] k = refl
mapped_get f b (x ∷ xs) zero = ap (λ m. Some (f (m, x))) (sym (add-zero b))
mapped_get f b (x ∷ xs) (suc k) =
    let number : (b + 1) + k ≡ b + suc k = omega arith in
    mapped_get f (b + 1) xs k ∙ ap (λ m. option_map (λ x. f (m, x)) (slice_get xs k)) number

-- row n of numbered items
pub nth-numbered : {X Y : Type 0} (f : ℕ × X → Y) (xs : List X) (n : ℕ) → nth (map f (numbered xs)) n ≡ option_map (λ x. f (n, x)) (nth xs n)
nth-numbered f xs zero = refl
nth-numbered f xs (suc k) =
    let number : 1 + k ≡ suc k = omega arith in
    mapped_get f 1 xs k ∙ ap (λ m. option_map (λ x. f (m, x)) (slice_get xs k)) number

rows_from : {X Y : Type 0} (new old : ℕ × X → Y) (change : Y → Y) (p b : ℕ) (xs : List X) → ((i : ℕ) (x : X) → slice_get xs i ≡ Some x → new (b + i, x) ≡ changed_at change p (b + i, old (b + i, x)))
    → map new (enumerate_from b xs) ≡ map (changed_at change p) (enumerate_from b (map old (enumerate_from b xs)))
rows_from new old change p b [] each = refl
rows_from new old change p b (x ∷ xs) each =
    let first = subst (λ m. new (m, x) ≡ changed_at change p (m, old (m, x))) (add-zero b) (each 0 x refl) in
    let step : (i : ℕ) → b + suc i ≡ (b + 1) + i = λ i. omega arith in
    let rest = rows_from new old change p (b + 1) xs (λ i y h. subst (λ m. new (m, y) ≡ changed_at change p (m, old (m, y))) (step i) (each (suc i) y h)) in
    rw (first, rest) refl

-- rows where one of them changes: each item is looked at where it stands
pub rows-at : {X Y : Type 0} (new old : ℕ × X → Y) (change : Y → Y) (p : ℕ) (xs : List X) → ((n : ℕ) (x : X) → nth xs n ≡ Some x → new (n, x) ≡ changed_at change p (n, old (n, x)))
    → map new (numbered xs) ≡ with_item change (map old (numbered xs)) p
rows-at new old change p xs each =
    let step : (i : ℕ) → suc i ≡ 1 + i = λ i. omega arith in
    rows_from new old change p 1 xs (λ i x h. subst (λ m. new (m, x) ≡ changed_at change p (m, old (m, x))) (step i) (each (suc i) x h))

pub map-same : {X Y : Type 0} (f g : X → Y) (xs : List X) → ((x : X) → f x ≡ g x) → map f xs ≡ map g xs
map-same f g [] each = refl
map-same f g (x ∷ xs) each = rw (each x, map-same f g xs each) refl

-- ---- where one item changes

pub same_number : (m n : ℕ) → (m == n) ≡ true → m ≡ n
same_number m n h = grind (arith, nat_tests)

pub itself : (n : ℕ) → (n == n) ≡ true
itself n = grind (arith, nat_tests)

pub swapped : (m n : ℕ) → (m == n) ≡ false → (n == m) ≡ false
swapped m n h = grind (arith, nat_tests)

changed_from : {X : Type 0} (f : X → X) (n b : ℕ) (xs : List X) (k : ℕ) → slice_get (map (changed_at f n) (enumerate_from b xs)) k ≡ option_map (λ x. changed_at f n (b + k, x)) (slice_get xs k)
changed_from f n b xs k = mapped_get (changed_at f n) b xs k

pub nth-with_item : {X : Type 0} (f : X → X) (xs : List X) (n m : ℕ) → nth (with_item f xs n) m ≡ option_map (λ x. changed_at f n (m, x)) (nth xs m)
nth-with_item f xs n m = nth-numbered (changed_at f n) xs m

pub nth-changed : {X : Type 0} (f : X → X) (xs : List X) (n : ℕ) (x : X) → nth xs n ≡ Some x → nth (with_item f xs n) n ≡ Some (f x)
nth-changed f xs n x h = nth-with_item f xs n n ∙ ap (option_map (λ y. changed_at f n (n, y))) h ∙ ap (λ b. Some (cond b (f x) x)) (itself n)

either : {Y : Type 0} (b : Bool) (x y : Y) → (b ≡ true → x ≡ y) → cond b x y ≡ y
either true x y same = same refl
either false x y same = refl

agree_from : {X : Type 0} (f g : X → X) (n b : ℕ) (xs : List X) → ((i : ℕ) (x : X) → slice_get xs i ≡ Some x → ((b + i) == n) ≡ true → f x ≡ g x) → map (changed_at f n) (enumerate_from b xs) ≡ map (changed_at g n) (enumerate_from b xs)
agree_from f g n b [] each = refl
agree_from f g n b (x ∷ xs) each =
    let number : b + 0 ≡ b = add-zero b in
    let step : (i : ℕ) → (b + 1) + i ≡ b + suc i = λ i. omega arith in
    let first : changed_at f n (b, x) ≡ changed_at g n (b, x) = agree_at (b == n) (λ h. each 0 x refl (ap (λ m. m == n) number ∙ h)) in
    let rest = agree_from f g n (b + 1) xs (λ i y h e. each (suc i) y h (ap (λ m. m == n) (sym (step i)) ∙ e)) in
    rw (first, rest) refl
  where
    agree_at : (c : Bool) → (c ≡ true → f x ≡ g x) → cond c (f x) x ≡ cond c (g x) x
    agree_at true same = same refl
    agree_at false same = refl

-- two changes that agree on the item of the number
pub with_item-agree : {X : Type 0} (f g : X → X) (xs : List X) (n : ℕ) → ((x : X) → nth xs n ≡ Some x → f x ≡ g x) → with_item f xs n ≡ with_item g xs n
with_item-agree f g xs n same =
    let step : (i : ℕ) → 1 + i ≡ suc i = λ i. omega arith in
    agree_from f g n 1 xs (λ i x h e. same x (ap (nth xs) (sym (same_number (1 + i) n e) ∙ step i) ∙ h))

changed_sum : {X : Type 0} (w : X → ℕ) (f : X → X) (n b : ℕ) (xs : List X) (k : ℕ) (x : X) → b + k ≡ n → slice_get xs k ≡ Some x → sum_by w (map (changed_at f n) (enumerate_from b xs)) + w x ≡ sum_by w xs + w (f x)
changed_sum w f n b [] k x is h = absurd (let e : None ≡ Some x = h in cc)
changed_sum w f n b (y ∷ xs) zero x is h =
    let number : (b == n) ≡ true = grind (arith, nat_tests) in
    let first : changed_at f n (b, y) ≡ f x = ap (λ c. cond c (f y) y) number ∙ ap f (some_is y x h) in
    let rest : map (changed_at f n) (enumerate_from (b + 1) xs) ≡ xs = rest_stays f n (b + 1) xs (omega (arith, is)) in
    let sums = sum_by-cons w (f x) xs in
    let olds = sum_by-cons w y xs in
    let own : w y ≡ w x = ap w (some_is y x h) in
    let whole : map (changed_at f n) (enumerate_from b (y ∷ xs)) ≡ f x ∷ xs = rw (first, rest) refl in
    omega (arith, sums, olds, own, ap (sum_by w) whole)
changed_sum w f n b (y ∷ xs) (suc k) x is h =
    let number : (b == n) ≡ false = let below : b < n = omega (arith, is) in grind (arith, nat_tests) in
    let first : changed_at f n (b, y) ≡ y = ap (λ c. cond c (f y) y) number in
    let rest = changed_sum w f n (b + 1) xs k x (omega (arith, is)) h in
    let news = sum_by-cons w (changed_at f n (b, y)) (map (changed_at f n) (enumerate_from (b + 1) xs)) in
    let olds = sum_by-cons w y xs in
    let own = ap w first in
    omega (arith, rest, news, olds, own)

-- a sum over items of which one changes
pub sum_by-with_item : {X : Type 0} (w : X → ℕ) (f : X → X) (xs : List X) (n : ℕ) (x : X) → nth xs n ≡ Some x → sum_by w (with_item f xs n) + w x ≡ sum_by w xs + w (f x)
sum_by-with_item w f xs zero x h = absurd (let e : None ≡ Some x = h in cc)
sum_by-with_item w f xs (suc k) x h = changed_sum w f (suc k) 1 xs k x (omega arith) h

same_sum_from : {X Y : Type 0} (w : Y → ℕ) (new old : ℕ × X → Y) (b : ℕ) (xs : List X) → ((k : ℕ) (x : X) → slice_get xs k ≡ Some x → w (new (b + k, x)) ≡ w (old (b + k, x))) → sum_by w (map new (enumerate_from b xs)) ≡ sum_by w (map old (enumerate_from b xs))
same_sum_from w new old b [] each = refl
same_sum_from w new old b (x ∷ xs) each =
    let first = subst (λ n. w (new (n, x)) ≡ w (old (n, x))) (add-zero b) (each 0 x refl) in
    let step : (i : ℕ) → b + suc i ≡ (b + 1) + i = λ i. omega arith in
    let rest = same_sum_from w new old (b + 1) xs (λ i y h. subst (λ n. w (new (n, y)) ≡ w (old (n, y))) (step i) (each (suc i) y h)) in
    omega (arith, first, rest, sum_by-cons w (new (b, x)) (map new (enumerate_from (b + 1) xs)), sum_by-cons w (old (b, x)) (map old (enumerate_from (b + 1) xs)))

-- a sum over rows of which none counts otherwise than before
pub sum_by-rows : {X Y : Type 0} (w : Y → ℕ) (new old : ℕ × X → Y) (xs : List X) → ((n : ℕ) (x : X) → nth xs n ≡ Some x → w (new (n, x)) ≡ w (old (n, x))) → sum_by w (map new (numbered xs)) ≡ sum_by w (map old (numbered xs))
sum_by-rows w new old xs each =
    let step : (i : ℕ) → suc i ≡ 1 + i = λ i. omega arith in
    same_sum_from w new old 1 xs (λ i x h. subst (λ n. w (new (n, x)) ≡ w (old (n, x))) (step i) (each (suc i) x h))

-- ---- one more item

get-front : {X : Type 0} (xs ys : List X) (i : ℕ) (x : X) → slice_get xs i ≡ Some x → slice_get (xs ++ ys) i ≡ Some x
get-front [] ys i x h = absurd (let e : None ≡ Some x = h in cc)
get-front (y ∷ xs) ys zero x h = h
get-front (y ∷ xs) ys (suc i) x h = get-front xs ys i x h

pub nth-front : {X : Type 0} (xs ys : List X) (n : ℕ) (x : X) → nth xs n ≡ Some x → nth (xs ++ ys) n ≡ Some x
nth-front xs ys zero x h = absurd (let e : None ≡ Some x = h in cc)
nth-front xs ys (suc i) x h = get-front xs ys i x h

-- ---- what holds of all items

pub all-append : {X : Type 0} (P : X → Type 0) (xs ys : List X) → AllByRecursion P xs → AllByRecursion P ys → AllByRecursion P (xs ++ ys)
all-append P [] ys first rest = rest
all-append P (x ∷ xs) ys first rest = (first.0, all-append P xs ys first.1 rest)

last_in_from : {X : Type 0} (P : X → Type 0) (o : Option X) (xs : List X) (d : X) → ((x : X) → o ≡ Some x → P x) → AllByRecursion P xs → last_or o xs ≡ Some d → P d
last_in_from P o [] d before all h = before d h
last_in_from P o (x ∷ xs) d before all h = last_in_from P (Some x) xs d (λ y e. subst P (some_is x y e) all.0) all.1 h

pub last_in : {X : Type 0} (P : X → Type 0) (xs : List X) (d : X) → AllByRecursion P xs → last xs ≡ Some d → P d
last_in P xs d all h = last_in_from P None xs d (λ x e. absurd (let f : None ≡ Some x = e in cc)) all h

get_in : {X : Type 0} (P : X → Type 0) (xs : List X) (k : ℕ) (d : X) → AllByRecursion P xs → slice_get xs k ≡ Some d → P d
get_in P [] k d all h = absurd (let f : None ≡ Some d = h in cc)
get_in P (x ∷ xs) zero d all h = subst P (some_is x d h) all.0
get_in P (x ∷ xs) (suc k) d all h = get_in P xs k d all.1 h

pub nth_in : {X : Type 0} (P : X → Type 0) (xs : List X) (n : ℕ) (d : X) → AllByRecursion P xs → nth xs n ≡ Some d → P d
nth_in P xs zero d all h = absurd (let f : None ≡ Some d = h in cc)
nth_in P xs (suc k) d all h = get_in P xs k d all h

all_step : {X : Type 0} (P : X → Type 0) (o : Option X) (xs : List X) → ((x : X) → o ≡ Some x → P x) → AllByRecursion P xs → AllByRecursion P (cons_option o xs)
all_step P None xs own rest = rest
all_step P (Some x) xs own rest = (own x refl, rest)

-- what a choice takes of numbered items, where it keeps their numbers
pub all_placed : {A X : Type 0} (take_of : ℕ × A → Option X) (place_of : X → ℕ) (b c : ℕ) (xs : List A) → b + length xs ≤ c → ((k : ℕ) (a : A) (x : X) → take_of (k, a) ≡ Some x → place_of x ≡ k)
    → AllByRecursion (λ x. place_of x < c) (filter_map take_of (enumerate_from b xs))
all_placed take_of place_of b c [] le own = tt
all_placed take_of place_of b c (a ∷ xs) le own =
    let lengths : length (a ∷ xs) ≡ suc (length xs) = refl in
    all_step (λ x. place_of x < c) (take_of (b, a)) (filter_map take_of (enumerate_from (b + 1) xs)) (λ x h. let is = own b a x h in omega (arith, is, le, lengths)) (all_placed take_of place_of (b + 1) c xs (omega (arith, le, lengths)) own)

-- ---- what no item is

left_false : (a b : Bool) → (a || b) ≡ false → a ≡ false
left_false true b h = absurd (let e : true ≡ false = h in cc)
left_false false b h = refl

right_false : (a b : Bool) → (a || b) ≡ false → b ≡ false
right_false true b h = absurd (let e : true ≡ false = h in cc)
right_false false b h = h

pub any_narrow : {X : Type 0} (test wide : X → Bool) (xs : List X) → ((x : X) → wide x ≡ false → test x ≡ false) → list_any wide xs ≡ false → list_any test xs ≡ false
any_narrow test wide [] narrow h = refl
any_narrow test wide (x ∷ xs) narrow h = rw (narrow x (left_false (wide x) (list_any wide xs) h)) (any_narrow test wide xs narrow (right_false (wide x) (list_any wide xs) h))

pub none_taken : {X Y : Type 0} (choice : X → Option Y) (wide : X → Bool) (xs : List X) → ((x : X) → wide x ≡ false → choice x ≡ None) → list_any wide xs ≡ false → filter_map choice xs ≡ []
none_taken choice wide [] narrow h = refl
none_taken choice wide (x ∷ xs) narrow h = rw (narrow x (left_false (wide x) (list_any wide xs) h)) (none_taken choice wide xs narrow (right_false (wide x) (list_any wide xs) h))

pub none_numbered : {X Y : Type 0} (choice : ℕ × X → Option Y) (wide : X → Bool) (b : ℕ) (xs : List X) → ((k : ℕ) (x : X) → wide x ≡ false → choice (k, x) ≡ None) → list_any wide xs ≡ false → filter_map choice (enumerate_from b xs) ≡ []
none_numbered choice wide b [] narrow h = refl
none_numbered choice wide b (x ∷ xs) narrow h = rw (narrow b x (left_false (wide x) (list_any wide xs) h)) (none_numbered choice wide (b + 1) xs narrow (right_false (wide x) (list_any wide xs) h))

-- no number of an item is above all numbers
pub none_above : {X : Type 0} (test : ℕ × X → Bool) (b : ℕ) (xs : List X) → ((k : ℕ) (x : X) → k < b + length xs → test (k, x) ≡ false) → list_any test (enumerate_from b xs) ≡ false
none_above test b [] never = refl
none_above test b (x ∷ xs) never =
    let lengths : length (x ∷ xs) ≡ suc (length xs) = refl in
    let first : test (b, x) ≡ false = never b x (omega (arith, lengths)) in
    rw first (none_above test (b + 1) xs (λ k y h. never k y (omega (arith, h, lengths))))
