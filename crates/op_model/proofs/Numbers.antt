-- The numbers of the items that pass a test.
use Rattle.std.proofs.Common.{◌≡◌, refl, sym, ap, subst, ◌∙◌, ℕ, suc, ◌+◌, ◌≤◌, Bool, true, false, cond, List, [], ◌∷◌, ◌++◌, length, map, arith, take, drop, add-zero, inl, inr, Some, None}
use Rattle.std.specs.Prelude.{◌==◌, ◌&&◌, not, filter, slice_get}
use Rattle.std.proofs.Math.Seq.{take-append_seam}
use Rattle.std.proofs.lemmas.List.{take-append-drop, take_all}
use Rattle.std.proofs.lemmas.List.Elements.{filter-append}
use Rattle.std.specs.List.{enumerate_from, filter_map, cons_option}
use Rattle.std.specs.Option.{option_map_or}
use Rattle.std.proofs.lemmas.Bool.{cases_Bool}
use Rattle.std.proofs.lemmas.Bool.Decides.{nat_tests}
use Rattle.op_model.specs.History.{nth, changed_at, with_item}
use Rattle.op_model.specs.Numbers.{number_if, numbers_where}

-- ---- those that pass, of those that may pass

one_more : (may is : Bool) (test : ℕ → Bool) (b : ℕ) (ys zs : List ℕ) → test b ≡ is → (is ≡ true → may ≡ true) → filter test ys ≡ zs → filter test (cons_option (cond may (Some b) None) ys) ≡ cons_option (cond is (Some b) None) zs
one_more true true test b ys zs e w rest = rw (e, rest) refl
one_more true false test b ys zs e w rest = rw (e, rest) refl
one_more false true test b ys zs e w rest = absurd (let no : false ≡ true = w refl in cc)
one_more false false test b ys zs e w rest = rest

filter-numbers_from : {X : Type 0} (may is : X → Bool) (test : ℕ → Bool) (b : ℕ) (xs : List X) → ((x : X) → is x ≡ true → may x ≡ true) → ((i : ℕ) → test (b + i) ≡ option_map_or is (slice_get xs i) false) → filter test (filter_map (number_if may) (enumerate_from b xs)) ≡ filter_map (number_if is) (enumerate_from b xs)
filter-numbers_from may is test b [] within at = refl
filter-numbers_from may is test b (x ∷ xs) within at =
    let here : test b ≡ is x = subst (λ k. test k ≡ is x) (add-zero b) (at 0) in
    let next = λ (i : ℕ). let number : b + suc i ≡ (b + 1) + i = omega arith in subst (λ k. test k ≡ option_map_or is (slice_get xs i) false) number (at (suc i)) in
    one_more (may x) (is x) test b _ _ here (within x) (filter-numbers_from may is test (b + 1) xs within next)

pub filter-numbers_where : {X : Type 0} (may is : X → Bool) (test : ℕ → Bool) (xs : List X) → ((x : X) → is x ≡ true → may x ≡ true) → ((n : ℕ) → test n ≡ option_map_or is (nth xs n) false) → filter test (numbers_where may xs) ≡ numbers_where is xs
filter-numbers_where may is test xs within at =
    filter-numbers_from may is test 1 xs within (λ i. let number : suc i ≡ 1 + i = omega arith in subst (λ k. test k ≡ option_map_or is (slice_get xs i) false) number (at (suc i)))

-- ---- where one item changes

one_changed : (was is keep : Bool) (test : ℕ → Bool) (b : ℕ) (ys zs : List ℕ) → test b ≡ keep → is ≡ (keep && was) → ys ≡ filter test zs → cons_option (cond is (Some b) None) ys ≡ filter test (cons_option (cond was (Some b) None) zs)
one_changed true is true test b ys zs e h rest = rw (h, e, rest) refl
one_changed true is false test b ys zs e h rest = rw (h, e, rest) refl
one_changed false is true test b ys zs e h rest = rw (h) rest
one_changed false is false test b ys zs e h rest = rw (h) rest

changed_from : {X : Type 0} (test : X → Bool) (keep : ℕ → Bool) (change : X → X) (n b : ℕ) (xs : List X) → ((i : ℕ) (x : X) → slice_get xs i ≡ Some x → test (changed_at change n (b + i, x)) ≡ (keep (b + i) && test x)) → filter_map (number_if test) (enumerate_from b (map (changed_at change n) (enumerate_from b xs))) ≡ filter keep (filter_map (number_if test) (enumerate_from b xs))
changed_from {X = X} test keep change n b [] each = refl
changed_from {X = X} test keep change n b (x ∷ xs) each =
    let here : test (changed_at change n (b, x)) ≡ (keep b && test x) = subst (λ k. test (changed_at change n (k, x)) ≡ (keep k && test x)) (add-zero b) (each 0 x refl) in
    let next = λ (i : ℕ) (y : X) (got : slice_get xs i ≡ Some y). let number : b + suc i ≡ (b + 1) + i = omega arith in subst (λ k. test (changed_at change n (k, y)) ≡ (keep k && test y)) number (each (suc i) y got) in
    one_changed (test x) (test (changed_at change n (b, x))) (keep b) keep b _ _ refl here (changed_from test keep change n (b + 1) xs next)

same_item : {X : Type 0} (x y : X) → Some x ≡ Some y → x ≡ y
same_item x y h = cc

-- the item of a number
item_at : {X : Type 0} (xs : List X) (n i : ℕ) (x y : X) → nth xs n ≡ Some x → 1 + i ≡ n → slice_get xs i ≡ Some y → y ≡ x
item_at xs n i x y found number got =
    let is : suc i ≡ n = omega arith in
    let here : slice_get xs i ≡ Some x = subst (λ k. nth xs k ≡ Some x) (sym is) found in
    same_item y x (sym got ∙ here)

equal_number : (k n : ℕ) → (k == n) ≡ true → k ≡ n
equal_number k n h = grind (arith, nat_tests)

at_change : {X : Type 0} (test : X → Bool) (keep : ℕ → Bool) (change : X → X) (n k : ℕ) (y : X) → (k ≡ n → test (change y) ≡ (keep k && test y)) → ((k == n) ≡ false → keep k ≡ true) → test (changed_at change n (k, y)) ≡ (keep k && test y)
at_change test keep change n k y same other = elim (cases_Bool (k == n)) [
  | inl e ↦ rw e (same (equal_number k n e))
  | inr e ↦ rw (e, other e) refl
]

all_kept : (xs : List ℕ) → filter (λ _. true) xs ≡ xs
all_kept [] = refl
all_kept (x ∷ xs) = ap (λ ys. x ∷ ys) (all_kept xs)

-- an item that passes as it did
pub numbers_where-stays : {X : Type 0} (test : X → Bool) (change : X → X) (xs : List X) (n : ℕ) (x : X) → nth xs n ≡ Some x → test (change x) ≡ test x → numbers_where test (with_item change xs n) ≡ numbers_where test xs
numbers_where-stays test change xs n x found same =
    changed_from test (λ _. true) change n 1 xs
    (λ i y got. at_change test (λ _. true) change n (1 + i) y (λ number. let e = item_at xs n i x y found number got in rw e same) (λ _. refl))
    ∙ all_kept (numbers_where test xs)

-- an item that passes no more
pub numbers_where-leaves : {X : Type 0} (test : X → Bool) (change : X → X) (xs : List X) (n : ℕ) (x : X) → nth xs n ≡ Some x → test (change x) ≡ false → numbers_where test (with_item change xs n) ≡ filter (λ k. not (k == n)) (numbers_where test xs)
numbers_where-leaves test change xs n x found is =
    let itself : (n == n) ≡ true = grind (arith, nat_tests) in
    changed_from test (λ k. not (k == n)) change n 1 xs
    (λ i y got. at_change test (λ k. not (k == n)) change n (1 + i) y (λ number. let e = item_at xs n i x y found number got in rw (e, number, itself) is) (λ e. rw e refl))

-- ---- how many there are

shorter : (is : Bool) (b m : ℕ) (ys : List ℕ) → length ys ≤ m → length (cons_option (cond is (Some b) None) ys) ≤ suc m
shorter true b m ys h = omega arith
shorter false b m ys h = omega arith

length-from : {X : Type 0} (test : X → Bool) (b : ℕ) (xs : List X) → length (filter_map (number_if test) (enumerate_from b xs)) ≤ length xs
length-from test b [] = omega arith
length-from test b (x ∷ xs) = shorter (test x) b (length xs) _ (length-from test (b + 1) xs)

pub length-numbers_where : {X : Type 0} (test : X → Bool) (xs : List X) → length (numbers_where test xs) ≤ length xs
length-numbers_where test xs = length-from test 1 xs

-- ---- the first of those that pass

split_at : {X : Type 0} (p : X → Bool) (xs got : List X) (i : ℕ) → got ≡ filter p (take i xs) → filter p xs ≡ got ++ filter p (drop i xs)
split_at p xs got i is =
    ap (filter p) (sym (take-append-drop i xs)) ∙ filter-append p (take i xs) (drop i xs) ∙ ap (λ ys. ys ++ filter p (drop i xs)) (sym is)

pub first_passing : {X : Type 0} (p : X → Bool) (xs got : List X) (i room : ℕ) → got ≡ filter p (take i xs) → length got ≡ room → got ≡ take room (filter p xs)
first_passing p xs got i room is full =
    let rest = filter p (drop i xs) in
    sym (ap (take room) (split_at p xs got i is) ∙ ap (λ n. take n (got ++ rest)) (sym full) ∙ take-append_seam got rest)

pub all_passing : {X : Type 0} (p : X → Bool) (xs got : List X) (i room : ℕ) → got ≡ filter p (take i xs) → length xs ≤ i → length got ≤ room → got ≡ take room (filter p xs)
all_passing p xs got i room is all few =
    let whole : filter p xs ≡ got = sym (is ∙ ap (filter p) (take_all i xs all)) in
    sym (ap (take room) whole ∙ take_all room got few)
