-- Items by number, counted from 1.
use Rattle.std.proofs.Common.{Option, is_some, ◌≡◌, ℕ, zero, suc, ◌+◌, ◌≤◌, ◌<◌, Bool, true, false, List, [], ◌∷◌, ◌++◌, length, refl, ◌∙◌, sym, ap, subst, arith, Some, None, map}
use Rattle.std.specs.Prelude.{◌&&◌, ◌||◌, ◌==◌, nat_le, slice_get}
use Rattle.std.specs.List.{AllByRecursion, list_any, enumerate_from}
use Rattle.std.specs.Option.{option_map}
use Rattle.std.proofs.lemmas.Bool.Decides.{nat_tests}
use Rattle.op_model.specs.History.{nth, numbered}
use Rattle.op_legal.proofs.Chains.{none_is_not, some_is}

-- ---- numbers

-- a number from 1 to a count
abbrev pub is_counted : ℕ → ℕ → Bool
is_counted n count = nat_le 1 n && nat_le n count

pub counted_more : (n a b : ℕ) → a ≤ b → is_counted n a ≡ true → is_counted n b ≡ true
counted_more n a b le h = grind (arith, nat_tests)

pub numbers_same : (k n : ℕ) → (k == n) ≡ true → k ≡ n
numbers_same k n h = grind (arith, nat_tests)

pub same_self : (p : ℕ) → (p == p) ≡ true
same_self p = grind (arith, nat_tests)

pub swapped : (k p : ℕ) → (k == p) ≡ false → (p == k) ≡ false
swapped k p h = grind (arith, nat_tests)

-- ---- choices

pub or_left : (a b : Bool) → (a || b) ≡ false → a ≡ false
or_left true b h = h
or_left false b h = refl

pub or_right : (a b : Bool) → (a || b) ≡ false → b ≡ false
or_right true b h = absurd (let e : true ≡ false = h in cc)
or_right false b h = h

or_false : (b : Bool) → (b || false) ≡ b
or_false true = refl
or_false false = refl

or_assoc : (a b c : Bool) → ((a || b) || c) ≡ (a || (b || c))
or_assoc true b c = refl
or_assoc false b c = refl

pub any_next : {X : Type 0} (test : X → Bool) (xs : List X) (x : X) → list_any test (xs ++ x ∷ []) ≡ (list_any test xs || test x)
any_next test [] x = or_false (test x)
any_next test (y ∷ ys) x = ap (λ b. test y || b) (any_next test ys x) ∙ sym (or_assoc (test y) (list_any test ys) (test x))

-- ---- items that are there, and one more

got_below : {X : Type 0} (xs : List X) (x : X) (k : ℕ) → k < length xs → slice_get (xs ++ x ∷ []) k ≡ slice_get xs k
got_below [] x k h = absurd (omega (arith, h))
got_below (y ∷ ys) x zero h = refl
got_below (y ∷ ys) x (suc k) h = got_below ys x k (omega (arith, h))

got_above : {X : Type 0} (xs : List X) (k : ℕ) → length xs ≤ k → slice_get xs k ≡ None
got_above [] k h = refl
got_above (y ∷ ys) zero h = absurd (omega (arith, h))
got_above (y ∷ ys) (suc k) h = got_above ys k (omega (arith, h))

pub nth_counted : {X : Type 0} (xs : List X) (x : X) (n : ℕ) → is_counted n (length xs) ≡ true → nth (xs ++ x ∷ []) n ≡ nth xs n
nth_counted xs x zero h = refl
nth_counted xs x (suc k) h = got_below xs x k (let e : suc k ≤ length xs = grind (arith, nat_tests) in omega (arith, e))

pub nth_uncounted : {X : Type 0} (xs : List X) (n : ℕ) → is_counted n (length xs) ≡ false → nth xs n ≡ None
nth_uncounted xs zero h = refl
nth_uncounted xs (suc k) h = got_above xs k (let e : length xs < suc k = grind (arith, nat_tests) in omega (arith, e))

counted_where : {X : Type 0} (b : Bool) (xs : List X) (n : ℕ) (x : X) → is_counted n (length xs) ≡ b → nth xs n ≡ Some x → is_counted n (length xs) ≡ true
counted_where true xs n x is h = is
counted_where false xs n x is h = absurd (let e : None ≡ Some x = sym (nth_uncounted xs n is) ∙ h in cc)

pub counted_of : {X : Type 0} (xs : List X) (n : ℕ) (x : X) → nth xs n ≡ Some x → is_counted n (length xs) ≡ true
counted_of xs n x h = counted_where (is_counted n (length xs)) xs n x refl h

some_counted_where : {X : Type 0} (xs : List X) (n : ℕ) (o : Option X) → nth xs n ≡ o → is_some o ≡ true → is_counted n (length xs) ≡ true
some_counted_where xs n None is h = absurd (let e : false ≡ true = h in cc)
some_counted_where xs n (Some x) is h = counted_of xs n x is

pub some_counted : {X : Type 0} (xs : List X) (n : ℕ) → is_some (nth xs n) ≡ true → is_counted n (length xs) ≡ true
some_counted xs n h = some_counted_where xs n (nth xs n) refl h

-- ---- a predicate of each item

pub each_append : {X : Type 0} (P : X → Type 0) (xs ys : List X) → AllByRecursion P xs → AllByRecursion P ys → AllByRecursion P (xs ++ ys)
each_append P [] ys a b = b
each_append P (x ∷ xs) ys a b = (a.0, each_append P xs ys a.1 b)

pub each_weaker : {X : Type 0} (P Q : X → Type 0) (xs : List X) → ((x : X) → P x → Q x) → AllByRecursion P xs → AllByRecursion Q xs
each_weaker P Q [] step a = tt
each_weaker P Q (x ∷ xs) step a = (step x a.0, each_weaker P Q xs step a.1)

each_got : {X : Type 0} (P : X → Type 0) (xs : List X) (i : ℕ) (x : X) → AllByRecursion P xs → slice_get xs i ≡ Some x → P x
each_got P [] i x a h = none_is_not x h
each_got P (y ∷ ys) zero x a h = subst P (some_is y x h) a.0
each_got P (y ∷ ys) (suc i) x a h = each_got P ys i x a.1 h

pub each_at : {X : Type 0} (P : X → Type 0) (xs : List X) (n : ℕ) (x : X) → AllByRecursion P xs → nth xs n ≡ Some x → P x
each_at P xs zero x a h = none_is_not x h
each_at P xs (suc i) x a h = each_got P xs i x a h

got_front : {X : Type 0} (xs ys : List X) (i : ℕ) → slice_get (xs ++ ys) i ≡ None → slice_get xs i ≡ None
got_front [] ys i h = refl
got_front (x ∷ xs) ys zero h = h
got_front (x ∷ xs) ys (suc i) h = got_front xs ys i h

-- what is not in a longer list is not in its front
pub nth_front : {X : Type 0} (xs ys : List X) (n : ℕ) → nth (xs ++ ys) n ≡ None → nth xs n ≡ None
nth_front xs ys zero h = refl
nth_front xs ys (suc i) h = got_front xs ys i h

row_from : {A B : Type 0} (f : ℕ × A → B) (b : ℕ) (xs : List A) (i : ℕ) → slice_get (map f (enumerate_from b xs)) i ≡ option_map (λ x. f (b + i, x)) (slice_get xs i)
row_from f b [] i = refl
row_from f b (x ∷ xs) zero = let number : b ≡ b + zero = omega arith in ap (λ (n : ℕ). Some (f (n, x))) number
row_from f b (x ∷ xs) (suc i) =
    let number : (b + 1) + i ≡ b + suc i = omega arith in
    row_from f (b + 1) xs i ∙ ap (λ (n : ℕ). option_map (λ y. f (n, y)) (slice_get xs i)) number

pub row_is : {A B : Type 0} (f : ℕ × A → B) (xs : List A) (n : ℕ) → nth (map f (numbered xs)) n ≡ option_map (λ x. f (n, x)) (nth xs n)
row_is f xs zero = refl
row_is f xs (suc i) = let number : 1 + i ≡ suc i = omega arith in row_from f 1 xs i ∙ ap (λ (n : ℕ). option_map (λ y. f (n, y)) (slice_get xs i)) number

-- an item that is there stays
got_kept : {X : Type 0} (xs ys : List X) (i : ℕ) (x : X) → slice_get xs i ≡ Some x → slice_get (xs ++ ys) i ≡ Some x
got_kept [] ys i x h = none_is_not x h
got_kept (y ∷ xs) ys zero x h = h
got_kept (y ∷ xs) ys (suc i) x h = got_kept xs ys i x h

pub nth_kept : {X : Type 0} (xs ys : List X) (n : ℕ) (x : X) → nth xs n ≡ Some x → nth (xs ++ ys) n ≡ Some x
nth_kept xs ys zero x h = none_is_not x h
nth_kept xs ys (suc i) x h = got_kept xs ys i x h

some_kept_where : {X : Type 0} (xs ys : List X) (n : ℕ) (o : Option X) → nth xs n ≡ o → is_some o ≡ true → is_some (nth (xs ++ ys) n) ≡ true
some_kept_where xs ys n None is h = absurd (let e : false ≡ true = h in cc)
some_kept_where xs ys n (Some x) is h = ap is_some (nth_kept xs ys n x is)

pub some_kept : {X : Type 0} (xs ys : List X) (n : ℕ) → is_some (nth xs n) ≡ true → is_some (nth (xs ++ ys) n) ≡ true
some_kept xs ys n h = some_kept_where xs ys n (nth xs n) refl h

pub some_mapped : {X Y : Type 0} (f : X → Y) (o : Option X) → is_some (option_map f o) ≡ is_some o
some_mapped f None = refl
some_mapped f (Some x) = refl

get_some : {X : Type 0} (xs : List X) (k : ℕ) → k + 1 ≤ length xs → is_some (slice_get xs k) ≡ true
get_some [] k h = absurd (omega (arith, h))
get_some (x ∷ xs) zero h = refl
get_some (x ∷ xs) (suc k) h = get_some xs k (omega (arith, h))

some_below : {X : Type 0} (xs : List X) (n : ℕ) → n ≤ length xs → 1 ≤ n → is_some (nth xs n) ≡ true
some_below xs zero le some = absurd (omega (arith, some))
some_below xs (suc k) le some = get_some xs k (omega (arith, le))

pub counted_some : {X : Type 0} (xs : List X) (n : ℕ) → is_counted n (length xs) ≡ true → is_some (nth xs n) ≡ true
counted_some xs n h = some_below xs n (let e : n ≤ length xs = grind (arith, nat_tests) in e) (let e : 1 ≤ n = grind (arith, nat_tests) in e)
