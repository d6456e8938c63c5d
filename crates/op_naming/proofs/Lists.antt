-- Items by number.
use Rattle.std.proofs.Common.{◌≡◌, ℕ, zero, suc, ◌+◌, ◌-◌, ◌≤◌, Bool, true, false, cond, List, [], ◌∷◌, ◌++◌, length, refl, ◌∙◌, sym, ap, subst, arith, Some, None, Option, map}
use Rattle.std.specs.Prelude.{slice_get}
use Rattle.std.specs.List.{position_from, filter_map, cons_option, find}
use Rattle.std.specs.Option.{option_map, option_and_then}
use Rattle.op_model.specs.History.{nth, number_of}

get_here : {X : Type 0} (xs : List X) (x : X) → slice_get (xs ++ x ∷ []) (length xs) ≡ Some x
get_here [] x = refl
get_here (y ∷ ys) x = get_here ys x

pub nth_here : {X : Type 0} (xs : List X) (x : X) (n : ℕ) → n ≡ 1 + length xs → nth (xs ++ x ∷ []) n ≡ Some x
nth_here xs x zero is = absurd (omega (arith, is))
nth_here xs x (suc k) is = let at : length xs ≡ k = omega (arith, is) in subst (λ (i : ℕ). slice_get (xs ++ x ∷ []) i ≡ Some x) at (get_here xs x)

-- the first number at which a test of an image passes
position_map : {X Y : Type 0} (test : Y → Bool) (f : X → Y) (i : ℕ) (xs : List X) → position_from test i (map f xs) ≡ position_from (λ x. test (f x)) i xs
position_map test f i [] = refl
position_map test f i (x ∷ xs) = ap (λ o. cond (test (f x)) (Some i) o) (position_map test f (i + 1) xs)

pub number_map : {X Y : Type 0} (test : Y → Bool) (f : X → Y) (xs : List X) → number_of test (map f xs) ≡ number_of (λ x. test (f x)) xs
number_map test f xs = position_map test f 1 xs

-- a choice takes no more than there is
taken_step : {X Y : Type 0} (o : Option Y) (ys : List Y) (xs : List X) → length ys ≤ length xs → length (cons_option o ys) ≤ length xs + 1
taken_step None ys xs h = omega (arith, h)
taken_step (Some y) ys xs h = omega (arith, h)

pub length_filter_map : {X Y : Type 0} (f : X → Option Y) (xs : List X) → length (filter_map f xs) ≤ length xs
length_filter_map f [] = omega arith
length_filter_map f (x ∷ xs) = let e = taken_step (f x) (filter_map f xs) xs (length_filter_map f xs) in omega (arith, e)

get_mapped : {X Y : Type 0} (f : X → Y) (xs : List X) (k : ℕ) → slice_get (map f xs) k ≡ option_map f (slice_get xs k)
get_mapped f [] k = refl
get_mapped f (x ∷ xs) zero = refl
get_mapped f (x ∷ xs) (suc k) = get_mapped f xs k

pub nth_mapped : {X Y : Type 0} (f : X → Y) (xs : List X) (n : ℕ) → nth (map f xs) n ≡ option_map f (nth xs n)
nth_mapped f xs zero = refl
nth_mapped f xs (suc k) = get_mapped f xs k

-- what is found first has the first number
record IsFirst {X : Type 0} (test : X → Bool) (xs : List X) (i n : ℕ) : Type 0 where
  place : ℕ
  number : n ≡ i + place
  there : slice_get xs place ≡ find test xs

abbrev first_of : {X : Type 0} (test : X → Bool) (xs : List X) (i : ℕ) → Option ℕ → Type 0
first_of test xs i None = find test xs ≡ None
first_of test xs i (Some n) = IsFirst test xs i n

first_later : {X : Type 0} (test : X → Bool) (x : X) (xs : List X) (i : ℕ) (o : Option ℕ) → test x ≡ false → first_of test xs (i + 1) o → first_of test (x ∷ xs) i o
first_later test x xs i None no_match h = rw no_match h
first_later test x xs i (Some n) no_match h = record { place = suc h.place; number = omega (arith, h.number); there = rw no_match h.there }

first_step : {X : Type 0} (test : X → Bool) (x : X) (xs : List X) (i : ℕ) (b : Bool) → test x ≡ b → first_of test xs (i + 1) (position_from test (i + 1) xs) → first_of test (x ∷ xs) i (cond b (Some i) (position_from test (i + 1) xs))
first_step test x xs i true same h = record { place = 0; number = omega arith; there = rw same refl }
first_step test x xs i false same h = first_later test x xs i (position_from test (i + 1) xs) same h

first_from : {X : Type 0} (test : X → Bool) (xs : List X) (i : ℕ) → first_of test xs i (position_from test i xs)
first_from test [] i = refl
first_from test (x ∷ xs) i = first_step test x xs i (test x) refl (first_from test xs (i + 1))

pub found_first : {X : Type 0} (test : X → Bool) (xs : List X) (o : Option ℕ) → number_of test xs ≡ o → find test xs ≡ option_and_then (nth xs) o
found_first test xs None is = subst (first_of test xs 1) is (first_from test xs 1)
found_first test xs (Some n) is =
    let first = subst (first_of test xs 1) is (first_from test xs 1) in
    sym first.there ∙ ap (nth xs) (let e : suc first.place ≡ n = omega (arith, first.number) in e)

record IsAt {X : Type 0} (test : X → Bool) (xs : List X) (i n : ℕ) : Type 0 where
  place : ℕ
  number : n ≡ i + place
  item : X
  there : slice_get xs place ≡ Some item

some_is : {X : Type 0} (x y : X) → Some x ≡ Some y → x ≡ y
some_is x y h = cc

at_step : {X : Type 0} (test : X → Bool) (x : X) (xs : List X) (i n : ℕ) (b : Bool) → cond b (Some i) (position_from test (i + 1) xs) ≡ Some n → (position_from test (i + 1) xs ≡ Some n → IsAt test xs (i + 1) n) → IsAt test (x ∷ xs) i n
at_step test x xs i n true h more = let e : i ≡ n = some_is i n h in record { place = 0; number = omega (arith, e); item = x; there = refl }
at_step test x xs i n false h more = let rest = more h in record { place = suc rest.place; number = omega (arith, rest.number); item = rest.item; there = rest.there }

at_from : {X : Type 0} (test : X → Bool) (xs : List X) (i n : ℕ) → position_from test i xs ≡ Some n → IsAt test xs i n
at_from test [] i n h = absurd (let e : None ≡ Some n = h in cc)
at_from test (x ∷ xs) i n h = at_step test x xs i n (test x) h (at_from test xs (i + 1) n)

-- an item that has a number is there
pub record IsItem {X : Type 0} (xs : List X) (n : ℕ) : Type 0 where
  pub item : X
  pub there : nth xs n ≡ Some item

pub number_found : {X : Type 0} (test : X → Bool) (xs : List X) (n : ℕ) → number_of test xs ≡ Some n → IsItem xs n
number_found test xs n h =
    let at = at_from test xs 1 n h in
    let number : suc at.place ≡ n = omega (arith, at.number) in
    record { item = at.item; there = subst (λ (k : ℕ). nth xs k ≡ Some at.item) number at.there }

-- ---- rows by number

pub nth_less : {X : Type 0} (xs : List X) (n : ℕ) → (n ≡ 0 → ⊥) → slice_get xs (n - 1) ≡ nth xs n
nth_less xs zero some = absurd (some refl)
nth_less xs (suc k) some = let e : suc k - 1 ≡ k = omega arith in ap (slice_get xs) e

pub nth_zero : {X : Type 0} (xs : List X) (n : ℕ) → n ≡ 0 → nth xs n ≡ None
nth_zero xs n is = ap (nth xs) is

pub mapped_at : {X Y : Type 0} (f : X → Y) (xs : List X) (o : Option ℕ) → option_and_then (nth (map f xs)) o ≡ option_map f (option_and_then (nth xs) o)
mapped_at f xs None = refl
mapped_at f xs (Some n) = nth_mapped f xs n
