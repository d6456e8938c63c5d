-- Items by number, where one is changed or one is added.
use Rattle.std.proofs.Common.{◌≡◌, ◌≢◌, ℕ, zero, suc, ◌+◌, ◌-◌, ◌<◌, Bool, true, false, cond, List, [], ◌∷◌, ◌++◌, length, map, get_or, refl, sym, ap, subst, ◌∙◌, arith, add-zero, IsTrue}
use Rattle.std.specs.Prelude.{Some, None, ◌==◌, slice_get, sum_by}
use Rattle.std.specs.List.{enumerate_from, position_from}
use Rattle.std.specs.Option.{option_map, is_some}
use Rattle.std.specs.declared.option.Option.{Option}
use Rattle.std.proofs.lemmas.Bool.Decides.{nat_tests}
use Rattle.std.proofs.lemmas.List.Sums.{sum_by-cons}
use Rattle.std.proofs.lemmas.Option.{slice_get-get_or}
use Rattle.op_model.specs.History.{nth, number_of, changed_at, with_item}

some_is : {X : Type 0} (x y : X) → Some x ≡ Some y → x ≡ y
some_is x y h = cc

same_number : (n : ℕ) → (n == n) ≡ true
same_number n = grind (arith, nat_tests)

other_number : (m n : ℕ) → m ≢ n → (m == n) ≡ false
other_number m n h = grind (arith, nat_tests)

-- ---- one item changed

changed_get : {X : Type 0} (f : X → X) (n b : ℕ) (xs : List X) (k : ℕ) → slice_get (map (changed_at f n) (enumerate_from b xs)) k ≡ option_map (λ x. changed_at f n (b + k, x)) (slice_get xs k)
changed_get f n b [] k = refl
changed_get f n b (x ∷ xs) zero = ap (λ m. Some (changed_at f n (m, x))) (sym (add-zero b))
changed_get f n b (x ∷ xs) (suc k) =
    let number : (b + 1) + k ≡ b + suc k = omega arith in
    changed_get f n (b + 1) xs k ∙ ap (λ m. option_map (λ x. changed_at f n (m, x)) (slice_get xs k)) number

pub nth-with_item : {X : Type 0} (f : X → X) (xs : List X) (n m : ℕ) → nth (with_item f xs n) m ≡ option_map (λ x. changed_at f n (m, x)) (nth xs m)
nth-with_item f xs n zero = refl
nth-with_item f xs n (suc k) =
    let number : 1 + k ≡ suc k = omega arith in
    changed_get f n 1 xs k ∙ ap (λ m. option_map (λ x. changed_at f n (m, x)) (slice_get xs k)) number

pub nth-changed : {X : Type 0} (f : X → X) (xs : List X) (n : ℕ) (x : X) → nth xs n ≡ Some x → nth (with_item f xs n) n ≡ Some (f x)
nth-changed f xs n x h = nth-with_item f xs n n ∙ ap (option_map (λ y. changed_at f n (n, y))) h ∙ ap (λ b. Some (cond b (f x) x)) (same_number n)

same_map : {X : Type 0} (o : Option X) → option_map (λ x. x) o ≡ o
same_map None = refl
same_map (Some x) = refl

pub nth-other : {X : Type 0} (f : X → X) (xs : List X) (n m : ℕ) → m ≢ n → nth (with_item f xs n) m ≡ nth xs m
nth-other f xs n m h =
    nth-with_item f xs n m ∙ ap (λ b. option_map (λ x. cond b (f x) x) (nth xs m)) (other_number m n h) ∙ same_map (nth xs m)

map_step : {X Y : Type 0} (g : X → Y) (f : X → X) (h : Y → Y) (b : Bool) (x : X) → g (f x) ≡ h (g x) → g (cond b (f x) x) ≡ cond b (h (g x)) (g x)
map_step g f h true x e = e
map_step g f h false x e = refl

map_from : {X Y : Type 0} (g : X → Y) (f : X → X) (h : Y → Y) (n b : ℕ) (xs : List X) → ((x : X) → g (f x) ≡ h (g x)) → map g (map (changed_at f n) (enumerate_from b xs)) ≡ map (changed_at h n) (enumerate_from b (map g xs))
map_from g f h n b [] each = refl
map_from g f h n b (x ∷ xs) each = rw (map_step g f h (b == n) x (each x), map_from g f h n (b + 1) xs each) refl

-- what is read off the items, where one is changed
pub map-with_item : {X Y : Type 0} (g : X → Y) (f : X → X) (h : Y → Y) (xs : List X) (n : ℕ) → ((x : X) → g (f x) ≡ h (g x)) → map g (with_item f xs n) ≡ with_item h (map g xs) n
map-with_item g f h xs n each = map_from g f h n 1 xs each

same_step : {Y : Type 0} (h : Y → Y) (b : Bool) (y : Y) → h y ≡ y → cond b (h y) y ≡ y
same_step h true y e = e
same_step h false y e = refl

same_from : {Y : Type 0} (h : Y → Y) (n b : ℕ) (ys : List Y) → ((y : Y) → h y ≡ y) → map (changed_at h n) (enumerate_from b ys) ≡ ys
same_from h n b [] each = refl
same_from h n b (y ∷ ys) each = rw (same_step h (b == n) y (each y), same_from h n (b + 1) ys each) refl

pub map-unchanged : {X Y : Type 0} (g : X → Y) (f : X → X) (xs : List X) (n : ℕ) → ((x : X) → g (f x) ≡ g x) → map g (with_item f xs n) ≡ map g xs
map-unchanged g f xs n each = map-with_item g f (λ y. y) xs n each ∙ same_from (λ y. y) n 1 (map g xs) (λ y. refl)

length_from : {X : Type 0} (f : X → X) (n b : ℕ) (xs : List X) → length (map (changed_at f n) (enumerate_from b xs)) ≡ length xs
length_from f n b [] = refl
length_from f n b (x ∷ xs) = ap suc (length_from f n (b + 1) xs)

pub length-with_item : {X : Type 0} (f : X → X) (xs : List X) (n : ℕ) → length (with_item f xs n) ≡ length xs
length-with_item f xs n = length_from f n 1 xs

rest_from : {X : Type 0} (f : X → X) (n b : ℕ) (xs : List X) → n < b → map (changed_at f n) (enumerate_from b xs) ≡ xs
rest_from f n b [] h = refl
rest_from f n b (x ∷ xs) h =
    let apart : b ≢ n = λ e. absurd (omega (arith, h, e)) in
    rw (other_number b n apart) (ap (λ ys. x ∷ ys) (rest_from f n (b + 1) xs (omega (arith, h))))

sum_from : {X : Type 0} (w : X → ℕ) (f : X → X) (b k : ℕ) (xs : List X) (x : X) → slice_get xs k ≡ Some x → sum_by w (map (changed_at f (b + k)) (enumerate_from b xs)) + w x ≡ sum_by w xs + w (f x)
sum_from w f b k [] x h = absurd (let e : None ≡ Some x = h in cc)
sum_from w f b zero (y ∷ xs) x h =
    let same : y ≡ x = cc in
    let number : b ≡ b + 0 = sym (add-zero b) in
    let rest : map (changed_at f b) (enumerate_from (b + 1) xs) ≡ xs = rest_from f b (b + 1) xs (omega arith) in
    let here : changed_at f b (b, y) ≡ f y = ap (λ c. cond c (f y) y) (same_number b) in
    let whole : map (changed_at f b) (enumerate_from b (y ∷ xs)) ≡ f y ∷ xs = rw (here, rest) refl in
    subst (λ m. sum_by w (map (changed_at f m) (enumerate_from b (y ∷ xs))) + w x ≡ sum_by w (y ∷ xs) + w (f x)) number
    (subst (λ z. sum_by w (map (changed_at f b) (enumerate_from b (y ∷ xs))) + w z ≡ sum_by w (y ∷ xs) + w (f z)) same
    (omega (arith, ap (sum_by w) whole, sum_by-cons w (f y) xs, sum_by-cons w y xs)))
sum_from w f b (suc k) (y ∷ xs) x h =
    let number : (b + 1) + k ≡ b + suc k = omega arith in
    let apart : b ≢ b + suc k = λ e. absurd (omega (arith, e)) in
    let rest = subst (λ m. sum_by w (map (changed_at f m) (enumerate_from (b + 1) xs)) + w x ≡ sum_by w xs + w (f x)) number (sum_from w f (b + 1) k xs x h) in
    let here : changed_at f (b + suc k) (b, y) ≡ y = ap (λ c. cond c (f y) y) (other_number b (b + suc k) apart) in
    let whole : map (changed_at f (b + suc k)) (enumerate_from b (y ∷ xs)) ≡ y ∷ map (changed_at f (b + suc k)) (enumerate_from (b + 1) xs) = rw here refl in
    omega (arith, ap (sum_by w) whole, sum_by-cons w y xs, sum_by-cons w y (map (changed_at f (b + suc k)) (enumerate_from (b + 1) xs)), rest)

-- a sum where one item is changed
pub sum_by-with_item : {X : Type 0} (w : X → ℕ) (f : X → X) (xs : List X) (n : ℕ) (x : X) → nth xs n ≡ Some x → sum_by w (with_item f xs n) + w x ≡ sum_by w xs + w (f x)
sum_by-with_item w f xs zero x h = absurd (let e : None ≡ Some x = h in cc)
sum_by-with_item w f xs (suc k) x h =
    let number : 1 + k ≡ suc k = omega arith in
    subst (λ m. sum_by w (map (changed_at f m) (enumerate_from 1 xs)) + w x ≡ sum_by w xs + w (f x)) number (sum_from w f 1 k xs x h)

-- ---- one more item

get_front : {X : Type 0} (xs ys : List X) (i : ℕ) (x : X) → slice_get xs i ≡ Some x → slice_get (xs ++ ys) i ≡ Some x
get_front [] ys i x h = absurd (let e : None ≡ Some x = h in cc)
get_front (y ∷ xs) ys zero x h = h
get_front (y ∷ xs) ys (suc i) x h = get_front xs ys i x h

pub nth-append : {X : Type 0} (xs ys : List X) (n : ℕ) (x : X) → nth xs n ≡ Some x → nth (xs ++ ys) n ≡ Some x
nth-append xs ys zero x h = absurd (let e : None ≡ Some x = h in cc)
nth-append xs ys (suc i) x h = get_front xs ys i x h

get_last : {X : Type 0} (xs : List X) (x : X) → slice_get (xs ++ x ∷ []) (length xs) ≡ Some x
get_last [] x = refl
get_last (y ∷ xs) x = get_last xs x

pub nth-last : {X : Type 0} (xs : List X) (x : X) (n : ℕ) → n ≡ length xs + 1 → nth (xs ++ x ∷ []) n ≡ Some x
nth-last xs x n h =
    let number : n ≡ suc (length xs) = omega (arith, h) in
    ap (nth (xs ++ x ∷ [])) number ∙ get_last xs x

-- an item of the longer list is one of the others, or the last
get_either : {X : Type 0} (P : ℕ → X → Type 0) (xs : List X) (x y : X) (b i : ℕ) → ((k : ℕ) → slice_get xs k ≡ Some y → P (b + k) y) → P (b + length xs) x → slice_get (xs ++ x ∷ []) i ≡ Some y → P (b + i) y
get_either P [] x y b zero front last h = let same : x ≡ y = cc in subst (P (b + 0)) same last
get_either P [] x y b (suc i) front last h = absurd (let e : None ≡ Some y = h in cc)
get_either P (z ∷ xs) x y b zero front last h = front 0 h
get_either P (z ∷ xs) x y b (suc i) front last h =
    let step : (k : ℕ) → (b + 1) + k ≡ b + suc k = λ k. omega arith in
    subst (λ m. P m y) (step i)
    (get_either P xs x y (b + 1) i (λ k g. subst (λ m. P m y) (sym (step k)) (front (suc k) g)) (subst (λ m. P m x) (sym (step (length xs))) last) h)

pub nth_either : {X : Type 0} (P : ℕ → X → Type 0) (xs : List X) (x y : X) (n : ℕ) → ((m : ℕ) → nth xs m ≡ Some y → P m y) → P (length xs + 1) x → nth (xs ++ x ∷ []) n ≡ Some y → P n y
nth_either P xs x y zero front last h = absurd (let e : None ≡ Some y = h in cc)
nth_either P xs x y (suc i) front last h =
    let step : (k : ℕ) → 1 + k ≡ suc k = λ k. omega arith in
    let end : length xs + 1 ≡ 1 + length xs = omega arith in
    subst (λ m. P m y) (step i)
    (get_either P xs x y 1 i (λ k g. subst (λ m. P m y) (sym (step k)) (front (suc k) g)) (subst (λ m. P m x) end last) h)

-- ---- what is read off an item

nth_map_get : {X Y : Type 0} (g : X → Y) (xs : List X) (i : ℕ) → slice_get (map g xs) i ≡ option_map g (slice_get xs i)
nth_map_get g [] i = refl
nth_map_get g (x ∷ xs) zero = refl
nth_map_get g (x ∷ xs) (suc i) = nth_map_get g xs i

pub nth-map : {X Y : Type 0} (g : X → Y) (xs : List X) (n : ℕ) → nth (map g xs) n ≡ option_map g (nth xs n)
nth-map g xs zero = refl
nth-map g xs (suc i) = nth_map_get g xs i

pub of_map : {X Y : Type 0} (g : X → Y) (o : Option X) (y : Y) → option_map g o ≡ Some y → (x : X) × (o ≡ Some x) × (g x ≡ y)
of_map g None y h = absurd (let e : None ≡ Some y = h in cc)
of_map g (Some x) y h = (x, refl, some_is (g x) y h)

-- ---- the number of an item

none_from : {X : Type 0} (test : X → Bool) (b : ℕ) (xs : List X) → ((k : ℕ) (x : X) → slice_get xs k ≡ Some x → test x ≡ false) → position_from test b xs ≡ None
none_from test b [] never = refl
none_from test b (x ∷ xs) never = rw (never 0 x refl) (none_from test (b + 1) xs (λ k y h. never (suc k) y h))

pub number_of_none : {X : Type 0} (test : X → Bool) (xs : List X) → ((n : ℕ) (x : X) → nth xs n ≡ Some x → test x ≡ false) → number_of test xs ≡ None
number_of_none test xs never = none_from test 1 xs (λ k x h. never (suc k) x h)

first_step : {X : Type 0} (test : X → Bool) (b k : ℕ) (c : Bool) (o : Option ℕ) → (c ≡ true → ⊥) → o ≡ Some (b + suc k) → cond c (Some b) o ≡ Some (b + suc k)
first_step test b k true o never h = absurd (never refl)
first_step test b k false o never h = h

only_from : {X : Type 0} (test : X → Bool) (b k : ℕ) (xs : List X) (x : X) → slice_get xs k ≡ Some x → test x ≡ true → ((i : ℕ) (y : X) → slice_get xs i ≡ Some y → test y ≡ true → i ≡ k) → position_from test b xs ≡ Some (b + k)
only_from test b k [] x h e only = absurd (let f : None ≡ Some x = h in cc)
only_from test b zero (y ∷ xs) x h e only =
    let same : y ≡ x = cc in
    let passes : test y ≡ true = ap test same ∙ e in
    ap (λ c. cond c (Some b) (position_from test (b + 1) xs)) passes ∙ ap (λ m. Some m) (sym (add-zero b))
only_from test b (suc k) (y ∷ xs) x h e only =
    let number : (b + 1) + k ≡ b + suc k = omega arith in
    let rest = only_from test (b + 1) k xs x h e (λ i z g t. let next = only (suc i) z g t in omega (arith, next)) in
    first_step test b k (test y) (position_from test (b + 1) xs) (λ t. let next = only 0 y refl t in absurd (omega (arith, next))) (rest ∙ ap (λ m. Some m) number)

pub number_of_only : {X : Type 0} (test : X → Bool) (xs : List X) (n : ℕ) (x : X) → nth xs n ≡ Some x → test x ≡ true → ((m : ℕ) (y : X) → nth xs m ≡ Some y → test y ≡ true → m ≡ n) → number_of test xs ≡ Some n
number_of_only test xs zero x h e only = absurd (let f : None ≡ Some x = h in cc)
number_of_only test xs (suc k) x h e only =
    let number : 1 + k ≡ suc k = omega arith in
    only_from test 1 k xs x h e (λ i y g t. let next = only (suc i) y g t in omega (arith, next)) ∙ ap (λ m. Some m) number

-- ---- an item that is there

place_of_some : {X : Type 0} (xs : List X) (i : ℕ) → IsTrue (is_some (slice_get xs i)) → i < length xs
place_of_some [] i there = absurd (let e : false ≡ true = there in cc)
place_of_some (x ∷ xs) zero there = omega arith
place_of_some (x ∷ xs) (suc i) there = let rest = place_of_some xs i there in omega (arith, rest)

-- the item at an index is the one of the number
pub nth_at : {X : Type 0} (xs : List X) (n : ℕ) (x : X) → IsTrue (is_some (nth xs n)) → x ≡ get_or xs (n - 1) x → nth xs n ≡ Some x
nth_at xs zero x there h = absurd (let e : false ≡ true = there in cc)
nth_at xs (suc i) x there h =
    let same : suc i - 1 ≡ i = omega arith in
    let at : x ≡ get_or xs i x = subst (λ k. x ≡ get_or xs k x) same h in
    slice_get-get_or xs i x (place_of_some xs i there) ∙ ap (λ y. Some y) (sym at)
