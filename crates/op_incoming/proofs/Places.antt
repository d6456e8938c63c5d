-- Items by number.
use Rattle.std.proofs.Common.{◌≡◌, refl, sym, ap, subst, ◌∙◌, ℕ, zero, suc, ◌+◌, ◌-◌, ◌<◌, Bool, true, false, cond, List, [], ◌∷◌, ◌++◌, map, length, get_or, arith, add-zero, IsTrue}
use Rattle.std.specs.Prelude.{◌==◌, Some, None, is_some, slice_get}
use Rattle.std.specs.List.{enumerate_from}
use Rattle.std.specs.Option.{option_map, option_map_or}
use Rattle.std.proofs.lemmas.Option.{slice_get-get_or}
use Rattle.op_model.specs.History.{nth, changed_at, with_item}
use Rattle.op_model.proofs.Items.{within_of_some}

-- the item of a number that is there
pub place_of_some : {X : Type 0} (xs : List X) (n : ℕ) → IsTrue (is_some (nth xs n)) → n - 1 < length xs
place_of_some xs zero there = absurd (let no : false ≡ true = there in cc)
place_of_some xs (suc m) there = let within = within_of_some xs m there in omega arith

pub nth_of_place : {X : Type 0} (xs : List X) (n : ℕ) (x : X) → IsTrue (is_some (nth xs n)) → x ≡ get_or xs (n - 1) x → nth xs n ≡ Some x
nth_of_place xs zero x there h = absurd (let no : false ≡ true = there in cc)
nth_of_place xs (suc m) x there h =
    let same : suc m - 1 ≡ m = omega arith in
    let at : x ≡ get_or xs m x = subst (λ k. x ≡ get_or xs k x) same h in
    slice_get-get_or xs m x (within_of_some xs m there) ∙ ap (λ y. Some y) (sym at)

-- ---- where one item changes

either : {Y : Type 0} (is : Bool) (y : Y) → cond is y y ≡ y
either true y = refl
either false y = refl

some_either : {X : Type 0} (is : Bool) (x y : X) → Some (cond is x y) ≡ cond is (Some x) (Some y)
some_either true x y = refl
some_either false x y = refl

slice_get-changed : {X : Type 0} (change : X → X) (n b : ℕ) (xs : List X) (i : ℕ) → slice_get (map (changed_at change n) (enumerate_from b xs)) i ≡ cond ((b + i) == n) (option_map change (slice_get xs i)) (slice_get xs i)
slice_get-changed change n b [] i = sym (either ((b + i) == n) None)
slice_get-changed change n b (x ∷ xs) zero =
    subst (λ k. Some (changed_at change n (b, x)) ≡ cond (k == n) (Some (change x)) (Some x)) (sym (add-zero b)) (some_either (b == n) (change x) x)
slice_get-changed change n b (x ∷ xs) (suc i) =
    let number : (b + 1) + i ≡ b + suc i = omega arith in
    subst (λ k. slice_get (map (changed_at change n) (enumerate_from (b + 1) xs)) i ≡ cond (k == n) (option_map change (slice_get xs i)) (slice_get xs i)) number (slice_get-changed change n (b + 1) xs i)

pub nth-with_item : {X : Type 0} (change : X → X) (xs : List X) (n k : ℕ) → nth (with_item change xs n) k ≡ cond (k == n) (option_map change (nth xs k)) (nth xs k)
nth-with_item change xs n zero = sym (either (zero == n) None)
nth-with_item change xs n (suc i) =
    let number : 1 + i ≡ suc i = omega arith in
    subst (λ k. slice_get (map (changed_at change n) (enumerate_from 1 xs)) i ≡ cond (k == n) (option_map change (slice_get xs i)) (slice_get xs i)) number (slice_get-changed change n 1 xs i)

-- ---- one more item

one_more : {X : Type 0} (f : X → ℕ) (xs : List X) (y : X) (i : ℕ) → f y ≡ 0 → option_map_or f (slice_get (xs ++ y ∷ []) i) 0 ≡ option_map_or f (slice_get xs i) 0
one_more f [] y zero none = none
one_more f [] y (suc i) none = refl
one_more f (x ∷ xs) y zero none = refl
one_more f (x ∷ xs) y (suc i) none = one_more f xs y i none

-- a number that is zero at the new item
pub number-next : {X : Type 0} (f : X → ℕ) (xs : List X) (y : X) (n : ℕ) → f y ≡ 0 → option_map_or f (nth (xs ++ y ∷ []) n) 0 ≡ option_map_or f (nth xs n) 0
number-next f xs y zero none = refl
number-next f xs y (suc i) none = one_more f xs y i none
