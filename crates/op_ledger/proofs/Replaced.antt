-- Lists where at most one element passes a test, and that one is replaced.
use Rattle.std.proofs.Common.{◌≡◌, ℕ, zero, suc, ◌+◌, Bool, true, false, cond, List, [], ◌∷◌, map, sum_by, refl, sym, ap, subst, ◌∙◌, arith}
use Rattle.std.specs.Prelude.{Some, None, slice_get, slice_set, if◌then◌else◌}
use Rattle.std.specs.List.{find}
use Rattle.std.specs.Option.{is_some, option_map}
use Rattle.std.specs.declared.option.Option.{Option}
use Rattle.std.proofs.lemmas.List.Sums.{sum_by-append}

-- the element that passes gives way to y
abbrev pub replaced : {X : Type 0} → (X → Bool) → X → X → X
replaced p y x = if p x then y else x

abbrev pub OnlyOne : {X : Type 0} → (X → Bool) → List X → Type 0
OnlyOne p [] = Unit {0}
OnlyOne p (x ∷ xs) = (p x ≡ true → find p xs ≡ None) × OnlyOne p xs

none_step : {X : Type 0} (t : Bool) (y x : X) (xs ys : List X) (o : Option X) → cond t (Some x) o ≡ None → (o ≡ None → ys ≡ xs) → cond t y x ∷ ys ≡ x ∷ xs
none_step true y x xs ys o h k = absurd (let e : Some x ≡ None = h in cc)
none_step false y x xs ys o h k = ap (λ zs. x ∷ zs) (k h)

-- nothing is replaced where nothing passes
pub none-replaced : {X : Type 0} (p : X → Bool) (y : X) (xs : List X) → find p xs ≡ None → map (replaced p y) xs ≡ xs
none-replaced p y [] h = refl
none-replaced p y (x ∷ xs) h = none_step (p x) y x xs (map (replaced p y) xs) (find p xs) h (none-replaced p y xs)

passes_step : {X : Type 0} (p : X → Bool) (t : Bool) (z x : X) (o : Option X) → p z ≡ t → cond t (Some z) o ≡ Some x → (o ≡ Some x → p x ≡ true) → p x ≡ true
passes_step p true z x o e h k = let same : z ≡ x = cc in subst (λ w. p w ≡ true) same e
passes_step p false z x o e h k = k h

pub find_passes : {X : Type 0} (p : X → Bool) (xs : List X) (x : X) → find p xs ≡ Some x → p x ≡ true
find_passes p [] x h = absurd (let e : None ≡ Some x = h in cc)
find_passes p (z ∷ xs) x h = passes_step p (p z) z x (find p xs) refl h (find_passes p xs x)

some_step : {X : Type 0} (t : Bool) (z : X) (o : Option X) → is_some o ≡ true → is_some (cond t (Some z) o) ≡ true
some_step true z o h = refl
some_step false z o h = h

pub find_some : {X : Type 0} (p : X → Bool) (xs : List X) (i : ℕ) (x : X) → slice_get xs i ≡ Some x → p x ≡ true → is_some (find p xs) ≡ true
find_some p [] i x h e = absurd (let f : None ≡ Some x = h in cc)
find_some p (z ∷ xs) zero x h e =
    let same : x ≡ z = cc in
    let here : p z ≡ true = subst (λ w. p w ≡ true) same e in
    rw here refl
find_some p (z ∷ xs) (suc i) x h e = some_step (p z) z (find p xs) (find_some p xs i x h e)

later_step : {X : Type 0} (t : Bool) (y z : X) (o : Option X) (ys zs : List X) → (t ≡ true → o ≡ None) → is_some o ≡ true → ys ≡ zs → z ∷ ys ≡ cond t y z ∷ zs
later_step true y z o ys zs only there rest = absurd (let e : o ≡ None = only refl in let f : is_some {T = _} o ≡ false = ap is_some e in let g : true ≡ false = cc in cc)
later_step false y z o ys zs only there rest = ap (λ ws. z ∷ ws) rest

-- to write at the place of the element that passes is to replace it
pub set_is_replaced : {X : Type 0} (p : X → Bool) (y : X) (xs : List X) (i : ℕ) (x : X) → OnlyOne p xs → p x ≡ true → slice_get xs i ≡ Some x → slice_set xs i y ≡ map (replaced p y) xs
set_is_replaced p y [] i x only e h = absurd (let f : None ≡ Some x = h in cc)
set_is_replaced p y (z ∷ xs) zero x only e h =
    let same : x ≡ z = cc in
    let here : p z ≡ true = subst (λ w. p w ≡ true) same e in
    rw here (ap (λ zs. y ∷ zs) (sym (none-replaced p y xs (only.0 here))))
set_is_replaced p y (z ∷ xs) (suc i) x only e h =
    later_step (p z) y z (find p xs) (slice_set xs i y) (map (replaced p y) xs) only.0 (find_some p xs i x h e) (set_is_replaced p y xs i x only.1 e h)

only_step : {X : Type 0} (t : Bool) (z x : X) (o : Option X) → (t ≡ true → o ≡ None) → o ≡ Some x → cond t (Some z) o ≡ Some x
only_step true z x o only h = absurd (let e : o ≡ None = only refl in let f : None ≡ Some x = sym e ∙ h in cc)
only_step false z x o only h = h

-- the only one that passes is the one that is found
pub find_only : {X : Type 0} (p : X → Bool) (xs : List X) (i : ℕ) (x : X) → OnlyOne p xs → slice_get xs i ≡ Some x → p x ≡ true → find p xs ≡ Some x
find_only p [] i x only h e = absurd (let f : None ≡ Some x = h in cc)
find_only p (z ∷ xs) zero x only h e =
    let same : z ≡ x = cc in
    let here : p z ≡ true = subst (λ w. p w ≡ true) (sym same) e in
    rw here (ap (λ w. Some w) same)
find_only p (z ∷ xs) (suc i) x only h e = only_step (p z) z x (find p xs) only.0 (find_only p xs i x only.1 h e)

sum_step : {X : Type 0} (f : X → ℕ) (t : Bool) (y z x : X) (xs ys : List X) (o : Option X) → (t ≡ true → o ≡ None) → (o ≡ None → ys ≡ xs) → (o ≡ Some x → sum_by f ys + f x ≡ sum_by f xs + f y) → cond t (Some z) o ≡ Some x → sum_by f (cond t y z ∷ ys) + f x ≡ sum_by f (z ∷ xs) + f y
sum_step f true y z x xs ys o only none some h =
    let same : z ≡ x = cc in
    let rest : sum_by f ys ≡ sum_by f xs = ap (sum_by f) (none (only refl)) in
    let here : f z ≡ f x = ap f same in
    omega (arith, sum_by-append f (y ∷ []) ys, sum_by-append f (z ∷ []) xs)
sum_step f false y z x xs ys o only none some h =
    omega (arith, some h, sum_by-append f (z ∷ []) ys, sum_by-append f (z ∷ []) xs)

-- a sum where one is replaced
pub sum_by-replaced : {X : Type 0} (f : X → ℕ) (p : X → Bool) (y : X) (xs : List X) (x : X) → OnlyOne p xs → find p xs ≡ Some x → sum_by f (map (replaced p y) xs) + f x ≡ sum_by f xs + f y
sum_by-replaced f p y [] x only h = absurd (let e : None ≡ Some x = h in cc)
sum_by-replaced f p y (z ∷ xs) x only h =
    sum_step f (p z) y z x xs (map (replaced p y) xs) (find p xs) only.0 (none-replaced p y xs) (sum_by-replaced f p y xs x only.1) h

found_step : {X : Type 0} (g : X → X) (t : Bool) (x : X) (o : Option X) → cond t (Some (g x)) (option_map g o) ≡ option_map g (cond t (Some x) o)
found_step g true x o = refl
found_step g false x o = refl

-- a change that the test does not see
pub find-map : {X : Type 0} (p : X → Bool) (g : X → X) → ((x : X) → p (g x) ≡ p x) → (xs : List X) → find p (map g xs) ≡ option_map g (find p xs)
find-map p g same [] = refl
find-map p g same (x ∷ xs) = rw (same x, find-map p g same xs) (found_step g (p x) x (find p xs))

-- two changes that agree on each element of a list
pub map_same : {X Y : Type 0} (f g : X → Y) (xs : List X) → ((k : ℕ) (x : X) → slice_get xs k ≡ Some x → f x ≡ g x) → map f xs ≡ map g xs
map_same f g [] each = refl
map_same f g (x ∷ xs) each =
    rw (each 0 x refl) (ap (λ ys. g x ∷ ys) (map_same f g xs (λ k y h. each (suc k) y h)))
