-- A moment has one place among repeating intervals.
use Rattle.std.proofs.Common.{true, false, Bool, ◌≡◌, ◌≤◌, ◌<◌, ◌+◌, ◌^◌, ◌&&◌, ℕ, zero, suc, refl, sym, ◌∙◌, ap, min, arith, inl, inr, Some, None, nat_lt, nat_le, if◌then◌else◌}
use Rattle.std.specs.Option.{option_map_or}
use Rattle.std.proofs.lemmas.Bool.{cases_order, cases_Bool, false≢true}
use Rattle.std.proofs.lemmas.Bool.Decides.{nat_tests}
use Rattle.op_time.specs.Interval.{Interval, IsInterval}
use Rattle.op_time.specs.Starts.{nominal_start, has_begun, is_counted, lies_in, last_begun, place_of, IsPlace, LiesOnce}
use Rattle.op_time.specs.declared.Place.{Place}
use Rattle.op_time.specs.declared.Place.TheVariants.{Before, Inside, After}
use Rattle.op_time.specs.declared.TheConstants.{LAST}
use Rattle.op_time.proofs.Starting.{nominal_start-zero, nominal_start-later}

-- what `has_begun` tests, in plain variables
abbrev begun : ℕ → ℕ → ℕ → Bool
begun n last t = option_map_or (λ start. nat_le start t) (if nat_le n last then Some n else None) false

begun-true : (n last t : ℕ) → begun n last t ≡ true → n ≤ min t last
begun-true n last t h = grind (arith, nat_tests)

begun-false : (n last t : ℕ) → begun n last t ≡ false → min t last < n
begun-false n last t h = grind (arith, nat_tests)

true-begun : (n last t : ℕ) → n ≤ min t last → begun n last t ≡ true
true-begun n last t h = grind (arith, nat_tests)

false-begun : (n last t : ℕ) → min t last < n → begun n last t ≡ false
false-begun n last t h = grind (arith, nat_tests)

-- begun by t, and not yet begun, as numbers
pub begun_is : (i : Interval) (j t : ℕ) → has_begun i j t ≡ true → nominal_start i j ≤ min t LAST
begun_is i j t h = begun-true (nominal_start i j) LAST t h

pub not_begun_is : (i : Interval) (j t : ℕ) → has_begun i j t ≡ false → min t LAST < nominal_start i j
not_begun_is i j t h = begun-false (nominal_start i j) LAST t h

pub has_begun-from : (i : Interval) (j t : ℕ) → nominal_start i j ≤ min t LAST → has_begun i j t ≡ true
has_begun-from i j t h = true-begun (nominal_start i j) LAST t h

pub not_begun-from : (i : Interval) (j t : ℕ) → min t LAST < nominal_start i j → has_begun i j t ≡ false
not_begun-from i j t h = false-begun (nominal_start i j) LAST t h

-- j has begun, and the next one not
abbrev pub IsLast : Interval → ℕ → ℕ → Type 0
IsLast i t j = (has_begun i j t ≡ true) × (has_begun i (j + 1) t ≡ false)

-- which fixes it
pub last_is_one : (i : Interval) (t j k : ℕ) → 0 < i.months + i.seconds → IsLast i t j → IsLast i t k → j ≡ k
last_is_one i t j k takes_time a b =
    let a0 = begun_is i j t a.0 in
    let a1 = not_begun_is i (j + 1) t a.1 in
    let b0 = begun_is i k t b.0 in
    let b1 = not_begun_is i (k + 1) t b.1 in
    elim (cases_order j k) [
      | inl same ↦ same
      | inr (inl lt) ↦ absurd (omega (arith, nominal_start-later i (j + 1) k takes_time (omega arith)))
      | inr (inr gt) ↦ absurd (omega (arith, nominal_start-later i (k + 1) j takes_time (omega arith)))
    ]

-- halving finds it
last_begun_is : (i : Interval) (t n j : ℕ) → has_begun i j t ≡ true → has_begun i (j + 2 ^ n) t ≡ false → IsLast i t (last_begun i t n j)
last_begun_is i t zero j low high = (low, high)
last_begun_is i t (suc n) j low high =
    let double : j + 2 ^ n + 2 ^ n ≡ j + 2 ^ suc n = omega arith in
    elim (cases_Bool (has_begun i (j + 2 ^ n) t)) [
      | inl has ↦ rw has (last_begun_is i t n (j + 2 ^ n) has (rw double high))
      | inr not_yet ↦ rw not_yet (last_begun_is i t n j low not_yet)
    ]

-- the first interval has begun at a moment that is not before the start
pub first_has_begun : (i : Interval) (t : ℕ) → IsInterval i → i.start ≤ t → has_begun i 0 t ≡ true
first_has_begun i t is h =
    let low = is.start_is_moment in
    let first = nominal_start-zero i in
    has_begun-from i 0 t (omega arith)

-- and an interval with so large a number never
pub none_has_begun : (i : Interval) (t : ℕ) → IsInterval i → has_begun i (0 + 2 ^ 38) t ≡ false
none_has_begun i t is =
    let end = nominal_start-later i 0 (0 + 2 ^ 38) is.takes_time (omega arith) in
    not_begun-from i (0 + 2 ^ 38) t (omega arith)

-- where a moment is not before the start, the last interval that has begun is there
last_of : (i : Interval) (t : ℕ) → IsInterval i → i.start ≤ t → IsLast i t (last_begun i t 38 0)
last_of i t is h =
    last_begun_is i t 38 0 (first_has_begun i t is h) (none_has_begun i t is)

-- a moment lies in the last interval that has begun, if that is counted
in_last : (a b c : Bool) → a ≡ true → b ≡ false → (a && (if b then false else c)) ≡ c
in_last a b c h k = rw (h, k)

of_in : (a b c : Bool) → (a && (if b then false else c)) ≡ true → (a ≡ true) × (b ≡ false) × (c ≡ true)
of_in false b c h = absurd (false≢true h)
of_in true true c h = absurd (false≢true h)
of_in true false c h = (refl, refl, h)

pub lies_in-last : (i : Interval) (t j : ℕ) → IsLast i t j → lies_in i t j ≡ is_counted i j
lies_in-last i t j last = in_last (has_begun i j t) (has_begun i (j + 1) t) (is_counted i j) last.0 last.1

last-lies_in : (i : Interval) (t j : ℕ) → lies_in i t j ≡ true → IsLast i t j × (is_counted i j ≡ true)
last-lies_in i t j h =
    let parts = of_in (has_begun i j t) (has_begun i (j + 1) t) (is_counted i j) h in
    ((parts.0, parts.1), parts.2)

-- the choice that `place_of` makes, in plain variables
abbrev place_by : Bool → Bool → ℕ → Place
place_by early counted j = if early then Before else (if counted then Inside j else After)

early-true : (t start : ℕ) → nat_lt t start ≡ true → t < start
early-true t start h = grind (arith, nat_tests)

early-false : (t start : ℕ) → nat_lt t start ≡ false → start ≤ t
early-false t start h = grind (arith, nat_tests)

true-early : (t start : ℕ) → t < start → nat_lt t start ≡ true
true-early t start h = grind (arith, nat_tests)

false-early : (t start : ℕ) → start ≤ t → nat_lt t start ≡ false
false-early t start h = grind (arith, nat_tests)

pub true-le : (start t : ℕ) → start ≤ t → nat_le start t ≡ true
true-le start t h = grind (arith, nat_tests)

le-true : (start t : ℕ) → nat_le start t ≡ true → start ≤ t
le-true start t h = grind (arith, nat_tests)

-- past the last counted interval a moment lies in none
pub in_none : (i : Interval) (t j k : ℕ) → 0 < i.months + i.seconds → IsLast i t j → is_counted i j ≡ false → lies_in i t k ≡ false
in_none i t j k takes_time last out =
    elim (cases_Bool (lies_in i t k)) [
      | inl inside ↦
          let there = last-lies_in i t k inside in
          let same : k ≡ j = last_is_one i t k j takes_time there.0 last in
          absurd (false≢true (sym out ∙ (ap (is_counted i) (sym same) ∙ there.1)))
      | inr outside ↦ outside
    ]

placed : (i : Interval) (t j : ℕ) (early counted : Bool) → 0 < i.months + i.seconds → nat_lt t i.start ≡ early → is_counted i j ≡ counted → (i.start ≤ t → IsLast i t j) → IsPlace i t (place_by early counted j)
placed i t j true counted takes_time e c last = early-true t i.start e
placed i t j false true takes_time e c last = lies_in-last i t j (last (early-false t i.start e)) ∙ c
placed i t j false false takes_time e c last =
    let from_start = early-false t i.start e in
    (true-le i.start t from_start, λ k. in_none i t j k takes_time (last from_start) c)

pub place_is : (i : Interval) (t : ℕ) → IsInterval i → IsPlace i t (place_of i t)
place_is i t is =
    placed i t (last_begun i t 38 0) (nat_lt t i.start) (is_counted i (last_begun i t 38 0)) is.takes_time refl refl (last_of i t is)

-- an interval that a moment lies in has begun, so the moment is not before the start
inside_from_start : (i : Interval) (t j : ℕ) → 0 < i.months + i.seconds → has_begun i j t ≡ true → i.start ≤ t
inside_from_start i t j takes_time h =
    let begun_by = begun_is i j t h in
    let first = nominal_start-zero i in
    omega (arith, nominal_start-later i 0 j takes_time (omega arith))

chosen-before : (early counted : Bool) (j : ℕ) → early ≡ true → place_by early counted j ≡ Before
chosen-before early counted j e = rw e refl

chosen-inside : (early counted : Bool) (j k : ℕ) → early ≡ false → counted ≡ true → j ≡ k → place_by early counted j ≡ Inside k
chosen-inside early counted j k e c same = rw (e, c, same) refl

chosen-after : (early counted : Bool) (j : ℕ) → early ≡ false → counted ≡ false → place_by early counted j ≡ After
chosen-after early counted j e c = rw (e, c) refl

place_only : (i : Interval) (t : ℕ) (p : Place) → IsInterval i → IsPlace i t p → place_of i t ≡ p
place_only i t Before is h =
    chosen-before (nat_lt t i.start) (is_counted i (last_begun i t 38 0)) (last_begun i t 38 0) (true-early t i.start h)
place_only i t (Inside k) is h =
    let there = last-lies_in i t k h in
    let from_start = inside_from_start i t k is.takes_time there.0.0 in
    let same = last_is_one i t (last_begun i t 38 0) k is.takes_time (last_of i t is from_start) there.0 in
    chosen-inside (nat_lt t i.start) (is_counted i (last_begun i t 38 0)) (last_begun i t 38 0) k (false-early t i.start from_start) (ap (is_counted i) same ∙ there.1) same
place_only i t After is h =
    let from_start = le-true i.start t h.0 in
    let j = last_begun i t 38 0 in
    chosen-after (nat_lt t i.start) (is_counted i j) j (false-early t i.start from_start) (sym (lies_in-last i t j (last_of i t is from_start)) ∙ h.1 j)

pub lies_once : (i : Interval) (t : ℕ) → IsInterval i → LiesOnce i t
lies_once i t is = record { place = place_is i t is; only = λ p h. place_only i t p is h }
