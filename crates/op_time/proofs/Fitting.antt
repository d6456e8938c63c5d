-- Where a pattern has digits, a text that fits it has digits too.
use Rattle.std.proofs.Common.{◌≡◌, ◌≤◌, ◌<◌, ◌+◌, ◌-◌, ◌*◌, ◌^◌, ◌==◌, ◌&&◌, ℕ, zero, suc, Bool, true, false, List, [], ◌∷◌, length, take, drop, get_or, refl, sym, ap, ◌∙◌, inl, inr, add-one, arith}
use Rattle.std.specs.Char.{is_ascii_digit, digit_value}
use Rattle.std.specs.List.{list_all, prefix_len, zip}
use Rattle.std.proofs.Math.Nat.{pow-le-pow_right, pow-suc}
use Rattle.std.proofs.lemmas.Bool.{false≢true, cases_Bool}
use Rattle.std.proofs.lemmas.Bool.Decides.{nat_tests}
use Rattle.op_time.specs.Digits.{fits, fits_byte}

-- texts of one length fit where each byte does
pub fits_same_length : (p t : List ℕ) → length p ≡ length t → fits p t ≡ list_all (λ q. fits_byte q.0 q.1) (zip p t)
fits_same_length p t e = grind (arith, nat_tests)

pub and_true : (a b : Bool) → (a && b) ≡ true → (a ≡ true) × (b ≡ true)
and_true true b h = (refl, h)
and_true false b h = absurd (false≢true h)

both_true : (a b : Bool) → a ≡ true → b ≡ true → (a && b) ≡ true
both_true a b h k = rw (h, k) refl

pub fits_length : (p t : List ℕ) → fits p t ≡ true → length p ≡ length t
fits_length p t h =
    let same = (and_true (length p == length t) _ h).0 in
    grind (arith, nat_tests)

abbrev is_digits : List ℕ → Bool
is_digits p = list_all (λ b. b == 100) p

front_digits : (p t : List ℕ) (count : ℕ) → list_all (λ q. fits_byte q.0 q.1) (zip p t) ≡ true → is_digits (take count p) ≡ true → length p ≡ length t → list_all is_ascii_digit (take count t) ≡ true
front_digits p t zero fit digits same = refl
front_digits [] [] (suc count) fit digits same = refl
front_digits [] (b ∷ t) (suc count) fit digits same = absurd (omega arith)
front_digits (a ∷ p) [] (suc count) fit digits same = refl
front_digits (a ∷ p) (b ∷ t) (suc count) fit digits same =
    let here = and_true (a == 100) (is_digits (take count p)) digits in
    let byte = and_true (fits_byte a b) (list_all (λ q. fits_byte q.0 q.1) (zip p t)) fit in
    let rest = front_digits p t count byte.1 here.1 (omega arith) in
    let is : a ≡ 100 = grind (arith, nat_tests) in
    let digit : is_ascii_digit b ≡ true = ap (λ a. fits_byte a b) (sym is) ∙ byte.0 in
    rw (digit, rest) refl

at_digits : (p t : List ℕ) (at count : ℕ) → list_all (λ q. fits_byte q.0 q.1) (zip p t) ≡ true → is_digits (take count (drop at p)) ≡ true → length p ≡ length t → list_all is_ascii_digit (take count (drop at t)) ≡ true
at_digits p t zero count fit digits same = front_digits p t count fit digits same
at_digits [] [] (suc at) zero fit digits same = refl
at_digits [] [] (suc at) (suc count) fit digits same = refl
at_digits [] (b ∷ t) (suc at) count fit digits same = absurd (omega arith)
at_digits (a ∷ p) [] (suc at) count fit digits same = absurd (omega arith)
at_digits (a ∷ p) (b ∷ t) (suc at) count fit digits same =
    let byte = and_true (fits_byte a b) (list_all (λ q. fits_byte q.0 q.1) (zip p t)) fit in
    at_digits p t at count byte.1 digits (omega arith)

pub fits_digits : (p t : List ℕ) (at count : ℕ) → fits p t ≡ true → is_digits (take count (drop at p)) ≡ true → list_all is_ascii_digit (take count (drop at t)) ≡ true
fits_digits p t at count fit digits =
    let parts = and_true (length p == length t) (list_all (λ q. fits_byte q.0 q.1) (zip p t)) fit in
    at_digits p t at count parts.1 digits (fits_length p t fit)

-- powers of ten stay small
pub ten_to : (i k : ℕ) → i ≤ k → 10 ^ i ≤ 10 ^ k
ten_to i k h = pow-le-pow_right (omega arith) h

pub ten_to-next : (i : ℕ) → 10 ^ (i + 1) ≡ 10 ^ i * 10
ten_to-next i = rw (add-one, pow-suc) refl

-- the digit at a place, as a number
pub digit_at : (ds : List ℕ) (i : ℕ) → list_all is_ascii_digit ds ≡ true → i < length ds → (digit_value (get_or ds i 0) ≡ get_or ds i 0 - 48) × (48 ≤ get_or ds i 0) × (get_or ds i 0 ≤ 57)
digit_at [] i all within = absurd (omega arith)
digit_at (d ∷ ds) zero all within =
    let here = (and_true (is_ascii_digit d) (list_all is_ascii_digit ds) all).0 in
    grind (arith, nat_tests)
digit_at (d ∷ ds) (suc i) all within =
    digit_at ds i (and_true (is_ascii_digit d) (list_all is_ascii_digit ds) all).1 (omega arith)

-- what passes a test in front does
pub list_all_in_front : (p : ℕ → Bool) (xs : List ℕ) → list_all p (take (prefix_len p xs) xs) ≡ true
list_all_in_front p [] = refl
list_all_in_front p (x ∷ xs) =
    elim (cases_Bool (p x)) [
      | inl passes ↦
          let next : 1 + prefix_len p xs ≡ suc (prefix_len p xs) = omega arith in
          rw (passes, next) (both_true (p x) (list_all p (take (prefix_len p xs) xs)) passes (list_all_in_front p xs))
      | inr fails ↦ rw fails refl
    ]

-- digits in front of three places, as thousandths
pub three_places : (n k : ℕ) → k ≤ 3 → n < 10 ^ k → n * 10 ^ (3 - k) < 1000
three_places n zero h small = omega arith
three_places n (suc zero) h small = omega arith
three_places n (suc (suc zero)) h small = omega arith
three_places n (suc (suc (suc zero))) h small = omega arith
three_places n (suc (suc (suc (suc k)))) h small = absurd (omega arith)
