-- Digits, and powers of ten.
use Rattle.std.proofs.Common.{◌≡◌, ◌≤◌, ◌<◌, ◌+◌, ◌-◌, ◌*◌, ◌^◌, ℕ, zero, suc, true, List, [], ◌∷◌, length, get_or, refl, add-one, arith}
use Rattle.std.specs.Char.{is_ascii_digit, digit_value}
use Rattle.std.specs.List.{list_all}
use Rattle.std.proofs.Math.Nat.{pow-le-pow_right, pow-suc}
use Rattle.std.proofs.lemmas.Bool.{and_parts}
use Rattle.std.proofs.lemmas.Bool.Decides.{nat_tests}

-- powers of ten stay small
pub ten_to : (i k : ℕ) → i ≤ k → 10 ^ i ≤ 10 ^ k
ten_to i k h = pow-le-pow_right (omega arith) h

pub ten_to-next : (i : ℕ) → 10 ^ (i + 1) ≡ 10 ^ i * 10
ten_to-next i = rw (add-one, pow-suc) refl

-- the digit at a place, as a number
pub digit_at : (ds : List ℕ) (i : ℕ) → list_all is_ascii_digit ds ≡ true → i < length ds → (digit_value (get_or ds i 0) ≡ get_or ds i 0 - 48) × (48 ≤ get_or ds i 0) × (get_or ds i 0 ≤ 57)
digit_at [] i all within = absurd (omega arith)
digit_at (d ∷ ds) zero all within =
    let here = (and_parts (is_ascii_digit d) (list_all is_ascii_digit ds) all).0 in
    grind (arith, nat_tests)
digit_at (d ∷ ds) (suc i) all within =
    digit_at ds i (and_parts (is_ascii_digit d) (list_all is_ascii_digit ds) all).1 (omega arith)
