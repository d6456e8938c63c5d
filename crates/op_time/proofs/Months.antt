-- Months by their number, 12 times the year plus the month less 1: a later one begins after the earlier one has ended.
use Rattle.std.proofs.Common.{◌≡◌, ◌≤◌, ◌<◌, ◌+◌, ◌-◌, ◌/◌, ◌%◌, ℕ, zero, suc, arith, inl, inr}
use Rattle.std.proofs.lemmas.Bool.{cases_lt}
use Rattle.op_time.specs.Calendar.{month_length, days_before_year, days_before_month}
use Rattle.op_time.proofs.Days.{days_before_year-suc, days_before_month-next, days_before_month-december}

-- the number of the first day of a month
abbrev pub first_of_month : ℕ → ℕ
first_of_month k = days_before_year (k / 12) + days_before_month (k / 12) (k % 12 + 1)

-- how many days it has
abbrev pub length_of_month : ℕ → ℕ
length_of_month k = month_length (k / 12) (k % 12 + 1)

first_of_month-within : (k : ℕ) → k % 12 < 11 → first_of_month (k + 1) ≡ first_of_month k + length_of_month k
first_of_month-within k h =
    let year : (k + 1) / 12 ≡ k / 12 = omega arith in
    let month : (k + 1) % 12 + 1 ≡ (k % 12 + 1) + 1 = omega arith in
    let next = days_before_month-next (k / 12) (k % 12 + 1) (omega arith) (omega arith) in
    rw (year, month, next) (omega arith)

first_of_month-december : (k : ℕ) → k % 12 ≡ 11 → first_of_month (k + 1) ≡ first_of_month k + length_of_month k
first_of_month-december k h =
    let year : (k + 1) / 12 ≡ suc (k / 12) = omega arith in
    let month : (k + 1) % 12 ≡ 0 = omega arith in
    rw (year, month, h, days_before_year-suc (k / 12)) (omega (arith, days_before_month-december (k / 12)))

-- the next month begins after the days of this one
pub first_of_month-next : (k : ℕ) → first_of_month (k + 1) ≡ first_of_month k + length_of_month k
first_of_month-next k =
    elim (cases_lt (k % 12) 11) [
      | inl h ↦ first_of_month-within k h
      | inr h ↦ first_of_month-december k (omega arith)
    ]

-- and so does each later one
first_of_month-after : (k n : ℕ) → first_of_month k + length_of_month k ≤ first_of_month (k + 1 + n)
first_of_month-after k zero =
    let same : k + 1 + 0 ≡ k + 1 = omega arith in rw (same, first_of_month-next k) (omega arith)
first_of_month-after k (suc n) =
    let next : k + 1 + suc n ≡ k + 1 + n + 1 = omega arith in
    rw (next, first_of_month-next (k + 1 + n)) (omega (arith, first_of_month-after k n))

pub first_of_month-later : (k l : ℕ) → k < l → first_of_month k + length_of_month k ≤ first_of_month l
first_of_month-later k l h =
    let there : k + 1 + (l - (k + 1)) ≡ l = omega arith in rw there at (first_of_month-after k (l - (k + 1)))
