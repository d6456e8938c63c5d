-- Days of years and months, counted.
use Rattle.std.proofs.Common.{◌≡◌, ◌≤◌, ◌+◌, ◌*◌, ℕ, zero, suc, pos, arith}
use Rattle.std.proofs.lemmas.Bool.Decides.{nat_tests}
use Rattle.jiff_core.specs.Calendar.{days_in_year}
use Rattle.op_time.specs.Calendar.{month_length, days_before_year, days_before_month}

-- the next year begins after the days of this one
pub days_before_year-suc : (y : ℕ) → days_before_year (suc y) ≡ days_before_year y + days_in_year (pos y)
days_before_year-suc y = grind (arith, nat_tests)

-- and the next month after the days of this one
pub days_before_month-next : (y m : ℕ) → 1 ≤ m → m ≤ 11 → days_before_month y (m + 1) ≡ days_before_month y m + month_length y m
days_before_month-next y zero low high = absurd (omega arith)
days_before_month-next y (suc zero) low high = grind arith
days_before_month-next y (suc (suc zero)) low high = grind arith
days_before_month-next y (suc (suc (suc zero))) low high = grind arith
days_before_month-next y (suc (suc (suc (suc zero)))) low high = grind arith
days_before_month-next y (suc (suc (suc (suc (suc zero))))) low high = grind arith
days_before_month-next y (suc (suc (suc (suc (suc (suc zero)))))) low high = grind arith
days_before_month-next y (suc (suc (suc (suc (suc (suc (suc zero))))))) low high = grind arith
days_before_month-next y (suc (suc (suc (suc (suc (suc (suc (suc zero)))))))) low high = grind arith
days_before_month-next y (suc (suc (suc (suc (suc (suc (suc (suc (suc zero))))))))) low high = grind arith
days_before_month-next y (suc (suc (suc (suc (suc (suc (suc (suc (suc (suc zero)))))))))) low high = grind arith
days_before_month-next y (suc (suc (suc (suc (suc (suc (suc (suc (suc (suc (suc zero))))))))))) low high = grind arith
days_before_month-next y (suc (suc (suc (suc (suc (suc (suc (suc (suc (suc (suc (suc m)))))))))))) low high = absurd (omega arith)

-- December ends the year
pub days_before_month-december : (y : ℕ) → days_before_month y 12 + 31 ≡ days_in_year (pos y)
days_before_month-december y = grind arith

-- the length of a month
pub month_length_bounds : (y m : ℕ) → (28 ≤ month_length y m) × (month_length y m ≤ 31)
month_length_bounds y m = grind arith

-- a year's first day, within a day of its share of 400 years
pub days_before_year_low : (y : ℕ) → 146097 * y ≤ 400 * days_before_year y + 396
days_before_year_low y = omega arith

pub days_before_year_high : (y : ℕ) → 400 * days_before_year y ≤ 146097 * y + 699
days_before_year_high y = omega arith
