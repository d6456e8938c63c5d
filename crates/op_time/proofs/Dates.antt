-- The date of a day has that day's number.
use Rattle.std.proofs.Common.{◌≡◌, ◌≤◌, ◌<◌, ◌+◌, ◌-◌, ◌*◌, ◌/◌, ◌%◌, ℕ, zero, suc, refl, Some, None, if◌then◌else◌, ◌&&◌, ap, arith, nat_le, [], ◌∷◌, inl, inr}
use Rattle.std.proofs.lemmas.Bool.{cases_lt, cases_order}
use Rattle.std.proofs.lemmas.Bool.Decides.{nat_tests}
use Rattle.op_time.specs.Calendar.{month_length, days_before_year, days_before_month, Date, day_number, first_passing, year_of_day, month_of_day, date_of}
use Rattle.op_time.proofs.Days.{days_before_year-suc, days_before_month-next, days_before_month-december, days_before_year_low, days_before_year_high}
use Rattle.op_time.proofs.Months.{first_of_month, length_of_month, first_of_month-later}

-- of three numbers in a row, the last at which f has come to n
last_of_three : (f : ℕ → ℕ) (n g : ℕ) → f (g - 1) ≤ n → n < f (g + 2) → let y = first_passing (λ y. nat_le (f y) n) ((g + 1) ∷ g ∷ (g - 1) ∷ []) in (f y ≤ n) × (n < f (y + 1))
last_of_three f n zero low high = grind (arith, nat_tests)
last_of_three f n (suc g) low high =
    let back : suc g - 1 ≡ g = omega arith in
    let one : suc g + 1 ≡ g + 2 = omega arith in
    let two : suc g + 2 ≡ g + 3 = omega arith in
    let here : suc g ≡ g + 1 = omega arith in
    grind (arith, nat_tests)

-- a day lies in its year
pub year_of_day_is : (n : ℕ) → (days_before_year (year_of_day n) ≤ n) × (n < days_before_year (year_of_day n + 1))
year_of_day_is n =
    let g = n * 400 / 146097 in
    last_of_three days_before_year n g (omega (arith, days_before_year_high (g - 1))) (omega (arith, days_before_year_low (g + 2)))

-- a day before the year 10000
before_year : (y n : ℕ) → days_before_year y ≤ n → n < 3652425 → y < 10000
before_year y n h last = omega (arith, days_before_year_low y)

pub year_of_day_small : (n : ℕ) → n < 3652425 → year_of_day n < 10000
year_of_day_small n last = before_year (year_of_day n) n (year_of_day_is n).0 last

-- the same of the twelve months
last_of_twelve : (f : ℕ → ℕ) (n : ℕ) → f 1 ≤ n → n < f 13 → let m = first_passing (λ m. nat_le (f m) n) (12 ∷ 11 ∷ 10 ∷ 9 ∷ 8 ∷ 7 ∷ 6 ∷ 5 ∷ 4 ∷ 3 ∷ 2 ∷ 1 ∷ []) in (f m ≤ n) × (n < f (m + 1)) × (1 ≤ m) × (m ≤ 12)
last_of_twelve f n low high = grind (arith, nat_tests)

-- what the date of a day is: a date of the calendar, with that number
pub record IsDateOf (n : ℕ) (date : Date) : Type 0 where
  pub month_low : 1 ≤ date.month
  pub month_high : date.month ≤ 12
  pub day_low : 1 ≤ date.day
  pub day_high : date.day ≤ month_length date.year date.month
  pub number : day_number date ≡ n

date_of-parts : (n y rest m : ℕ) → days_before_year y + rest ≡ n → (days_before_month y m ≤ rest) × (rest < days_before_month y (m + 1)) × (1 ≤ m) × (m ≤ 12) → days_before_month y (m + 1) ≡ days_before_month y m + month_length y m → IsDateOf n (record { year = y; month = m; day = rest - days_before_month y m + 1 })
date_of-parts n y rest m is within next =
    record {
      month_low = within.2;
      month_high = within.3;
      day_low = omega arith;
      day_high = omega arith;
      number = omega arith;
    }

days_before_month-any : (y m : ℕ) → 1 ≤ m → m ≤ 12 → days_before_month y (m + 1) ≡ days_before_month y m + month_length y m
days_before_month-any y m low high =
    elim (cases_lt m 12) [
      | inl h ↦ days_before_month-next y m low (omega arith)
      | inr h ↦ let december : m ≡ 12 = omega arith in rw december (omega (arith, days_before_month-december y))
    ]

pub date_of_is : (n : ℕ) → IsDateOf n (date_of n)
date_of_is n =
    let y = year_of_day n in
    let begun = year_of_day_is n in
    let rest = n - days_before_year y in
    let next : y + 1 ≡ suc y = omega arith in
    let long = rw next at begun.1 in
    let year = days_before_year-suc y in
    let months = last_of_twelve (days_before_month y) rest (omega arith) (omega (arith, days_before_month-december y)) in
    date_of-parts n y rest (month_of_day y rest) (omega (arith, begun.0)) months (days_before_month-any y (month_of_day y rest) months.2 months.3)

-- a date with a number, by its month's number
number_by_month : (n : ℕ) (a : Date) → IsDateOf n a → (k : ℕ) → k ≡ 12 * a.year + (a.month - 1) → (first_of_month k + (a.day - 1) ≡ n) × (a.day ≤ length_of_month k)
number_by_month n a is k e =
    let year : k / 12 ≡ a.year = omega arith in
    let month : k % 12 + 1 ≡ a.month = omega arith in
    (rw (year, month) is.number, rw (year, month) is.day_high)

date_of_fields : (y m d year month day : ℕ) → y ≡ year → m ≡ month → d ≡ day → (let a : Date = record { year = y; month = m; day = d } in a) ≡ record { year = year; month = month; day = day }
date_of_fields y m d year month day e f g = rw (e, f, g) refl

-- one date has a number
pub date_unique : (n : ℕ) (a b : Date) → IsDateOf n a → IsDateOf n b → a ≡ b
date_unique n a b is also =
    let k = 12 * a.year + (a.month - 1) in
    let l = 12 * b.year + (b.month - 1) in
    let here = number_by_month n a is k refl in
    let there = number_by_month n b also l refl in
    let same : k ≡ l = elim (cases_order k l) [
      | inl e ↦ e
      | inr (inl lt) ↦ absurd (omega (arith, first_of_month-later k l lt))
      | inr (inr gt) ↦ absurd (omega (arith, first_of_month-later l k gt))
    ] in
    let year : a.year ≡ b.year = omega arith in
    let month : a.month ≡ b.month = omega arith in
    let first : first_of_month k ≡ first_of_month l = ap first_of_month same in
    date_of_fields a.year a.month a.day b.year b.month b.day year month (omega arith)

-- the tests of a date's parts, in plain variables
pub some_by_tests : (m d length n : ℕ) → 1 ≤ m → m ≤ 12 → 1 ≤ d → d ≤ length → (if (nat_le 1 m && nat_le m 12) && (nat_le 1 d && nat_le d length) then Some n else None) ≡ Some n
some_by_tests m d length n a b e f = grind (arith, nat_tests)
