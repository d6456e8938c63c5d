-- The number of a day, against the day numbers of the calendar's crate, which are 0 for the first of January 1970.
use Rattle.std.proofs.Common.{◌≡◌, ◌≤◌, ◌<◌, ◌+◌, ◌-◌, ◌^◌, ℕ, zero, suc, ℤ, pos, negsuc, ◌+ℤ◌, ◌≤ℤ◌, unsigned_abs, to_z, of_z, w16, subst, refl, sym, ap, ◌∙◌, Some, arith}
use Rattle.std.proofs.lemmas.Int.{by_lt_z}
use borrow.Author.Differences.{up, down}
use Rattle.jiff_core.specs.Calendar.{day_count, days_in_month, IsEpochDay, IsYear}
use Rattle.jiff_core.specs.Date.{epoch_day}
use Rattle.jiff_core.specs.declared.civil.date.Date.{Date as CivilDate}
use Rattle.jiff_core.proofs.SignedLemmas.{signed_arith, back_small}
use Rattle.jiff_core.proofs.MarchLemmas.{day_count-early}
use Rattle.jiff_core.proofs.CalendarLemmas.{days_from_civil-day_count, day_count-next_year, day_count-next_month, day_count-day, day_count-lt_year}
use Rattle.jiff_core.proofs.DateLemmas.{civil, epoch_day_range}
use Rattle.op_time.specs.Calendar.{month_length, days_before_year, days_before_month, day_number, date_of, epoch, past_last_day, plain, day_of_date}
use Rattle.op_time.proofs.Days.{days_before_year-suc, days_before_month-next}
use Rattle.op_time.proofs.Dates.{date_of_is, date_unique, some_by_tests}

-- the days from the year -10000 to the year 0
day_count-year_zero : day_count (pos 0) 1 1 ≡ 3652425
day_count-year_zero = day_count-early (pos 0) 9999 1 1 refl (omega arith) (omega arith) (omega arith)

day_count-year : (y : ℕ) → day_count (pos y) 1 1 ≡ 3652425 + days_before_year y
day_count-year zero = day_count-year_zero
day_count-year (suc y) =
    let next : pos (suc y) ≡ pos y +ℤ pos 1 = omega (arith, signed_arith) in
    omega (arith, day_count-year y, days_before_year-suc y, day_count-next_year (pos y) (pos (suc y)) (omega (arith, signed_arith)) next)

day_count-month : (y m : ℕ) → m < 12 → day_count (pos y) (m + 1) 1 ≡ day_count (pos y) 1 1 + days_before_month y (m + 1)
day_count-month y zero h = let first : 0 + 1 ≡ 1 = omega arith in rw first (omega arith)
day_count-month y (suc m) h =
    let same : suc m + 1 ≡ m + 1 + 1 = omega arith in
    rw same (omega (arith, day_count-month y m (omega arith), day_count-next_month (pos y) (m + 1) (omega arith), days_before_month-next y (m + 1) (omega arith) (omega arith)))

-- both counts go on alike from the year 0
pub day_count-day_number : (y m d : ℕ) → 1 ≤ m → m ≤ 12 → 1 ≤ d → day_count (pos y) m d ≡ 3652425 + day_number (record { year = y; month = m; day = d })
day_count-day_number y m d low high first =
    let back : m - 1 + 1 ≡ m = omega arith in
    let month = rw back at (day_count-month y (m - 1) (omega arith)) in
    omega (arith, day_count-year y, day_count-day (pos y) m d 1 first (omega arith))

of_abs : (z : ℤ) → pos 0 ≤ℤ z → z ≡ pos (unsigned_abs z)
of_abs (pos n) h = refl
of_abs (negsuc n) h = absurd (omega (arith, signed_arith))

-- from the year 0 on the numbers differ by that of the first of January 1970
pub epoch_day-day_number : (date : CivilDate) → pos 0 ≤ℤ date.year → up (epoch_day date) + epoch ≡ down (epoch_day date) + day_number (plain date)
epoch_day-day_number date h =
    let year = of_abs date.year h in
    let count = rw (← year) at (day_count-day_number (unsigned_abs date.year) date.month date.day date.month_in.0 date.month_in.1 date.day_in.0) in
    omega (arith, signed_arith, days_from_civil-day_count date.year date.month date.day)

-- a date whose number is not negative lies after the year 0
pub year_of_epoch_day : (date : CivilDate) (n : ℕ) → epoch_day date ≡ pos n → pos 0 ≤ℤ date.year
year_of_epoch_day date n is =
    by_lt_z date.year (pos 0)
    (λ before. absurd (omega (arith, signed_arith, day_count-year_zero, days_from_civil-day_count date.year date.month date.day, day_count-lt_year date.year date.month date.day (pos 0) 1 1 (civil date) (omega arith) before)))
    (λ from. from)

-- and it is the date of that day
pub plain-date_of : (date : CivilDate) (n : ℕ) → epoch_day date ≡ pos n → plain date ≡ date_of (epoch + n)
plain-date_of date n is =
    let from = year_of_epoch_day date n is in
    let year = of_abs date.year from in
    let number = epoch_day-day_number date from in
    let DayWithin : ℤ → Type 0 = λ z. date.day ≤ days_in_month z date.month in
    let day_high = subst DayWithin year date.day_in.1 in
    date_unique (epoch + n) (plain date) (date_of (epoch + n)) (record { month_low = date.month_in.0; month_high = date.month_in.1; day_low = date.day_in.0; day_high = day_high; number = omega (arith, signed_arith) }) (date_of_is (epoch + n))

-- the same as one equation
pub epoch_day_sum : (date : CivilDate) → pos 0 ≤ℤ date.year → epoch_day date +ℤ pos epoch ≡ pos (day_number (plain date))
epoch_day_sum date h = omega (arith, signed_arith, epoch_day-day_number date h)

small_day : (z : ℤ) → IsEpochDay z → unsigned_abs z < 2 ^ 31
small_day (pos n) h = omega (arith, signed_arith)
small_day (negsuc n) h = omega (arith, signed_arith)

pub epoch_day_small : (date : CivilDate) → unsigned_abs (epoch_day date) < 2 ^ 31
epoch_day_small date = small_day (epoch_day date) (epoch_day_range date)

pub day_number_small : (date : CivilDate) → pos 0 ≤ℤ date.year → day_number (plain date) < 2 ^ 31
day_number_small date h = omega (arith, signed_arith, epoch_day-day_number date h, epoch_day_range date)

-- which is at most that of the last date
pub day_number_bound : (date : CivilDate) → pos 0 ≤ℤ date.year → day_number (plain date) < past_last_day
day_number_bound date h = omega (arith, signed_arith, epoch_day-day_number date h, epoch_day_range date)

-- a date of the calendar's crate is one
pub day_of_date-civil : (date : CivilDate) (y m d : ℕ) → date.year ≡ pos y → pos date.month ≡ pos m → pos date.day ≡ pos d → Some (day_number (plain date)) ≡ day_of_date (record { year = y; month = m; day = d })
day_of_date-civil date y m d year month day =
    let DayWithin : ℤ → Type 0 = λ z. date.day ≤ days_in_month z date.month in
    let is_month : date.month ≡ m = cc in
    let is_day : date.day ≡ d = cc in
    let is_year : unsigned_abs date.year ≡ y = ap unsigned_abs year in
    let within = subst DayWithin (year ∙ ap pos (sym is_year)) date.day_in.1 in
    rw (← is_year, ← is_month, ← is_day) (sym (some_by_tests date.month date.day (month_length (unsigned_abs date.year) date.month) (day_number (plain date)) date.month_in.0 date.month_in.1 date.day_in.0 within))

-- a year fits its type
small_year : (z : ℤ) → IsYear z → unsigned_abs z < 2 ^ 15
small_year (pos n) h = omega (arith, signed_arith)
small_year (negsuc n) h = omega (arith, signed_arith)

pub year_comes_back : (date : CivilDate) → to_z w16 (of_z w16 date.year) ≡ date.year
year_comes_back date = back_small w16 date.year (small_year date.year date.year_in)
