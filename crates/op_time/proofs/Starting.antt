-- The starts of intervals rise, by a second at least.
use Rattle.std.proofs.Common.{◌≡◌, ◌≤◌, ◌<◌, ◌+◌, ◌-◌, ◌*◌, ◌/◌, ◌%◌, ℕ, zero, suc, refl, arith, nat_le, inl, inr, Some, None, if◌then◌else◌}
use Rattle.std.proofs.lemmas.Bool.{cases_lt}
use Rattle.std.proofs.lemmas.Bool.Decides.{nat_tests}
use Rattle.op_time.specs.Calendar.{Date, day_number, date_of, months_later, epoch, past_last_day, day_milliseconds}
use Rattle.op_time.specs.Interval.{Interval, IsInterval}
use Rattle.op_time.specs.Moments.{moment_or_none}
use Rattle.op_time.specs.Starts.{date_of_moment, nominal_start, start_of, StartsRise}
use Rattle.op_time.specs.declared.TheConstants.{LAST}
use Rattle.op_time.proofs.Days.{month_length_bounds}
use Rattle.op_time.proofs.Dates.{IsDateOf, date_of_is}
use Rattle.op_time.proofs.Months.{first_of_month-later}

-- a later month's day comes later
pub months_later-rises : (date : Date) (n l : ℕ) → 1 ≤ date.day → n < l → day_number (months_later date n) < day_number (months_later date l)
months_later-rises date n l day h =
    let k = 12 * date.year + (date.month - 1) + n in
    let later = first_of_month-later k (12 * date.year + (date.month - 1) + l) (omega arith) in
    omega (arith, month_length_bounds (k / 12) (k % 12 + 1))

-- no month later is the same day
pub months_later-zero : (n : ℕ) (date : Date) → IsDateOf n date → day_number (months_later date 0) ≡ n
months_later-zero n date is =
    let year : (12 * date.year + (date.month - 1) + 0) / 12 ≡ date.year = omega arith in
    let month : (12 * date.year + (date.month - 1) + 0) % 12 + 1 ≡ date.month = omega arith in
    rw (year, month) (omega arith)

-- the day on which interval j starts, whatever its seconds
abbrev pub day_of_start : Interval → ℕ → ℕ
day_of_start i j = day_number (months_later (date_of_moment i.start) (j * i.months))

day_of_start-zero : (i : Interval) → day_of_start i 0 ≡ epoch + i.start / day_milliseconds
day_of_start-zero i =
    let n = epoch + i.start / day_milliseconds in
    let none : 0 * i.months ≡ 0 = omega arith in
    rw none (months_later-zero n (date_of n) (date_of_is n))

day_of_start-next : (i : Interval) (j : ℕ) → 0 < i.months → day_of_start i j < day_of_start i (j + 1)
day_of_start-next i j some =
    let n = epoch + i.start / day_milliseconds in
    let next : (j + 1) * i.months ≡ j * i.months + i.months = omega arith in
    months_later-rises (date_of n) (j * i.months) ((j + 1) * i.months) (date_of_is n).day_low (omega arith)

day_of_start-stays : (i : Interval) (j : ℕ) → i.months ≡ 0 → day_of_start i (j + 1) ≡ day_of_start i j
day_of_start-stays i j none =
    let here : j * i.months ≡ 0 = rw none (omega arith) in
    let there : (j + 1) * i.months ≡ 0 = rw none (omega arith) in
    rw (here, there)

day_of_start-low : (i : Interval) (j : ℕ) → epoch ≤ day_of_start i j
day_of_start-low i zero = omega (arith, day_of_start-zero i)
day_of_start-low i (suc j) =
    let next : suc j ≡ j + 1 = omega arith in
    elim (cases_lt 0 i.months) [
      | inl some ↦ rw next (omega (arith, day_of_start-low i j, day_of_start-next i j some))
      | inr none ↦ let zero_months : i.months ≡ 0 = omega arith in
          rw next (omega (arith, day_of_start-low i j, day_of_start-stays i j zero_months))
    ]

pub nominal_start-zero : (i : Interval) → nominal_start i 0 ≡ i.start
nominal_start-zero i = omega (arith, day_of_start-zero i)

-- the next interval starts a second later at least
pub nominal_start-next : (i : Interval) (j : ℕ) → 0 < i.months + i.seconds → nominal_start i j + 1000 ≤ nominal_start i (j + 1)
nominal_start-next i j takes_time =
    let next : (j + 1) * i.seconds ≡ j * i.seconds + i.seconds = omega arith in
    elim (cases_lt 0 i.months) [
      | inl some ↦ omega (arith, day_of_start-low i j, day_of_start-next i j some)
      | inr none ↦ let zero_months : i.months ≡ 0 = omega arith in
          omega (arith, day_of_start-low i j, day_of_start-stays i j zero_months)
    ]

nominal_start-after : (i : Interval) (j n : ℕ) → 0 < i.months + i.seconds → nominal_start i j + 1000 * n ≤ nominal_start i (j + n)
nominal_start-after i j zero takes_time = let same : j + 0 ≡ j = omega arith in rw same (omega arith)
nominal_start-after i j (suc n) takes_time =
    let next : j + suc n ≡ j + n + 1 = omega arith in
    rw next (omega (arith, nominal_start-after i j n takes_time, nominal_start-next i (j + n) takes_time))

-- and each later one accordingly
pub nominal_start-later : (i : Interval) (j k : ℕ) → 0 < i.months + i.seconds → j ≤ k → nominal_start i j + 1000 * (k - j) ≤ nominal_start i k
nominal_start-later i j k takes_time h =
    let there : j + (k - j) ≡ k = omega arith in rw there at (nominal_start-after i j (k - j) takes_time)

-- a number where it is at most the last, in plain variables
up_to-some : (n last : ℕ) → n ≤ last → (if nat_le n last then Some n else None) ≡ Some n
up_to-some n last h = grind (arith, nat_tests)

up_to-is : (n last t : ℕ) → (if nat_le n last then Some n else None) ≡ Some t → (n ≤ last) × (n ≡ t)
up_to-is n last t is = grind (arith, nat_tests)

past-none : (n last : ℕ) → last < n → (if nat_le n last then Some n else None) ≡ None
past-none n last h = grind (arith, nat_tests)

pub start_of-some : (i : Interval) (j : ℕ) → nominal_start i j ≤ LAST → start_of i j ≡ Some (nominal_start i j)
start_of-some i j h = up_to-some (nominal_start i j) LAST h

start_of-is : (i : Interval) (j t : ℕ) → start_of i j ≡ Some t → (nominal_start i j ≤ LAST) × (nominal_start i j ≡ t)
start_of-is i j t is = up_to-is (nominal_start i j) LAST t is

pub starts_rise : (i : Interval) → IsInterval i → StartsRise i
starts_rise i is j k t h there =
    let at_k = start_of-is i k t there in
    let apart = nominal_start-later i j k is.takes_time (omega arith) in
    (nominal_start i j, start_of-some i j (omega arith), omega arith)

-- the first interval starts at the start
pub start_of-zero : (i : Interval) → IsInterval i → start_of i 0 ≡ Some i.start
start_of-zero i is =
    let first = nominal_start-zero i in
    let low = is.start_is_moment in
    rw (start_of-some i 0 (omega arith), first)

-- a start past the last moment
pub start_of-none : (i : Interval) (j : ℕ) → LAST < nominal_start i j → start_of i j ≡ None
start_of-none i j h = past-none (nominal_start i j) LAST h

-- by the seconds alone
pub nominal_start-by_seconds : (i : Interval) (j : ℕ) → LAST < j * i.seconds → LAST < nominal_start i j
nominal_start-by_seconds i j h = omega arith

-- or by the day alone
pub nominal_start-by_day : (i : Interval) (j : ℕ) → past_last_day ≤ day_of_start i j → LAST < nominal_start i j
nominal_start-by_day i j h = omega arith

-- and where the day is known
pub start_of-day : (i : Interval) (j day : ℕ) → day ≡ day_of_start i j → start_of i j ≡ moment_or_none ((day - epoch) * day_milliseconds + i.start % day_milliseconds + j * i.seconds * 1000)
start_of-day i j day e = rw e refl
