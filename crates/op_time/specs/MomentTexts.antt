-- Moments as texts: RFC 3339, section 5.6, in a profile of this project: seconds end at 59, hours of an offset at 23.
use Rattle.std.specs.Prelude.{ℕ, Bool, true, ◌+◌, ◌-◌, ◌*◌, ◌/◌, ◌%◌, ◌^◌, ◌==◌, ◌&&◌, ◌||◌, nat_le, if◌then◌else◌, List, [], ◌∷◌, ◌++◌, length, take, drop, codes, Some, None, Err, slice_index, ok_or, option_and_then}
use Rattle.std.specs.declared.option.Option.{Option}
use Rattle.std.specs.declared.result.Result.{Result}
use Rattle.std.specs.Result.{result_ok}
use Rattle.std.specs.Str.Parse.{digits_value}
use Rattle.op_time.specs.Calendar.{Date, day_of_date, epoch, day_milliseconds}
use Rattle.op_time.specs.Digits.{digits_of, number_at, fits}
use Rattle.op_time.specs.Moments.{moment_or_none}
use Rattle.op_time.specs.Starts.{date_of_moment}
use Rattle.op_time.specs.declared.moments.MomentFault.{MomentFault}
use Rattle.op_time.specs.declared.moments.MomentFault.TheVariants.{Shape, Range}

-- the date and the time of day
abbrev pub clock_of : List ℕ → List ℕ
clock_of text = take 19 text

-- the digits of the fraction, if a point stands behind the time of day
abbrev pub fraction_of : List ℕ → List ℕ
fraction_of text = if slice_index text 19 == 46 then digits_of (drop 20 text) else []

-- the zone
abbrev pub zone_of : List ℕ → List ℕ
zone_of text = if slice_index text 19 == 46 then drop (20 + length (fraction_of text)) text else drop 19 text

-- the fraction has one to nine digits, if there is one
abbrev pub is_fraction : List ℕ → Bool
is_fraction text =
    if slice_index text 19 == 46 then nat_le 1 (length (fraction_of text)) && nat_le (length (fraction_of text)) 9
    else true

-- the zone is `Z`, or an offset
abbrev pub is_zone : List ℕ → Bool
is_zone zone = fits (codes "Z") zone || fits (codes "sdd:dd") zone

-- digits, letters and signs stand in their places
abbrev pub has_shape : List ℕ → Bool
has_shape text = fits (codes "dddd-dd-ddTdd:dd:dd") (clock_of text) && (is_fraction text && is_zone (zone_of text))

-- the number of the day
abbrev pub day_in : List ℕ → Option ℕ
day_in clock =
    day_of_date (record { year = number_at clock 0 4; month = number_at clock 5 2; day = number_at clock 8 2 })

-- the seconds since midnight
abbrev pub time_in : List ℕ → Option ℕ
time_in clock =
    let hour = number_at clock 11 2 in
    let minute = number_at clock 14 2 in
    let second = number_at clock 17 2 in
    if nat_le hour 23 && (nat_le minute 59 && nat_le second 59) then Some ((hour * 60 + minute) * 60 + second) else None

-- the minutes of an offset, and 0 for `Z`
abbrev pub offset_in : List ℕ → Option ℕ
offset_in zone =
    let hour = number_at zone 1 2 in
    let minute = number_at zone 4 2 in
    if nat_le hour 23 && nat_le minute 59 then Some (hour * 60 + minute) else None

-- the milliseconds of a fraction of a second, rounded down
abbrev pub milliseconds_of : List ℕ → ℕ
milliseconds_of fraction = digits_value 10 (take 3 fraction) * 10 ^ (3 - length (take 3 fraction))

-- Milliseconds in UTC: a local time is ahead by an offset with a `+`, and behind by one with a `-` (RFC 3339, section 4.2).
abbrev pub in_utc : (sign offset local : ℕ) → ℕ
in_utc sign offset local = if sign == 45 then local + offset * 60000 else local - offset * 60000

-- milliseconds since the first of January of the year 0, as a moment
abbrev pub moment_at : ℕ → Option ℕ
moment_at ms = if nat_le (epoch * day_milliseconds) ms then moment_or_none (ms - epoch * day_milliseconds) else None

infixl 10 ◌>>=◌
abbrev pub ◌>>=◌ : {A B : Type 0} → Option A → (A → Option B) → Option B
o >>= f = option_and_then f o

-- what a date with a time, a fraction and a zone name, where each is in its range
abbrev pub moment_with : (clock fraction zone : List ℕ) → Option ℕ
moment_with clock fraction zone = do
  day ← day_in clock
  time ← time_in clock
  offset ← offset_in zone
  moment_at (in_utc (slice_index zone 0) offset ((day * 86400 + time) * 1000 + milliseconds_of fraction))

-- the moment that a text names, or what is wrong with it
abbrev pub moment_in : List ℕ → Result ℕ MomentFault
moment_in text =
    if has_shape text then ok_or (moment_with (clock_of text) (fraction_of text) (zone_of text)) Range else Err Shape

-- the moment that a text names
abbrev pub moment_of : List ℕ → Option ℕ
moment_of text = result_ok (moment_in text)

-- the last decimal digit of a number, and its last two, three and four
abbrev pub digit : ℕ → ℕ
digit n = 48 + n % 10

abbrev pub two : ℕ → List ℕ
two n = digit (n / 10) ∷ digit n ∷ []

abbrev pub three : ℕ → List ℕ
three n = digit (n / 100) ∷ two n

abbrev pub four : ℕ → List ℕ
four n = digit (n / 1000) ∷ three n

-- a date
abbrev pub date_text : Date → List ℕ
date_text date = four date.year ++ codes "-" ++ two date.month ++ codes "-" ++ two date.day

-- the time of day at a number of milliseconds since midnight
abbrev pub time_text : ℕ → List ℕ
time_text ms =
    two (ms / 3600000) ++ codes ":" ++ two (ms / 60000 % 60) ++ codes ":" ++ two (ms / 1000 % 60) ++ codes "." ++ three (ms % 1000)

-- a moment, in UTC with milliseconds
abbrev pub moment_text : ℕ → List ℕ
moment_text t = date_text (date_of_moment t) ++ codes "T" ++ time_text (t % day_milliseconds) ++ codes "Z"
