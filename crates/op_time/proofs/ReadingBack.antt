-- A moment's printed text is read as that moment.
use Rattle.std.proofs.Common.{◌≡◌, ◌≤◌, ◌<◌, ◌+◌, ◌-◌, ◌*◌, ◌/◌, ◌%◌, ◌&&◌, ◌++◌, ℕ, Bool, true, List, [], ◌∷◌, Some, None, Err, Option, ok_or, option_and_then, nat_le, if◌then◌else◌, codes, refl, ap, ◌∙◌, arith}
use Rattle.std.specs.Char.{is_ascii_digit, digit_value}
use Rattle.std.proofs.lemmas.Bool.Decides.{nat_tests}
use Rattle.op_time.specs.Calendar.{Date, date_of, day_of_date, month_length, epoch, day_milliseconds}
use Rattle.op_time.specs.Moments.{moment_or_none}
use Rattle.op_time.specs.declared.TheConstants.{LAST}
use Rattle.op_time.specs.declared.moments.MomentFault.TheVariants.{Shape, Range}
use Rattle.op_time.proofs.Days.{month_length_bounds}
use Rattle.op_time.proofs.Dates.{IsDateOf, date_of_is, year_of_day_small, some_by_tests}
use Rattle.std.specs.Result.{result_ok}
use Rattle.std.specs.Str.Parse.{digits_value}
use Rattle.op_time.specs.MomentTexts.{moment_of, moment_text, moment_at, date_text, time_text, digit, two, three, four, has_shape, clock_of, fraction_of, zone_of, day_in, time_in, offset_in, milliseconds_of, in_utc, moment_with}

digit-is : (n : ℕ) → is_ascii_digit (digit n) ≡ true
digit-is n = grind (arith, nat_tests)

digit-value : (n : ℕ) → digit_value (digit n) ≡ n % 10
digit-value n = grind (arith, nat_tests)

-- the text of a date and a time of day
abbrev pub stamp : Date → ℕ → List ℕ
stamp date ms = date_text date ++ codes "T" ++ time_text ms ++ codes "Z"

-- the bytes of a date and a time of day, one by one
pub bytes_of : (date : Date) (ms : ℕ) (b0 b1 b2 b3 b4 b5 b6 b7 b8 b9 b10 b11 b12 b13 b14 b15 b16 : ℕ) → b0 ≡ digit (date.year / 1000) → b1 ≡ digit (date.year / 100) → b2 ≡ digit (date.year / 10) → b3 ≡ digit (date.year) → b4 ≡ digit (date.month / 10) → b5 ≡ digit (date.month) → b6 ≡ digit (date.day / 10) → b7 ≡ digit (date.day) → b8 ≡ digit (ms / 3600000 / 10) → b9 ≡ digit (ms / 3600000) → b10 ≡ digit (ms / 60000 % 60 / 10) → b11 ≡ digit (ms / 60000 % 60) → b12 ≡ digit (ms / 1000 % 60 / 10) → b13 ≡ digit (ms / 1000 % 60) → b14 ≡ digit (ms % 1000 / 100) → b15 ≡ digit (ms % 1000 / 10) → b16 ≡ digit (ms % 1000) → (b0 ∷ b1 ∷ b2 ∷ b3 ∷ 45 ∷ b4 ∷ b5 ∷ 45 ∷ b6 ∷ b7 ∷ 84 ∷ b8 ∷ b9 ∷ 58 ∷ b10 ∷ b11 ∷ 58 ∷ b12 ∷ b13 ∷ 46 ∷ b14 ∷ b15 ∷ b16 ∷ 90 ∷ []) ≡ stamp date ms
bytes_of date ms b0 b1 b2 b3 b4 b5 b6 b7 b8 b9 b10 b11 b12 b13 b14 b15 b16 h0 h1 h2 h3 h4 h5 h6 h7 h8 h9 h10 h11 h12 h13 h14 h15 h16 = rw (h0, h1, h2, h3, h4, h5, h6, h7, h8, h9, h10, h11, h12, h13, h14, h15, h16) refl

has_shape-stamp : (date : Date) (ms : ℕ) → has_shape (stamp date ms) ≡ true
has_shape-stamp date ms = simp digit-is

-- what is cut from it
fraction_of-stamp : (date : Date) (ms : ℕ) → fraction_of (stamp date ms) ≡ three (ms % 1000)
fraction_of-stamp date ms = simp digit-is

zone_of-stamp : (date : Date) (ms : ℕ) → zone_of (stamp date ms) ≡ codes "Z"
zone_of-stamp date ms = simp digit-is

-- the numbers that digits write
number-two : (n : ℕ) → n < 100 → digits_value 10 (two n) ≡ n
number-two n h = simp digit-value (omega arith)

number-three : (n : ℕ) → n < 1000 → digits_value 10 (three n) ≡ n
number-three n h = simp digit-value (omega arith)

number-four : (n : ℕ) → n < 10000 → digits_value 10 (four n) ≡ n
number-four n h = simp digit-value (omega arith)

day_of_date-is : (n y m d year month day : ℕ) → y ≡ year → m ≡ month → d ≡ day → IsDateOf n (record { year = year; month = month; day = day }) → day_of_date (record { year = y; month = m; day = d }) ≡ Some n
day_of_date-is n y m d year month day e f g is =
    rw (e, f, g) (some_by_tests month day (month_length year month) _ is.month_low is.month_high is.day_low is.day_high ∙ ap Some is.number)

day_in-stamp : (n : ℕ) (date : Date) (ms : ℕ) → IsDateOf n date → date.year < 10000 → day_in (clock_of (stamp date ms)) ≡ Some n
day_in-stamp n date ms is small =
    let length_bound = month_length_bounds date.year date.month in
    let short : date.day < 100 = omega (arith, is.day_high, length_bound.1) in
    let month : date.month < 100 = omega (arith, is.month_high) in
    day_of_date-is n _ _ _ date.year date.month date.day (number-four date.year small) (number-two date.month month) (number-two date.day short) is

some_time : (hour minute second n : ℕ) → hour ≤ 23 → minute ≤ 59 → second ≤ 59 → (if nat_le hour 23 && (nat_le minute 59 && nat_le second 59) then Some n else None) ≡ Some n
some_time hour minute second n a b c = grind (arith, nat_tests)

time_by_tests : (h m s hour minute second : ℕ) → h ≡ hour → m ≡ minute → s ≡ second → hour ≤ 23 → minute ≤ 59 → second ≤ 59 → (if nat_le h 23 && (nat_le m 59 && nat_le s 59) then Some ((h * 60 + m) * 60 + s) else None) ≡ Some ((hour * 60 + minute) * 60 + second)
time_by_tests h m s hour minute second e f g a b c = rw (e, f, g) (some_time hour minute second ((hour * 60 + minute) * 60 + second) a b c)

time_in-stamp : (date : Date) (ms : ℕ) → ms < day_milliseconds → time_in (clock_of (stamp date ms)) ≡ Some (ms / 1000)
time_in-stamp date ms h =
    let hour : ms / 3600000 ≤ 23 = omega arith in
    let minute : ms / 60000 % 60 ≤ 59 = omega arith in
    let second : ms / 1000 % 60 ≤ 59 = omega arith in
    let total : (ms / 3600000 * 60 + ms / 60000 % 60) * 60 + ms / 1000 % 60 ≡ ms / 1000 = omega arith in
    time_by_tests _ _ _ (ms / 3600000) (ms / 60000 % 60) (ms / 1000 % 60) (number-two (ms / 3600000) (omega arith)) (number-two (ms / 60000 % 60) (omega arith)) (number-two (ms / 1000 % 60) (omega arith)) hour minute second ∙ ap Some total

milliseconds_of-three : (n : ℕ) → n < 1000 → milliseconds_of (three n) ≡ n
milliseconds_of-three n h = omega (arith, number-three n h)

-- the chain of optional parts, and the choice by shape, in plain variables
chained : (a b c : Option ℕ) (f : ℕ → ℕ → ℕ → Option ℕ) (x y z : ℕ) → a ≡ Some x → b ≡ Some y → c ≡ Some z → option_and_then (λ day. option_and_then (λ time. option_and_then (λ offset. f day time offset) c) b) a ≡ f x y z
chained a b c f x y z h k l = rw (h, k, l) refl

chosen : (shape : Bool) (o : Option ℕ) (m : ℕ) → shape ≡ true → o ≡ Some m → result_ok (if shape then ok_or o Range else Err Shape) ≡ Some m
chosen shape o m h k = rw (h, k) refl

moment_or_none-some : (n : ℕ) → n ≤ LAST → moment_or_none n ≡ Some n
moment_or_none-some n h = grind (arith, nat_tests)

moment_at-some : (n t : ℕ) → n ≡ epoch * day_milliseconds + t → t ≤ LAST → moment_at n ≡ Some t
moment_at-some n t e h =
    let first : nat_le (epoch * day_milliseconds) n ≡ true = grind (arith, nat_tests) in
    let back : n - epoch * day_milliseconds ≡ t = omega arith in
    rw (first, back) (moment_or_none-some t h)

with_parts : (clock fraction zone : List ℕ) (day seconds ms t : ℕ) → day_in clock ≡ Some day → time_in clock ≡ Some seconds → fraction ≡ three ms → zone ≡ codes "Z" → ms < 1000 → (day * 86400 + seconds) * 1000 + ms ≡ epoch * day_milliseconds + t → t ≤ LAST → moment_with clock fraction zone ≡ Some t
with_parts clock fraction zone day seconds ms t d s f z small e last =
    let thousandths = milliseconds_of-three ms small in
    let total = in_utc 90 0 ((day * 86400 + seconds) * 1000 + milliseconds_of (three ms)) in
    let is : total ≡ epoch * day_milliseconds + t = omega (arith, thousandths) in
    rw (f, z) (chained (day_in clock) (time_in clock) (offset_in (codes "Z")) (λ day time offset. moment_at (in_utc 90 offset ((day * 86400 + time) * 1000 + milliseconds_of (three ms)))) day seconds 0 d s refl ∙ moment_at-some total t is last)

moment_of-stamp : (n : ℕ) (date : Date) (ms t : ℕ) → IsDateOf n date → date.year < 10000 → ms < day_milliseconds → n * day_milliseconds + ms ≡ epoch * day_milliseconds + t → t ≤ LAST → moment_of (stamp date ms) ≡ Some t
moment_of-stamp n date ms t is small within e last =
    let text = stamp date ms in
    let parts = with_parts (clock_of text) (fraction_of text) (zone_of text) n (ms / 1000) (ms % 1000) t (day_in-stamp n date ms is small) (time_in-stamp date ms within) (fraction_of-stamp date ms) (zone_of-stamp date ms) (omega arith) (omega arith) last in
    chosen (has_shape text) (moment_with (clock_of text) (fraction_of text) (zone_of text)) t (has_shape-stamp date ms) parts

-- reading back what was printed
pub moment_of-text : (t : ℕ) → t ≤ LAST → moment_of (moment_text t) ≡ Some t
moment_of-text t last =
    let n = epoch + t / day_milliseconds in
    moment_of-stamp n (date_of n) (t % day_milliseconds) t (date_of_is n) (year_of_day_small n (omega arith)) (omega arith) (omega arith) last
