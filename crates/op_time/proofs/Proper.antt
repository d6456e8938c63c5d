-- What can be read is a repeating interval: it starts at a moment, takes time, and its count is within bounds.
use Rattle.std.proofs.Common.{◌≡◌, ◌≤◌, ◌<◌, ◌+◌, ◌-◌, ◌*◌, ◌==◌, ℕ, Bool, true, false, List, [], ◌∷◌, length, drop, Option, Some, None, Result, Ok, Err, nat_le, nat_lt, if◌then◌else◌, ok_or, option_and_then, slice_index, subst, refl, arith}
use Rattle.std.specs.Char.{is_ascii_digit, digit_value}
use Rattle.std.specs.List.{list_all}
use Rattle.std.specs.Option.{ForSome}
use Rattle.std.specs.Result.{result_ok}
use Rattle.std.specs.Str.Parse.{digits_value}
use Rattle.std.proofs.lemmas.Bool.Decides.{nat_tests}
use Rattle.std.proofs.lemmas.Str.Parse.{digits_value-take-le}
use Rattle.op_time.specs.Calendar.{epoch, day_milliseconds}
use Rattle.op_time.specs.Interval.{Interval, IsInterval}
use Rattle.op_time.specs.Moments.{moment_or_none}
use Rattle.op_time.specs.MomentTexts.{moment_in, moment_of, moment_with, moment_at, has_shape, clock_of, fraction_of, zone_of, day_in, time_in, offset_in, in_utc, milliseconds_of}
use Rattle.op_time.specs.Texts.{parts_in, lasting, duration_of, is_count, count_of, has_parts, head_of, tail_of, interval_with, interval_of_parts, interval_of, ◌>>?◌}
use Rattle.op_time.specs.declared.intervals.IntervalFault.{IntervalFault}
use Rattle.op_time.specs.declared.intervals.IntervalFault.TheVariants as faults
use Rattle.op_time.specs.declared.TheConstants.{LAST}
use Rattle.op_time.specs.declared.intervals.Duration.{Duration}
use Rattle.op_time.specs.declared.moments.MomentFault.{MomentFault}
use Rattle.op_time.specs.declared.moments.MomentFault.TheVariants.{Shape, Range}
use Rattle.op_time.proofs.Fitting.{and_true}

-- a moment is at most the last one
moment_or_none-bound : (n m : ℕ) → moment_or_none n ≡ Some m → m ≤ LAST
moment_or_none-bound n m h = grind (arith, nat_tests)

moment_at-bound : (n m : ℕ) → moment_at n ≡ Some m → m ≤ LAST
moment_at-bound n m h = if_some (nat_le (epoch * day_milliseconds) n) (moment_or_none (n - epoch * day_milliseconds)) m h (moment_or_none-bound (n - epoch * day_milliseconds) m)
  where
    if_some : (b : Bool) (o : Option ℕ) (m : ℕ) → (if b then o else None) ≡ Some m → (o ≡ Some m → m ≤ LAST) → m ≤ LAST
    if_some true o m h k = k h
    if_some false o m h k = absurd (cc)

chain-bound : (a b c : Option ℕ) (f : ℕ → ℕ → ℕ → Option ℕ) (m : ℕ) → ((x y z : ℕ) → f x y z ≡ Some m → m ≤ LAST) → option_and_then (λ day. option_and_then (λ time. option_and_then (λ offset. f day time offset) c) b) a ≡ Some m → m ≤ LAST
chain-bound None b c f m bound h = absurd (cc)
chain-bound (Some x) None c f m bound h = absurd (cc)
chain-bound (Some x) (Some y) None f m bound h = absurd (cc)
chain-bound (Some x) (Some y) (Some z) f m bound h = bound x y z h

moment_with-bound : (clock fraction zone : List ℕ) (m : ℕ) → moment_with clock fraction zone ≡ Some m → m ≤ LAST
moment_with-bound clock fraction zone m h =
    chain-bound (day_in clock) (time_in clock) (offset_in zone) (λ day time offset. moment_at (in_utc (slice_index zone 0) offset ((day * 86400 + time) * 1000 + milliseconds_of fraction))) m (λ day time offset. moment_at-bound (in_utc (slice_index zone 0) offset ((day * 86400 + time) * 1000 + milliseconds_of fraction)) m) h

in_shape : (shape : Bool) (o : Option ℕ) (m : ℕ) → (let r : Result ℕ MomentFault = if shape then ok_or o Range else Err Shape in r) ≡ Ok m → o ≡ Some m
in_shape true (Some x) m h = cc
in_shape true None m h = absurd (cc)
in_shape false o m h = absurd (cc)

pub moment_in-bound : (text : List ℕ) (m : ℕ) → moment_in text ≡ Ok m → m ≤ LAST
moment_in-bound text m h =
    moment_with-bound (clock_of text) (fraction_of text) (zone_of text) m (in_shape (has_shape text) (moment_with (clock_of text) (fraction_of text) (zone_of text)) m h)

-- a duration takes time
chosen : (b : Bool) (x d : Duration) → (if b then Some x else None) ≡ Some d → (b ≡ true) × (x ≡ d)
chosen true x d h = (refl, cc)
chosen false x d h = absurd (cc)

positive : (n : ℕ) → nat_lt 0 n ≡ true → 0 < n
positive n h = grind (arith, nat_tests)

lasting-takes_time : (x d : Duration) → lasting x ≡ Some d → 0 < d.months + d.seconds
lasting-takes_time x d h =
    let found = chosen (nat_lt 0 (x.months + x.seconds)) x d h in
    let Lasts : Duration → Type 0 = λ d. 0 < d.months + d.seconds in
    subst Lasts found.1 (positive (x.months + x.seconds) found.0)

duration-takes_time : (b : Bool) (o : Option Duration) (d : Duration) → (if b then option_and_then lasting o else None) ≡ Some d → 0 < d.months + d.seconds
duration-takes_time true (Some x) d h = lasting-takes_time x d h
duration-takes_time true None d h = absurd (cc)
duration-takes_time false o d h = absurd (cc)

pub duration_of-takes_time : (text : List ℕ) (d : Duration) → duration_of text ≡ Some d → 0 < d.months + d.seconds
duration_of-takes_time text d h = duration-takes_time (slice_index text 0 == 80) (parts_in (drop 1 text)) d h

-- a count is from 1 to its limit
count-low : (digits : List ℕ) → is_count digits ≡ true → 1 ≤ digits_value 10 digits
count-low [] h = absurd (cc)
count-low (d ∷ ds) h =
    let parts = and_true (list_all is_ascii_digit (d ∷ ds)) _ h in
    let digit = (and_true (is_ascii_digit d) (list_all is_ascii_digit ds) parts.0).0 in
    let positive = (and_true (nat_lt 48 d) _ parts.1).0 in
    let first : 1 ≤ digit_value d = grind (arith, nat_tests) in
    omega (arith, digits_value-take-le 10 (d ∷ ds) 1 (omega arith))

count-high : (digits : List ℕ) → is_count digits ≡ true → digits_value 10 digits ≤ 1000000000
count-high digits h =
    let parts = and_true (list_all is_ascii_digit digits) _ h in
    let first = and_true (nat_lt 48 (slice_index digits 0)) _ parts.1 in
    let last = and_true (nat_le (length digits) 10) (nat_le (digits_value 10 digits) 1000000000) first.1 in
    at_most (digits_value 10 digits) 1000000000 last.1
  where
    at_most : (n m : ℕ) → nat_le n m ≡ true → n ≤ m
    at_most n m h = grind (arith, nat_tests)

-- what a count may be, in plain variables
count-is : (empty counts : Bool) (v : ℕ) (count : Option ℕ) (n : ℕ) → (if empty then Some None else (if counts then Some (Some v) else None)) ≡ Some count → count ≡ Some n → (counts ≡ true) × (v ≡ n)
count-is true counts v count n h is = absurd (cc)
count-is false true v count n h is = (refl, cc)
count-is false false v count n h is = absurd (cc)

pub count_of-within : (digits : List ℕ) (count : Option ℕ) → count_of digits ≡ Some count → ForSome count (λ n. 1 ≤ n) × ForSome count (λ n. n ≤ 1000000000)
count_of-within digits count h = (
  λ n is. let found = count-is (length digits == 0) (is_count digits) (digits_value 10 digits) count n h is in rw (← found.1) (count-low digits found.0),
  λ n is. let found = count-is (length digits == 0) (is_count digits) (digits_value 10 digits) count n h is in rw (← found.1) (count-high digits found.0),
)

-- so the parts that are read make an interval
pub proper : (count : Option ℕ) (start : ℕ) (duration : Duration) (counts starts lasts : List ℕ) → moment_in starts ≡ Ok start → duration_of lasts ≡ Some duration → count_of counts ≡ Some count → IsInterval (record { count = count; start = start; months = duration.months; seconds = duration.seconds })
proper count start duration counts starts lasts s d c =
    let within = count_of-within counts count c in
    record {
      start_is_moment = moment_in-bound starts start s;
      takes_time = duration_of-takes_time lasts duration d;
      count_low = within.0;
      count_high = within.1;
    }

read_ok : (r : Result ℕ MomentFault) (m : ℕ) → result_ok r ≡ Some m → r ≡ Ok m
read_ok (Ok x) m h = cc
read_ok (Err e) m h = absurd (cc)

all_read : (s : Option ℕ) (d : Option Duration) (c : Option (Option ℕ)) (i : Interval) → ((start : ℕ) (duration : Duration) (count : Option ℕ) → s ≡ Some start → d ≡ Some duration → c ≡ Some count → IsInterval (interval_with count start duration)) → result_ok (ok_or s faults.Start >>? λ start. ok_or d faults.Duration >>? λ duration. ok_or c faults.Count >>? λ count. Ok (interval_with count start duration)) ≡ Some i → IsInterval i
all_read None d c i is h = absurd (cc)
all_read (Some start) None c i is h = absurd (cc)
all_read (Some start) (Some duration) None i is h = absurd (cc)
all_read (Some start) (Some duration) (Some count) i is h =
    let same : interval_with count start duration ≡ i = cc in
    subst IsInterval same (is start duration count refl refl refl)

in_parts : (b : Bool) (r : Result Interval IntervalFault) (i : Interval) → result_ok (if b then r else Err faults.Shape) ≡ Some i → result_ok r ≡ Some i
in_parts true r i h = h
in_parts false r i h = absurd (cc)

pub interval_of_is : (text : List ℕ) (i : Interval) → interval_of text ≡ Some i → IsInterval i
interval_of_is text i h =
    let counts = drop 1 (head_of text) in
    let starts = head_of (tail_of text) in
    let lasts = tail_of (tail_of text) in
    all_read (moment_of starts) (duration_of lasts) (count_of counts) i (λ start duration count s d c. proper count start duration counts starts lasts (read_ok (moment_in starts) start s) d c) (in_parts (has_parts text) (interval_of_parts counts starts lasts) i h)
