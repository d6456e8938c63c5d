-- A text that names an interval is ASCII.
use Rattle.std.proofs.Common.{◌≡◌, ℕ, zero, suc, ◌+◌, ◌<◌, ◌≤◌, Bool, true, false, cond, List, [], ◌∷◌, length, take, drop, get_or, refl, sym, ap, subst, arith, codes, ⊎_elim, ◌⊎◌, inl, inr, Err}
use Rattle.std.specs.Prelude.{Some, None, ◌&&◌, ◌||◌, ◌==◌, not, nat_lt, nat_le, option_and_then, ok_or}
use Rattle.std.specs.List.{list_all, list_any, zip, position_or_len, prefix_len, before_first, after_first}
use Rattle.std.specs.Char.{is_ascii_digit}
use Rattle.std.specs.Option.{is_some}
use Rattle.std.specs.Result.{result_ok}
use Rattle.std.specs.Str.{IsAscii, IsUtf8}
use Rattle.std.specs.Str.Parse.{digits_value}
use Rattle.std.specs.declared.option.Option.{Option}
use Rattle.std.specs.declared.result.Result.{Result}
use Rattle.std.proofs.Math.Seq.{drop-cons}
use Rattle.std.proofs.Math.ListN.{drop_of_length-le}
use Rattle.std.proofs.lemmas.Bool.Decides.{nat_tests}
use Rattle.std.proofs.lemmas.List.{take-append-drop, drop-drop}
use Rattle.std.proofs.lemmas.Str.{IsAscii-append, IsUtf8-from_ascii}
use Rattle.op_time.specs.Digits.{digits_of, fits, fits_byte}
use Rattle.op_time.specs.MomentTexts.{moment_of, has_shape, clock_of, zone_of, is_fraction, is_zone}
use Rattle.op_time.specs.Interval.{Interval}
use Rattle.op_time.specs.declared.intervals.IntervalFault.{IntervalFault}
use Rattle.op_time.specs.declared.intervals.IntervalFault.TheVariants as faults
use Rattle.op_time.specs.declared.moments.MomentFault.{MomentFault}
use Rattle.op_time.specs.declared.moments.MomentFault.TheVariants.{Shape}
use Rattle.op_time.specs.Texts.{◌>>?◌, part, parts, weeks_in, times_in, calendar_in, parts_in, duration_of, is_count, count_of, head_of, tail_of, has_parts, interval_of_parts, interval_of}

-- ---- lists of bytes below 128

nothing : IsAscii []
nothing zero = omega arith
nothing (suc i) = omega arith

one_more : (b : ℕ) (xs : List ℕ) → b < 128 → IsAscii xs → IsAscii (b ∷ xs)
one_more b xs h all zero = h
one_more b xs h all (suc i) = all i

glue : (n : ℕ) (xs : List ℕ) → IsAscii (take n xs) → IsAscii (drop n xs) → IsAscii xs
glue n xs front back = subst IsAscii (take-append-drop n xs) (IsAscii-append (take n xs) (drop n xs) front back)

below_or_past : (n m : ℕ) → (n < m) ⊎ (m ≤ n)
below_or_past n zero = inr (omega arith)
below_or_past zero (suc m) = inl (omega arith)
below_or_past (suc n) (suc m) = ⊎_elim (λ l. inl (omega (arith, l))) (λ l. inr (omega (arith, l))) (below_or_past n m)

from_byte : (n : ℕ) (xs : List ℕ) → get_or xs n 0 < 128 → IsAscii (drop (n + 1) xs) → IsAscii (drop n xs)
from_byte n xs h back =
    ⊎_elim
    (λ l. let next : n + 1 ≡ suc n = omega arith in
    subst IsAscii (sym (drop-cons xs n 0 l)) (one_more (get_or xs n 0) (drop (suc n) xs) h (subst (λ k. IsAscii (drop k xs)) next back)))
    (λ l. subst IsAscii (sym (drop_of_length-le xs l)) nothing) (below_or_past n (length xs))

cut : (n : ℕ) (xs : List ℕ) → IsAscii (take n xs) → get_or xs n 0 < 128 → IsAscii (drop (n + 1) xs) → IsAscii xs
cut n xs front h back = glue n xs front (from_byte n xs h back)

-- ---- bytes that pass a test

at_step : (p : ℕ → Bool) (b : Bool) (x : ℕ) (xs : List ℕ) (n : ℕ) → p x ≡ b → ((y : ℕ) → p y ≡ true → y < 128) → get_or xs n 0 < 128 → get_or (x ∷ xs) (cond (not b) (1 + n) 0) 0 < 128
at_step p true x xs n e small rest = small x e
at_step p false x xs n e small rest = let next : suc n ≡ 1 + n = omega arith in subst (λ k. get_or (x ∷ xs) k 0 < 128) next rest

-- the first byte that passes, or the end
first_small : (p : ℕ → Bool) (xs : List ℕ) → ((y : ℕ) → p y ≡ true → y < 128) → get_or xs (position_or_len p xs) 0 < 128
first_small p [] small = omega arith
first_small p (x ∷ xs) small = at_step p (p x) x xs (position_or_len p xs) refl small (first_small p xs small)

split : (p : ℕ → Bool) (xs : List ℕ) → ((y : ℕ) → p y ≡ true → y < 128) → IsAscii (before_first p xs) → IsAscii (after_first p xs) → IsAscii xs
split p xs small before after = cut (position_or_len p xs) xs before (first_small p xs small) after

front_step : (p : ℕ → Bool) (b : Bool) (x : ℕ) (xs : List ℕ) (n : ℕ) → p x ≡ b → ((y : ℕ) → p y ≡ true → y < 128) → IsAscii (take n xs) → IsAscii (take (cond b (1 + n) 0) (x ∷ xs))
front_step p true x xs n e small rest = let next : suc n ≡ 1 + n = omega arith in subst (λ k. IsAscii (take k (x ∷ xs))) next (one_more x (take n xs) (small x e) rest)
front_step p false x xs n e small rest = nothing

front_small : (p : ℕ → Bool) (xs : List ℕ) → ((y : ℕ) → p y ≡ true → y < 128) → IsAscii (take (prefix_len p xs) xs)
front_small p [] small = nothing
front_small p (x ∷ xs) small = front_step p (p x) x xs (prefix_len p xs) refl small (front_small p xs small)

take_length : (n : ℕ) (xs : List ℕ) → take (length (take n xs)) xs ≡ take n xs
take_length zero xs = refl
take_length (suc n) [] = refl
take_length (suc n) (x ∷ xs) = ap (λ ys. x ∷ ys) (take_length n xs)

both : (p q : Bool) → (p && q) ≡ true → (p ≡ true) × (q ≡ true)
both true q h = (refl, h)
both false q h = absurd (let e : false ≡ true = h in cc)

all_small : (p : ℕ → Bool) (xs : List ℕ) → ((y : ℕ) → p y ≡ true → y < 128) → list_all p xs ≡ true → IsAscii xs
all_small p [] small h = nothing
all_small p (x ∷ xs) small h = let parts = both (p x) (list_all p xs) h in one_more x xs (small x parts.0) (all_small p xs small parts.1)

digit_small : (b : ℕ) → is_ascii_digit b ≡ true → b < 128
digit_small b h = grind (arith, nat_tests)

is_byte : (m n : ℕ) → (m == n) ≡ true → m ≡ n
is_byte m n h = grind (arith, nat_tests)

equal_small : (c : ℕ) → c < 128 → (b : ℕ) → (b == c) ≡ true → b < 128
equal_small c l b h = omega (arith, is_byte b c h, l)

digits_small : (text : List ℕ) → IsAscii (digits_of text)
digits_small text = front_small is_ascii_digit text digit_small

-- ---- options

some_is : {X : Type 0} (x y : X) → Some x ≡ Some y → x ≡ y
some_is x y h = cc

-- the first of two steps, and the second
and_then_some : {X Y : Type 0} (f : X → Option Y) (o : Option X) (y : Y) → option_and_then f o ≡ Some y → (x : X) × (o ≡ Some x) × (f x ≡ Some y)
and_then_some f None y h = absurd (let e : None ≡ Some y = h in cc)
and_then_some f (Some x) y h = (x, refl, h)

if_some : {X : Type 0} (b : Bool) (o : Option X) (y : X) → cond b o None ≡ Some y → (b ≡ true) × (o ≡ Some y)
if_some true o y h = (refl, h)
if_some false o y h = absurd (let e : None ≡ Some y = h in cc)

unless_some : {X : Type 0} (b : Bool) (o : Option X) (y : X) → cond b None o ≡ Some y → o ≡ Some y
unless_some true o y h = absurd (let e : None ≡ Some y = h in cc)
unless_some false o y h = h

no_length : (xs : List ℕ) → (length xs == 0) ≡ true → IsAscii xs
no_length [] h = nothing
no_length (x ∷ xs) h = absurd (let e = is_byte (length (x ∷ xs)) 0 h in omega (arith, e))

-- ---- numbers with letters

part_step : (letter : ℕ) (text : List ℕ) (b : Bool) (n : ℕ) (rest : List ℕ) (c : Bool) (number : ℕ) → letter < 128 → (get_or text (length (digits_of text)) 0 == letter) ≡ b
    → cond {A = Option (ℕ × List ℕ)} b (cond {A = Option (ℕ × List ℕ)} c (Some (number, drop (length (digits_of text) + 1) text)) None) (Some (0, text)) ≡ Some (n, rest) → IsAscii rest → IsAscii text
part_step letter text true n rest c number small at h back =
    let found : ℕ × List ℕ = (number, drop (length (digits_of text) + 1) text) in
    let wanted : ℕ × List ℕ = (n, rest) in
    let some = (if_some c (Some found) wanted h).1 in
    let is : drop (length (digits_of text) + 1) text ≡ rest = ap (λ p. p.1) (some_is found wanted some) in
    let front : IsAscii (take (length (digits_of text)) text) = subst IsAscii (sym (take_length (prefix_len is_ascii_digit text) text)) (digits_small text) in
    cut (length (digits_of text)) text front (equal_small letter small (get_or text (length (digits_of text)) 0) at) (subst IsAscii (sym is) back)
part_step letter text false n rest c number small at h back =
    let found : ℕ × List ℕ = (0, text) in
    let wanted : ℕ × List ℕ = (n, rest) in
    let is : text ≡ rest = ap (λ p. p.1) (some_is found wanted h) in
    subst IsAscii (sym is) back

part_small : (letter : ℕ) (text : List ℕ) (x : ℕ × List ℕ) → letter < 128 → part letter text ≡ Some x → IsAscii x.1 → IsAscii text
part_small letter text (n, rest) small h back =
    part_step letter text (get_or text (length (digits_of text)) 0 == letter) n rest (nat_le 1 (length (digits_of text)) && nat_le (length (digits_of text)) 6) (digits_value 10 (digits_of text)) small refl h back

parts_small : (a b c : ℕ) (text : List ℕ) (y : ℕ × ℕ × ℕ) → a < 128 → b < 128 → c < 128 → parts a b c text ≡ Some y → IsAscii text
parts_small a b c text y sa sb sc h =
    let x = and_then_some _ (part a text) y h in
    let z = and_then_some _ (part b x.0.1) y x.2 in
    let w = and_then_some _ (part c z.0.1) y z.2 in
    let end = no_length w.0.1 (if_some (length w.0.1 == 0) _ y w.2).0 in
    part_small a text x.0 sa x.1 (part_small b x.0.1 z.0 sb z.1 (part_small c z.0.1 w.0 sc w.1 end))

-- ---- durations

and_then_there : {X Y : Type 0} (f : X → Option Y) (o : Option X) → is_some (option_and_then f o) ≡ true → (x : X) × (o ≡ Some x) × (is_some (f x) ≡ true)
and_then_there f None h = absurd (let e : false ≡ true = h in cc)
and_then_there f (Some x) h = (x, refl, h)

if_there : {X : Type 0} (b : Bool) (o : Option X) → is_some (cond b o None) ≡ true → (b ≡ true) × (is_some o ≡ true)
if_there true o h = (refl, h)
if_there false o h = absurd (let e : false ≡ true = h in cc)

weeks_small : (text : List ℕ) → is_some (weeks_in text) ≡ true → IsAscii text
weeks_small text h =
    let x = and_then_there _ (part 87 text) h in
    part_small 87 text x.0 (omega arith) x.1 (no_length x.0.1 (if_there (length x.0.1 == 0) _ x.2).0)

times_small : (text : List ℕ) (t : ℕ × ℕ × ℕ) → times_in text ≡ Some t → IsAscii (after_first (λ b. b == 84) text)
times_small text t h =
    let time = after_first (λ b. b == 84) text in
    parts_small 72 77 83 time t (omega arith) (omega arith) (omega arith) (unless_some (list_any (λ b. b == 84) text && (length time == 0)) (parts 72 77 83 time) t h)

calendar_small : (text : List ℕ) → is_some (calendar_in text) ≡ true → IsAscii text
calendar_small text h =
    let x = and_then_there _ (parts 89 77 68 (before_first (λ b. b == 84) text)) h in
    let t = and_then_there _ (times_in text) x.2 in
    split (λ b. b == 84) text (equal_small 84 (omega arith))
    (parts_small 89 77 68 (before_first (λ b. b == 84) text) x.0 (omega arith) (omega arith) (omega arith) x.1) (times_small text t.0 t.1)

in_step : (b : Bool) (text : List ℕ) → is_some (cond b (weeks_in text) (calendar_in text)) ≡ true → IsAscii text
in_step true text h = weeks_small text h
in_step false text h = calendar_small text h

duration_small : (text : List ℕ) → is_some (duration_of text) ≡ true → IsAscii text
duration_small text h =
    let first = if_there (get_or text 0 0 == 80) _ h in
    let x = and_then_there _ (parts_in (drop 1 text)) first.1 in
    cut 0 text nothing (equal_small 80 (omega arith) (get_or text 0 0) first.0) (in_step (list_any (λ b. b == 87) (drop 1 text)) (drop 1 text) (ap is_some x.1))

-- ---- moments

or_cases : (p q : Bool) → (p || q) ≡ true → (p ≡ true) ⊎ (q ≡ true)
or_cases true q h = inl refl
or_cases false q h = inr h

letter_small : (p b : ℕ) → ((p == 84) || (p == 90)) ≡ true → (b == p + 32) ≡ true → b < 128
letter_small p b h e =
    let same = is_byte b (p + 32) e in
    ⊎_elim (λ t. let z = is_byte p 84 t in omega (arith, same, z)) (λ t. let z = is_byte p 90 t in omega (arith, same, z)) (or_cases (p == 84) (p == 90) h)

byte_step : (x y z : Bool) (p b : ℕ) → p < 128 → ((p == 84) || (p == 90)) ≡ z
    → cond x (is_ascii_digit b) (cond y ((b == 43) || (b == 45)) (cond z ((b == p) || (b == p + 32)) (b == p))) ≡ true → b < 128
byte_step true y z p b small is h = digit_small b h
byte_step false true z p b small is h =
    ⊎_elim (λ t. equal_small 43 (omega arith) b t) (λ t. equal_small 45 (omega arith) b t) (or_cases (b == 43) (b == 45) h)
byte_step false false true p b small is h =
    ⊎_elim (λ t. equal_small p small b t) (λ t. letter_small p b is t) (or_cases (b == p) (b == p + 32) h)
byte_step false false false p b small is h = equal_small p small b h

byte_small : (p b : ℕ) → p < 128 → fits_byte p b ≡ true → b < 128
byte_small p b small h = byte_step (p == 100) (p == 115) ((p == 84) || (p == 90)) p b small refl h

fits_from : (pattern text : List ℕ) → length pattern ≡ length text → IsAscii pattern → list_all (λ p. fits_byte p.0 p.1) (zip pattern text) ≡ true → IsAscii text
fits_from pattern [] size small h = nothing
fits_from [] (b ∷ text) size small h = absurd (omega (arith, size))
fits_from (p ∷ pattern) (b ∷ text) size small h =
    let parts = both (fits_byte p b) (list_all (λ q. fits_byte q.0 q.1) (zip pattern text)) h in
    one_more b text (byte_small p b (small 0) parts.0) (fits_from pattern text (omega (arith, size)) (λ i. small (suc i)) parts.1)

fits_small : (pattern text : List ℕ) → IsAscii pattern → fits pattern text ≡ true → IsAscii text
fits_small pattern text small h =
    let parts = both (length pattern == length text) (list_all (λ p. fits_byte p.0 p.1) (zip pattern text)) h in
    fits_from pattern text (is_byte (length pattern) (length text) parts.0) small parts.1

less_small : (b : ℕ) → nat_lt b 128 ≡ true → b < 128
less_small b h = grind (arith, nat_tests)

literal : (text : List ℕ) → list_all (λ b. nat_lt b 128) text ≡ true → IsAscii text
literal text h = all_small (λ b. nat_lt b 128) text less_small h

zone_small : (zone : List ℕ) → is_zone zone ≡ true → IsAscii zone
zone_small zone h =
    ⊎_elim (λ t. fits_small (codes "Z") zone (literal (codes "Z") refl) t) (λ t. fits_small (codes "sdd:dd") zone (literal (codes "sdd:dd") refl) t)
    (or_cases (fits (codes "Z") zone) (fits (codes "sdd:dd") zone) h)

behind_clock : (b : Bool) (text : List ℕ) → (get_or text 19 0 == 46) ≡ b
    → IsAscii (cond b (drop (20 + length (cond b (digits_of (drop 20 text)) [])) text) (drop 19 text)) → IsAscii (drop 19 text)
behind_clock true text is zone =
    let rest = drop 20 text in
    let front : IsAscii (take (length (digits_of rest)) rest) = subst IsAscii (sym (take_length (prefix_len is_ascii_digit rest) rest)) (digits_small rest) in
    let back : IsAscii (drop (length (digits_of rest)) rest) = subst IsAscii (sym (drop-drop (length (digits_of rest)) 20 text)) zone in
    from_byte 19 text (equal_small 46 (omega arith) (get_or text 19 0) is) (glue (length (digits_of rest)) rest front back)
behind_clock false text is zone = zone

shape_of : (b : Bool) (r : Result ℕ MomentFault) (t : ℕ) → result_ok (cond b r (Err Shape)) ≡ Some t → b ≡ true
shape_of true r t h = refl
shape_of false r t h = absurd (let e : None ≡ Some t = h in cc)

moment_small : (text : List ℕ) (t : ℕ) → moment_of text ≡ Some t → IsAscii text
moment_small text t h =
    let shape = shape_of (has_shape text) _ t h in
    let parts = both (fits (codes "dddd-dd-ddTdd:dd:dd") (clock_of text)) (is_fraction text && is_zone (zone_of text)) shape in
    let zone = (both (is_fraction text) (is_zone (zone_of text)) parts.1).1 in
    glue 19 text (fits_small (codes "dddd-dd-ddTdd:dd:dd") (clock_of text) (literal (codes "dddd-dd-ddTdd:dd:dd") refl) parts.0)
    (behind_clock (get_or text 19 0 == 46) text refl (zone_small (zone_of text) zone))

-- ---- intervals

count_step : (b c : Bool) (digits : List ℕ) (count : Option ℕ) (y : Option ℕ) → (length digits == 0) ≡ b → is_count digits ≡ c
    → cond b (Some None) (cond c (Some count) None) ≡ Some y → IsAscii digits
count_step true c digits count y is e h = no_length digits is
count_step false true digits count y is e h =
    all_small is_ascii_digit digits digit_small (both (list_all is_ascii_digit digits) _ e).0
count_step false false digits count y is e h = absurd (let f : None ≡ Some y = h in cc)

count_small : (digits : List ℕ) (y : Option ℕ) → count_of digits ≡ Some y → IsAscii digits
count_small digits y h = count_step (length digits == 0) (is_count digits) digits (Some (digits_value 10 digits)) y refl refl h

next_some : {X Y : Type 0} (o : Option X) (fault : IntervalFault) (f : X → Result Y IntervalFault) (y : Y) → result_ok (ok_or o fault >>? f) ≡ Some y → (x : X) × (o ≡ Some x) × (result_ok (f x) ≡ Some y)
next_some None fault f y h = absurd (let e : None ≡ Some y = h in cc)
next_some (Some x) fault f y h = (x, refl, h)

parts_step : (b : Bool) (r : Result Interval IntervalFault) (i : Interval) → result_ok (cond b r (Err faults.Shape)) ≡ Some i → (b ≡ true) × (result_ok r ≡ Some i)
parts_step true r i h = (refl, h)
parts_step false r i h = absurd (let e : None ≡ Some i = h in cc)

interval_small : (text : List ℕ) (i : Interval) → interval_of text ≡ Some i → IsAscii text
interval_small text i h =
    let head = head_of text in
    let tail = tail_of text in
    let whole = parts_step (has_parts text) (interval_of_parts (drop 1 head) (head_of tail) (tail_of tail)) i h in
    let begins = (both _ _ (both _ _ whole.0).1).1 in
    let start = next_some (moment_of (head_of tail)) faults.Start _ i whole.1 in
    let duration = next_some (duration_of (tail_of tail)) faults.Duration _ i start.2 in
    let count = next_some (count_of (drop 1 head)) faults.Count _ i duration.2 in
    let slash = equal_small 47 (omega arith) in
    split (λ b. b == 47) text slash
    (cut 0 head nothing (equal_small 82 (omega arith) (get_or head 0 0) begins) (count_small (drop 1 head) count.0 count.1))
    (split (λ b. b == 47) tail slash (moment_small (head_of tail) start.0 start.1) (duration_small (tail_of tail) (ap is_some duration.1)))

there_is : {X : Type 0} (o : Option X) → is_some o ≡ true → (x : X) × (o ≡ Some x)
there_is None h = absurd (let e : false ≡ true = h in cc)
there_is (Some x) h = (x, refl)

-- a text that names an interval is UTF-8
pub interval_is_utf8 : (text : List ℕ) → is_some (interval_of text) ≡ true → IsUtf8 text
interval_is_utf8 text h = let i = there_is (interval_of text) h in IsUtf8-from_ascii text (interval_small text i.0 i.1)
