-- Hexadecimal digits: their number, their values, and their letters.
use Rattle.std.proofs.Common.{◌≡◌, All, ℕ, zero, suc, ◌+◌, ◌-◌, ◌*◌, ◌/◌, ◌%◌, ◌^◌, ◌<◌, ◌≤◌, List, [], ◌∷◌, ◌++◌, length, map, take, drop, replicate, get_or, refl, sym, ap, ◌∙◌, arith, length-drop, zero-add}
use Rattle.std.specs.Char.{to_ascii_lowercase, digit_value}
use Rattle.std.specs.Int.{to_be_bytes, bytes_high_first, byte_at, w64, w128}
use Rattle.std.specs.Str.{str_to_ascii_lowercase}
use Rattle.std.specs.Str.Parse.{digits_value_after}
use Rattle.std.proofs.Math.ListN as lists
use Rattle.std.proofs.lemmas.List.{take-append-drop, get_or_default}
use Rattle.std.proofs.lemmas.List.FromFn.{get_or-range_with_len}
use Rattle.hex.specs.Hex.{encode_with, encode_lower, lower_digits, IsBytes}
use Rattle.hex.proofs.HexLemmas.{length-encode_with}
use Rattle.op_names.specs.Ids.{hex_of}

-- ---- the bytes of a number

byte_at_lt : (k n : ℕ) → byte_at k n < 256
byte_at_lt zero n = omega arith
byte_at_lt (suc k) n = omega arith

high_first_lt : (k n i : ℕ) → get_or (bytes_high_first k n) i 0 < 256
high_first_lt zero n i = omega arith
high_first_lt (suc k) n zero = byte_at_lt k n
high_first_lt (suc k) n (suc i) = high_first_lt k n i

pub IsBytes-to_be_bytes : (n : ℕ) → IsBytes (to_be_bytes w64 n)
IsBytes-to_be_bytes n i = high_first_lt 8 n i

pub IsBytes-to_be_bytes_16 : (n : ℕ) → All (λ b. b < 256) (to_be_bytes w128 n)
IsBytes-to_be_bytes_16 n i d h = rw (get_or_default (to_be_bytes w128 n) i d 0 h) (high_first_lt 16 n i)

-- ---- digits in lower case

lower_glyph : (d : ℕ) → to_ascii_lowercase (get_or lower_digits d 0) ≡ get_or lower_digits d 0
lower_glyph d = sym (lists.get_or-map to_ascii_lowercase lower_digits d 0)

pub lowercase-encode_lower : (bytes : List ℕ) → str_to_ascii_lowercase (encode_lower bytes) ≡ encode_lower bytes
unfolding encode_with
lowercase-encode_lower [] = refl
lowercase-encode_lower (b ∷ rest) =
    let high = lower_glyph (b / 16) in
    let low = lower_glyph (b % 16) in
    let behind = lowercase-encode_lower rest in
    cc (high, low, behind)

-- ---- the value of digits

value_of_glyph : (d : ℕ) → d < 16 → digit_value (get_or lower_digits d 0) ≡ d
value_of_glyph d h =
    let named : get_or (map digit_value lower_digits) d 36 ≡ 0 + d = get_or-range_with_len 0 16 d 36 h in
    sym (lists.get_or-map digit_value lower_digits d 0) ∙ named ∙ zero-add d

-- the number that bytes write behind a number, the highest of them first
unfoldable pub number_behind : ℕ → List ℕ → ℕ
number_behind n [] = n
number_behind n (b ∷ rest) = number_behind (n * 256 + b) rest

two_digits : (n b : ℕ) → b < 256 → (n * 16 + digit_value (get_or lower_digits (b / 16) 0)) * 16 + digit_value (get_or lower_digits (b % 16) 0) ≡ n * 256 + b
two_digits n b h = rw (value_of_glyph (b / 16) (omega arith), value_of_glyph (b % 16) (omega arith)) (omega arith)

pub digits_value-encode_lower : (bytes : List ℕ) (n : ℕ) → IsBytes bytes → digits_value_after 16 n (encode_lower bytes) ≡ number_behind n bytes
unfolding encode_with number_behind
digits_value-encode_lower [] n h = refl
digits_value-encode_lower (b ∷ rest) n h =
    ap (λ m. digits_value_after 16 m (encode_lower rest)) (two_digits n b (h 0)) ∙ digits_value-encode_lower rest (n * 256 + b) (λ i. h (suc i))

-- ---- the last digits of a number

pub length-hex_of : (width number : ℕ) → width ≤ 16 → length (hex_of width number) ≡ width
unfolding hex_of
length-hex_of width number h =
    length-drop (16 - width) (encode_lower (to_be_bytes w64 number)) ∙ ap (λ k. k - (16 - width)) (length-encode_with lower_digits (to_be_bytes w64 number)) ∙ omega arith

filled_up : (digits front : List ℕ) (k : ℕ) → take k digits ≡ front → front ++ drop k digits ≡ digits
filled_up digits front k h = rw (sym h) (take-append-drop k digits)

-- zeros in front of the last twelve digits of a small number make its sixteen digits
pub filled_12 : (number : ℕ) → number < 2 ^ 48 → replicate 4 48 ++ hex_of 12 number ≡ encode_lower (to_be_bytes w64 number)
unfolding hex_of encode_with
filled_12 number h =
    let first : number / 72057594037927936 % 256 ≡ 0 = omega arith in
    let second : number / 281474976710656 % 256 ≡ 0 = omega arith in
    filled_up (encode_lower (to_be_bytes w64 number)) (replicate 4 48) 4 (rw (first, second) refl)
