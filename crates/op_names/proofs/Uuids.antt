-- An identifier as a UUID: its number, its text, and what is read of it in either case.
use Rattle.std.proofs.Common.{◌≡◌, ℕ, zero, suc, ◌+◌, ◌*◌, ◌/◌, ◌%◌, ◌^◌, ◌<◌, ◌==◌, List, [], ◌∷◌, ◌++◌, length, map, slice_index, codes, Some, None, Result, IsOk, IfOk, ◌↔◌, All, inl, refl, sym, ap, ◌∙◌, arith}
use Rattle.std.specs.Char.{to_ascii_lowercase}
use Rattle.std.specs.Int.{to_be_bytes, from_be_bytes, w128}
use Rattle.std.specs.List.{list_all}
use Rattle.std.specs.Result.{result_ok}
use Rattle.std.specs.Str.{str_to_ascii_lowercase}
use Rattle.std.proofs.Math.ListN as lists
use Rattle.std.proofs.lemmas.Bool.Decides.{nat_tests}
use Rattle.std.proofs.lemmas.List.{length-map, map-append}
use Rattle.hex.specs.Hex.{encode_with, lower_digits}
use Rattle.uuid.specs.Text.{by_index, hex_digit, hyphen, hyphenated_text, lower, is_hex_digit, value_of, byte_of_digits, digits_of, has_hyphens, hyphen_place, parsed, parsed_simple, parsed_hyphenated}
use Rattle.uuid.proofs.TextLemmas.{by_index_cong, table_at}
use Rattle.uuid.proofs.RoundTrips.{parse_gives, parses_hyphenated_text}
use Rattle.uuid.proofs.OrderLemmas.{from_be_bytes-to_be_bytes_16}
use Rattle.op_names.specs.Ids.{hex_of, id_text, kind_number, kind_in}
use Rattle.op_names.specs.declared.Kind.{Kind}
use Rattle.op_names.specs.declared.Kind.TheVariants.{Incoming, Quote, Outgoing, Grant, Event, Address}
use Rattle.op_names.specs.declared.Id.{Id}
use Rattle.op_names.proofs.Digits.{IsBytes-to_be_bytes_16}
use Rattle.op_names.proofs.IdTexts.{kind_small, kind_in-kind_number, length-id_text}

-- the two halves of an identifier's number, and the number
abbrev pub high_half : ℕ → ℕ
high_half kind = kind * 2 ^ 32 + 0x8000

abbrev pub low_half : ℕ → ℕ
low_half number = 0x8000 * 2 ^ 48 + number % 2 ^ 48

abbrev pub word_of : (kind number : ℕ) → ℕ
word_of kind number = high_half kind * 2 ^ 64 + low_half number

abbrev pub bytes_of : Id → List ℕ
bytes_of id = to_be_bytes w128 (word_of (kind_number id.kind) id.number)

-- ---- its text

-- the two digits of a byte
abbrev pub AreDigits : ℕ → Type 0
AreDigits b = (hex_digit lower (b / 16 % 16) ≡ slice_index lower_digits (b / 16)) × (hex_digit lower (b % 16) ≡ slice_index lower_digits (b % 16))

digits_of_byte : (b : ℕ) → b < 256 → AreDigits b
digits_of_byte b h =
    let high : b / 16 % 16 ≡ b / 16 = omega arith in
    (ap (hex_digit lower) high ∙ sym (table_at lower (b / 16) 0 (inl refl) (omega arith)), sym (table_at lower (b % 16) 0 (inl refl) (omega arith)))

-- the digits of a kind
kind_digits : (kind : Kind) → hex_of 8 (kind_number kind) ≡ codes "000000" ++ hex_digit lower (kind_number kind / 16 % 16) ∷ hex_digit lower (kind_number kind % 16) ∷ []
unfolding hex_of encode_with
kind_digits Incoming = refl
kind_digits Quote = refl
kind_digits Outgoing = refl
kind_digits Grant = refl
kind_digits Event = refl
kind_digits Address = refl

abbrev byte : ℕ → ℕ → ℕ
byte worth number = number / worth % 256

-- the bytes, the kind last of the first four and the number in the last six
bytes_are : (kind number : ℕ) → kind < 256
    → to_be_bytes w128 (word_of kind number)
    ≡ 0 ∷ 0 ∷ 0 ∷ kind ∷ 0 ∷ 0 ∷ 128 ∷ 0 ∷ 128 ∷ 0 ∷ byte 1099511627776 number ∷ byte 4294967296 number ∷ byte 16777216 number ∷ byte 65536 number ∷ byte 256 number ∷ number % 256 ∷ []
bytes_are kind number small =
    let word = word_of kind number in
    let b0 : byte 1329227995784915872903807060280344576 word ≡ 0 = omega arith in
    let b1 : byte 5192296858534827628530496329220096 word ≡ 0 = omega arith in
    let b2 : byte 20282409603651670423947251286016 word ≡ 0 = omega arith in
    let b3 : byte 79228162514264337593543950336 word ≡ kind = omega arith in
    let b4 : byte 309485009821345068724781056 word ≡ 0 = omega arith in
    let b5 : byte 1208925819614629174706176 word ≡ 0 = omega arith in
    let b6 : byte 4722366482869645213696 word ≡ 128 = omega arith in
    let b7 : byte 18446744073709551616 word ≡ 0 = omega arith in
    let b8 : byte 72057594037927936 word ≡ 128 = omega arith in
    let b9 : byte 281474976710656 word ≡ 0 = omega arith in
    let b10 : byte 1099511627776 word ≡ byte 1099511627776 number = omega arith in
    let b11 : byte 4294967296 word ≡ byte 4294967296 number = omega arith in
    let b12 : byte 16777216 word ≡ byte 16777216 number = omega arith in
    let b13 : byte 65536 word ≡ byte 65536 number = omega arith in
    let b14 : byte 256 word ≡ byte 256 number = omega arith in
    let b15 : word % 256 ≡ number % 256 = omega arith in
    cc (b0, b1, b2, b3, b4, b5, b6, b7, b8, b9, b10, b11, b12, b13, b14, b15)

-- the text of such bytes
text_is : (kind a b c d e f : ℕ) → AreDigits a → AreDigits b → AreDigits c → AreDigits d → AreDigits e → AreDigits f
    → hyphenated_text lower (0 ∷ 0 ∷ 0 ∷ kind ∷ 0 ∷ 0 ∷ 128 ∷ 0 ∷ 128 ∷ 0 ∷ a ∷ b ∷ c ∷ d ∷ e ∷ f ∷ [])
    ≡ (codes "000000" ++ hex_digit lower (kind / 16 % 16) ∷ hex_digit lower (kind % 16) ∷ []) ++ codes "-0000-8000-8000-" ++ encode_with lower_digits (a ∷ b ∷ c ∷ d ∷ e ∷ f ∷ [])
unfolding by_index encode_with
text_is kind a b c d e f h0 h1 h2 h3 h4 h5 =
    let (a0, a1) = h0 in
    let (b0, b1) = h1 in
    let (c0, c1) = h2 in
    let (d0, d1) = h3 in
    let (e0, e1) = h4 in
    let (f0, f1) = h5 in
    cc (a0, a1, b0, b1, c0, c1, d0, d1, e0, e1, f0, f1)

last_twelve : (number : ℕ)
    → hex_of 12 number
    ≡ encode_with lower_digits (byte 1099511627776 number ∷ byte 4294967296 number ∷ byte 16777216 number ∷ byte 65536 number ∷ byte 256 number ∷ number % 256 ∷ [])
unfolding hex_of encode_with
last_twelve number = refl

pub printed : (id : Id) → hyphenated_text lower (bytes_of id) ≡ id_text id
printed id =
    let kind = kind_number id.kind in
    let number = id.number in
    let digits : (worth : ℕ) → AreDigits (byte worth number) = λ worth. digits_of_byte (byte worth number) (omega arith) in
    ap (hyphenated_text lower) (bytes_are kind number (kind_small id.kind))
    ∙ text_is kind _ _ _ _ _ _ (digits 1099511627776) (digits 4294967296) (digits 16777216) (digits 65536) (digits 256) (digits_of_byte (number % 256) (omega arith))
    ∙ rw (kind_digits id.kind, last_twelve number) refl

-- ---- either case

low_hyphen : (c : ℕ) → (to_ascii_lowercase c == hyphen) ≡ (c == hyphen)
low_hyphen c = grind (arith, nat_tests)

low_digit : (c : ℕ) → is_hex_digit (to_ascii_lowercase c) ≡ is_hex_digit c
low_digit c = grind (arith, nat_tests)

low_value : (c : ℕ) → value_of (to_ascii_lowercase c) ≡ value_of c
low_value c = grind (arith, nat_tests)

low_at : (text : List ℕ) (k : ℕ) → slice_index (str_to_ascii_lowercase text) k ≡ to_ascii_lowercase (slice_index text k)
low_at text k = lists.get_or-map to_ascii_lowercase text k 0

low_hyphens : (text : List ℕ) → has_hyphens (str_to_ascii_lowercase text) ≡ has_hyphens text
low_hyphens text =
    let at : (k : ℕ) → (slice_index (str_to_ascii_lowercase text) k == hyphen) ≡ (slice_index text k == hyphen) = λ k.
    ap (λ c. c == hyphen) (low_at text k) ∙ low_hyphen (slice_index text k) in
    rw (at 8, at 13, at 18, at 23) refl

mapped : (n : ℕ) (f g : ℕ → ℕ) → by_index n (λ k. f (g k)) ≡ map f (by_index n g)
unfolding by_index
mapped zero f g = refl
mapped (suc n) f g = ap (λ xs. xs ++ f (g n) ∷ []) (mapped n f g) ∙ sym (map-append f (by_index n g) (g n ∷ []))

low_digits : (text : List ℕ) → digits_of (str_to_ascii_lowercase text) ≡ str_to_ascii_lowercase (digits_of text)
low_digits text =
    by_index_cong 32 _ _ (λ i within. low_at text (hyphen_place i)) ∙ mapped 32 to_ascii_lowercase (λ i. slice_index text (hyphen_place i))

all_digits : (hex : List ℕ) → list_all is_hex_digit (str_to_ascii_lowercase hex) ≡ list_all is_hex_digit hex
all_digits [] = refl
all_digits (c ∷ rest) = rw (low_digit c, all_digits rest) refl

low_simple : (hex : List ℕ) → parsed_simple (str_to_ascii_lowercase hex) ≡ parsed_simple hex
low_simple hex =
    let value : (k : ℕ) → value_of (slice_index (str_to_ascii_lowercase hex) k) ≡ value_of (slice_index hex k) = λ k.
    ap value_of (low_at hex k) ∙ low_value (slice_index hex k) in
    let bytes : by_index 16 (byte_of_digits (str_to_ascii_lowercase hex)) ≡ by_index 16 (byte_of_digits hex) =
    by_index_cong 16 _ _ (λ i within. rw (value (2 * i), value (2 * i + 1)) refl) in
    rw (length-map hex to_ascii_lowercase, all_digits hex, bytes) refl

low_parsed : (text : List ℕ) → parsed_hyphenated (str_to_ascii_lowercase text) ≡ parsed_hyphenated text
low_parsed text =
    rw (length-map text to_ascii_lowercase, low_hyphens text, low_digits text, low_simple (digits_of text)) refl

-- ---- what is read

are_bytes : (id : Id) → All (λ b. b < 256) (bytes_of id)
are_bytes id = IsBytes-to_be_bytes_16 (word_of (kind_number id.kind) id.number)

-- the text of an identifier, in either case, is read as its bytes
pub reads : (text : List ℕ) (id : Id) → str_to_ascii_lowercase text ≡ id_text id → parsed text ≡ Some (bytes_of id)
reads text id is =
    let size : length text ≡ 36 = sym (length-map text to_ascii_lowercase) ∙ ap length is ∙ length-id_text id in
    at_36 text size ∙ sym (low_parsed text) ∙ ap parsed_hyphenated (is ∙ sym (printed id))
    ∙ sym (parses_hyphenated_text lower (bytes_of id) (inl refl) refl (are_bytes id))
  where
    at_36 : (s : List ℕ) → length s ≡ 36 → parsed s ≡ parsed_hyphenated s
    at_36 s len = rw len refl

pub is_read : {E : Type 0} (r : Result (List ℕ) E) (text : List ℕ) (id : Id) → (IsOk r ↔ ((u : List ℕ) × (parsed text ≡ Some u))) → IfOk r (λ u. Some u ≡ parsed text)
    → str_to_ascii_lowercase text ≡ id_text id → result_ok r ≡ Some (bytes_of id)
is_read r text id ok bytes is = ap result_ok (parse_gives r text (bytes_of id) ok bytes (sym (reads text id is)))

pub none_is_some : {T : Type 0} (x : T) → None ≡ Some x → ⊥
none_is_some x e = cc e

pub some_is : {T : Type 0} (x y : T) → Some x ≡ Some y → x ≡ y
some_is x y e = cc e

-- the kind and the number of what is read
pub parts : (id : Id) (bytes : List ℕ) (high low : ℕ) → bytes ≡ bytes_of id → high ≡ from_be_bytes w128 bytes / 2 ^ 64 → low ≡ from_be_bytes w128 bytes % 2 ^ 64
    → (high / 2 ^ 32 ≡ kind_number id.kind) × (low % 2 ^ 48 ≡ id.number % 2 ^ 48)
parts id bytes high low same upper below =
    let small = kind_small id.kind in
    let word : from_be_bytes w128 bytes ≡ word_of (kind_number id.kind) id.number =
    ap (from_be_bytes w128) same ∙ from_be_bytes-to_be_bytes_16 (word_of (kind_number id.kind) id.number) (omega (arith, small)) in
    go (from_be_bytes w128 bytes) (kind_number id.kind) id.number small word upper below
  where
    go : (word kind number : ℕ) → kind < 256 → word ≡ word_of kind number → high ≡ word / 2 ^ 64 → low ≡ word % 2 ^ 64 → (high / 2 ^ 32 ≡ kind) × (low % 2 ^ 48 ≡ number % 2 ^ 48)
    go word kind number small is upper below = (omega arith, omega arith)

-- what is found has the kind and the number of what is read
pub found_is : (id : Id) (bytes : List ℕ) (high low : ℕ) (kind : Kind) → id.number < 2 ^ 48 → bytes ≡ bytes_of id
    → high ≡ from_be_bytes w128 bytes / 2 ^ 64 → low ≡ from_be_bytes w128 bytes % 2 ^ 64 → Some kind ≡ kind_in (high / 2 ^ 32)
    → record { kind = kind; number = low % 2 ^ 48 } ≡ id
found_is id bytes high low kind small same upper below read =
    let of = parts id bytes high low same upper below in
    let is : kind ≡ id.kind = some_is kind id.kind (read ∙ ap kind_in of.0 ∙ kind_in-kind_number id.kind) in
    let number : low % 2 ^ 48 ≡ id.number = omega (arith, of.1) in
    rw (is, number) refl
