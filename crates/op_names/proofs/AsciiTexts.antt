-- Texts that are ASCII: those of a test that only ASCII passes, words, clients, and the texts of identifiers.
use Rattle.std.proofs.Common.{◌≡◌, ◌-◌, ◌<◌, ◌≤◌, ℕ, zero, suc, Bool, true, None, Some, List, [], ◌∷◌, ◌++◌, length, take, codes, refl, sym, subst, inl, inr, arith}
use Rattle.std.specs.Prelude.{◌&&◌, nat_le, nat_lt}
use Rattle.std.specs.Char.{to_ascii_lowercase}
use Rattle.std.specs.Int.{to_be_bytes, w64}
use Rattle.std.specs.List.{list_all}
use Rattle.std.specs.Str.{IsAscii, IsUtf8, bytes_eq, str_to_ascii_lowercase}
use Rattle.std.specs.Str.Parse.{digits_value}
use Rattle.std.proofs.lemmas.Bool.{and_parts, cases_Bool, leb-true}
use Rattle.std.proofs.lemmas.Option.{none-some, option_and_then_some}
use Rattle.std.proofs.lemmas.Slice.Eq.{bytes_eq-Decides}
use Rattle.std.proofs.lemmas.Str.{IsUtf8-from_ascii, IsAscii-append, IsAscii-drop}
use Rattle.hex.specs.Hex.{encode_lower, lower_digits}
use Rattle.hex.proofs.HexLemmas.{IsAscii-encode_with}
use Rattle.op_names.specs.Forms.{is_client, is_visible, is_web, is_word}
use Rattle.op_names.specs.Ids.{hex_of, id_in, id_in_lower, id_text, id_if, id_of_kind, has_id_number, kind_in, kind_number}
use Rattle.op_names.specs.declared.Id.{Id}

-- ---- tests that only ASCII passes

-- each byte passes the test
pub IsAscii-from_all : (test : ℕ → Bool) → ((b : ℕ) → test b ≡ true → b < 128) → (text : List ℕ) → list_all test text ≡ true → IsAscii text
IsAscii-from_all test small [] e i = omega arith
IsAscii-from_all test small (b ∷ text) e zero = small b (and_parts _ _ e).0
IsAscii-from_all test small (b ∷ text) e (suc i) = IsAscii-from_all test small text (and_parts _ _ e).1 i

pub IsUtf8-from_all : (test : ℕ → Bool) → ((b : ℕ) → test b ≡ true → b < 128) → (text : List ℕ) → list_all test text ≡ true → IsUtf8 text
IsUtf8-from_all test small text e = IsUtf8-from_ascii text (IsAscii-from_all test small text e)

below_128 : (b : ℕ) → nat_lt b 128 ≡ true → b < 128
below_128 b e = leb-true (suc b) 128 e

-- for bytes that are written out
pub IsAscii-from_test : (bytes : List ℕ) → list_all (λ b. nat_lt b 128) bytes ≡ true → IsAscii bytes
IsAscii-from_test bytes e = IsAscii-from_all (λ b. nat_lt b 128) below_128 bytes e

-- ---- words and clients

pub visible_is_ascii : (b : ℕ) → is_visible b ≡ true → b < 128
visible_is_ascii b e = omega (arith, leb-true b 126 (and_parts _ _ e).1)

pub IsAscii-from_visible : (text : List ℕ) → list_all is_visible text ≡ true → IsAscii text
IsAscii-from_visible text e = IsAscii-from_all is_visible visible_is_ascii text e

pub IsUtf8-from_visible : (text : List ℕ) → list_all is_visible text ≡ true → IsUtf8 text
IsUtf8-from_visible text e = IsUtf8-from_ascii text (IsAscii-from_visible text e)

pub IsAscii-from_word : (limit : ℕ) (text : List ℕ) → is_word limit text ≡ true → IsAscii text
IsAscii-from_word limit text e = IsAscii-from_visible text (and_parts _ _ e).1

pub IsUtf8-from_word : (limit : ℕ) (text : List ℕ) → is_word limit text ≡ true → IsUtf8 text
IsUtf8-from_word limit text e = IsUtf8-from_ascii text (IsAscii-from_word limit text e)

-- how long a word is
pub length-word : (limit : ℕ) (text : List ℕ) → is_word limit text ≡ true → (1 ≤ length text) × (length text ≤ limit)
length-word limit text e =
    let size = and_parts (nat_le 1 (length text)) (nat_le (length text) limit) (and_parts _ _ e).0 in
    (leb-true 1 (length text) size.0, leb-true (length text) limit size.1)

pub IsUtf8-from_client : (text : List ℕ) → is_client text ≡ true → IsUtf8 text
IsUtf8-from_client text e = IsUtf8-from_word 256 text (and_parts (is_word 256 text) (is_web text) e).0

-- ---- identifiers

pub IsAscii-hex_of : (width number : ℕ) → IsAscii (hex_of width number)
unfolding hex_of
IsAscii-hex_of width number =
    IsAscii-drop (encode_lower (to_be_bytes w64 number)) (16 - width) (IsAscii-encode_with lower_digits (to_be_bytes w64 number) (IsAscii-from_test lower_digits refl))

pub IsAscii-id_text : (id : Id) → IsAscii (id_text id)
IsAscii-id_text id =
    IsAscii-append (hex_of 8 (kind_number id.kind) ++ codes "-0000-8000-8000-") (hex_of 12 id.number)
    (IsAscii-append (hex_of 8 (kind_number id.kind)) (codes "-0000-8000-8000-") (IsAscii-hex_of 8 (kind_number id.kind)) (IsAscii-from_test (codes "-0000-8000-8000-") refl))
    (IsAscii-hex_of 12 id.number)

pub IsUtf8-id_text : (id : Id) → IsUtf8 (id_text id)
IsUtf8-id_text id = IsUtf8-from_ascii (id_text id) (IsAscii-id_text id)

-- what lower case makes ASCII is ASCII
lower_small : (b : ℕ) → to_ascii_lowercase b < 128 → b < 128
lower_small b h = elim (cases_Bool (nat_lt b 65)) [
  | inl e ↦ omega (arith, leb-true (suc b) 65 e)
  | inr e ↦ elim (cases_Bool (nat_lt b 91)) [
    | inl f ↦ omega (arith, leb-true (suc b) 91 f)
    | inr f ↦ rw (e, f) at h
  ]
]

pub IsAscii-from_lowercase : (text : List ℕ) → IsAscii (str_to_ascii_lowercase text) → IsAscii text
IsAscii-from_lowercase [] h i = omega arith
IsAscii-from_lowercase (b ∷ text) h zero = lower_small b (h 0)
IsAscii-from_lowercase (b ∷ text) h (suc i) = IsAscii-from_lowercase text (λ k. h (suc k)) i

passed : (low : List ℕ) (other id : Id) → id_if low other ≡ Some id → IsAscii low
passed low other id e = elim (cases_Bool (has_id_number other.number && bytes_eq low (id_text other))) [
  | inl t ↦ subst IsAscii (sym ((bytes_eq-Decides low (id_text other)).0 (and_parts (has_id_number other.number) (bytes_eq low (id_text other)) t).1)) (IsAscii-id_text other)
  | inr n ↦ let none : None ≡ Some id = rw n at e in absurd (none-some id none)
]

found : (low : List ℕ) (id : Id) → id_in_lower low ≡ Some id → IsAscii low
found low id e =
    option_and_then_some (λ kind. id_if low (id_of_kind low kind)) (kind_in (digits_value 16 (take 8 low))) id e (λ kind was h. passed low (id_of_kind low kind) id h)

-- a text, in either case, that an identifier is read from
pub IsAscii-from_id : (text : List ℕ) (id : Id) → id_in text ≡ Some id → IsAscii text
IsAscii-from_id text id e = IsAscii-from_lowercase text (found (str_to_ascii_lowercase text) id e)

pub IsUtf8-from_id : (text : List ℕ) (id : Id) → id_in text ≡ Some id → IsUtf8 text
IsUtf8-from_id text id e = IsUtf8-from_ascii text (IsAscii-from_id text id e)
