-- Texts that are UTF-8: what passes the test of a text, and every secret.
use Rattle.std.proofs.Common.{◌≡◌, ℕ, zero, suc, ◌+◌, ◌/◌, ◌%◌, ◌<◌, ◌≤◌, Bool, true, false, cond, List, [], ◌∷◌, ◌++◌, length, take, decimal, IsAscii, IsUtf8, refl, subst, arith, mod-lt}
use Rattle.std.specs.Prelude.{◌==◌, nat_lt}
use Rattle.std.specs.Fmt.{digits, digits_onto, digit_glyph}
use Rattle.std.specs.Str.{is_utf8}
use Rattle.std.specs.Str.Lossy.{utf8_valid_len, valid_len_up_to}
use Rattle.std.proofs.Math.Seq.{take-length}
use Rattle.std.proofs.lemmas.Bool.{eqb-true}
use Rattle.std.proofs.lemmas.Str.{IsUtf8-nil, IsUtf8-from_is_utf8, IsUtf8-from_ascii, IsAscii-append}
use Rattle.std.proofs.lemmas.Str.Ascii.{IsAscii-nil, IsAscii-cons}
use Rattle.hex.specs.Hex.{encode_lower, lower_digits}
use Rattle.hex.proofs.HexLemmas.{IsAscii-encode_with}
use Rattle.op_names.specs.Secrets.{letter_byte, secret_text}
use Rattle.op_names.specs.declared.Letter.{Letter}
use Rattle.op_names.specs.declared.Letter.TheVariants.{Access, Continuation, Nonce, Interaction}
use Rattle.op_names.proofs.AsciiTexts.{IsAscii-from_test}

-- ---- a text whose longest front of UTF-8 is all of it

at_most : (b : Bool) (x y : ℕ) → y ≤ x → cond b x y ≤ x
at_most true x y h = omega arith
at_most false x y h = h

up_to_le : (text : List ℕ) (n : ℕ) → valid_len_up_to text n ≤ n
up_to_le text zero = omega arith
up_to_le text (suc n) = let rest = up_to_le text n in at_most (is_utf8 (take (suc n) text)) (suc n) (valid_len_up_to text n) (omega (arith, rest))

front_where : (text : List ℕ) (n : ℕ) (b : Bool) → is_utf8 (take (suc n) text) ≡ b → cond b (suc n) (valid_len_up_to text n) ≡ suc n → IsUtf8 (take (suc n) text)
front_where text n true is h = IsUtf8-from_is_utf8 (take (suc n) text) is
front_where text n false is h = absurd (let rest = up_to_le text n in omega (arith, rest, h))

front_text : (text : List ℕ) (n : ℕ) → valid_len_up_to text n ≡ n → IsUtf8 (take n text)
front_text text zero h = IsUtf8-nil
front_text text (suc n) h = front_where text n (is_utf8 (take (suc n) text)) refl h

pub IsUtf8-from_valid_len : (text : List ℕ) → (utf8_valid_len text == length text) ≡ true → IsUtf8 text
unfolding utf8_valid_len
IsUtf8-from_valid_len text h = subst IsUtf8 (take-length text) (front_text text (length text) (eqb-true (valid_len_up_to text (length text)) (length text) h))

-- ---- secrets

either_small : (b : Bool) (d : ℕ) → d < 10 → cond b (48 + d) (87 + d) < 128
either_small true d h = omega (arith, h)
either_small false d h = omega (arith, h)

either_ascii : (b : Bool) (xs ys : List ℕ) → IsAscii xs → IsAscii ys → IsAscii (cond b xs ys)
either_ascii true xs ys p q = p
either_ascii false xs ys p q = q

digits_ascii : (k n : ℕ) (behind : List ℕ) → IsAscii behind → IsAscii (digits_onto k 10 false n behind)
digits_ascii zero n behind h = h
digits_ascii (suc k) n behind h =
    let digit = digit_glyph false (n % 10) in
    let more : IsAscii (digit ∷ behind) = IsAscii-cons digit behind (either_small (nat_lt (n % 10) 10) (n % 10) (mod-lt n (omega arith))) h in
    either_ascii (n / 10 == 0) (digit ∷ behind) (digits_onto k 10 false (n / 10) (digit ∷ behind)) more (digits_ascii k (n / 10) (digit ∷ behind) more)

-- of every number
decimal_ascii : (n : ℕ) → IsAscii (decimal n)
unfolding digits
decimal_ascii n = digits_ascii 64 n [] IsAscii-nil

letter_small : (letter : Letter) → letter_byte letter < 128
letter_small Access = omega arith
letter_small Continuation = omega arith
letter_small Nonce = omega arith
letter_small Interaction = omega arith

-- a secret is ASCII, whatever its word and its place are
pub IsUtf8-secret_text : (letter : Letter) (word : List ℕ) (place : ℕ) → IsUtf8 (secret_text letter word place)
IsUtf8-secret_text letter word place =
    IsUtf8-from_ascii (secret_text letter word place)
    (IsAscii-cons (letter_byte letter) (encode_lower word ++ 45 ∷ decimal place) (letter_small letter)
    (IsAscii-append (encode_lower word) (45 ∷ decimal place) (IsAscii-encode_with lower_digits word (IsAscii-from_test lower_digits refl)) (IsAscii-cons 45 (decimal place) (omega arith) (decimal_ascii place))))
