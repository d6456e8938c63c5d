-- The text of a secret, and what is read of it.
use Rattle.std.proofs.Common.{◌≡◌, ℕ, ◌-◌, ◌^◌, ◌<◌, ◌≤◌, List, [], ◌∷◌, ◌++◌, length, take, drop, get_or, Option, Some, None, IfSome, refl, sym, ap, ◌∙◌, arith, append_assoc, length-append, length-drop}
use Rattle.std.specs.Fmt.{decimal}
use Rattle.std.specs.Result.{result_ok}
use Rattle.std.proofs.lemmas.Fmt.{decimal_nonempty, decimal_injective}
use Rattle.hex.specs.Hex.{decode_sized, encode_lower, lower_digits, decode_of}
use Rattle.hex.proofs.HexLemmas.{decode_sized-encode_lower, length-encode_with, decode_of-same, decode_of-encode_lower}
use Rattle.op_names.specs.Secrets.{letter_in, secret_text, letter_byte, IsDrawn, ReadsSecret}
use Rattle.op_names.specs.declared.Letter.TheVariants.{Access, Continuation, Nonce, Interaction}
use Rattle.op_names.specs.declared.Letter.{Letter}
use Rattle.op_names.proofs.Rooms.{take_all, take_front, drop_front}

length-digits : (word : List ℕ) → IsDrawn word → 32 ≡ length (encode_lower word)
length-digits word drawn = omega (arith, length-encode_with lower_digits word, drawn.0)

-- ---- the parts of a secret

-- what stands behind the letter
behind_letter : (letter : Letter) (word : List ℕ) (place : ℕ) → drop 1 (secret_text letter word place) ≡ encode_lower word ++ 45 ∷ decimal place
behind_letter letter word place = refl

pub word_part : (text : List ℕ) (letter : Letter) (word : List ℕ) (place : ℕ) → IsDrawn word → text ≡ secret_text letter word place → take 32 (drop 1 text) ≡ encode_lower word
word_part text letter word place drawn is =
    ap (λ t. take 32 (drop 1 t)) is ∙ take_front (encode_lower word) (45 ∷ decimal place) 32 (length-digits word drawn)

pub place_part : (text : List ℕ) (letter : Letter) (word : List ℕ) (place : ℕ) → IsDrawn word → text ≡ secret_text letter word place
    → take (length text - 34) (drop 34 text) ≡ decimal place
place_part text letter word place drawn is =
    let before : List ℕ = letter_byte letter ∷ (encode_lower word ++ 45 ∷ []) in
    let size : 34 ≡ length before = omega (arith, length-append (encode_lower word) (45 ∷ []), length-digits word drawn) in
    let split : secret_text letter word place ≡ before ++ decimal place = ap (λ t. letter_byte letter ∷ t) (sym (append_assoc (encode_lower word) (45 ∷ []) (decimal place))) in
    take_all (drop 34 text) (length text - 34) (sym (length-drop 34 text)) ∙ ap (drop 34) (is ∙ split) ∙ drop_front before (decimal place) 34 size

pub secret_is_long : (text : List ℕ) (letter : Letter) (word : List ℕ) (place : ℕ) → IsDrawn word → place < 2 ^ 64 → text ≡ secret_text letter word place → 35 ≤ length text
secret_is_long text letter word place drawn small is =
    let size = ap length is in
    omega (arith, size, length-append (encode_lower word) (45 ∷ decimal place), length-digits word drawn, decimal_nonempty place small)

pub first_part : (text : List ℕ) (letter : Letter) (word : List ℕ) (place : ℕ) → text ≡ secret_text letter word place → get_or text 0 0 ≡ letter_byte letter
first_part text letter word place is = ap (λ t. get_or t 0 0) is

-- ---- two secrets with one text

pub same_word : (text : List ℕ) (letter other : Letter) (word drawn : List ℕ) (place elsewhere : ℕ) → IsDrawn word → IsDrawn drawn
    → text ≡ secret_text letter word place → text ≡ secret_text other drawn elsewhere → word ≡ drawn
same_word text letter other word drawn place elsewhere w d is also =
    let digits : encode_lower word ≡ encode_lower drawn = sym (word_part text letter word place w is) ∙ word_part text other drawn elsewhere d also in
    decode_of-same (encode_lower word) word drawn (decode_of-encode_lower word w.1) (ap decode_of digits ∙ decode_of-encode_lower drawn d.1)

pub same_place : (text : List ℕ) (letter other : Letter) (word drawn : List ℕ) (place elsewhere : ℕ) → IsDrawn word → IsDrawn drawn → place < 2 ^ 64 → elsewhere < 2 ^ 64
    → text ≡ secret_text letter word place → text ≡ secret_text other drawn elsewhere → place ≡ elsewhere
same_place text letter other word drawn place elsewhere w d small low is also =
    decimal_injective place elsewhere small low (sym (place_part text letter word place w is) ∙ place_part text other drawn elsewhere d also)

pub letter_in-letter_byte : (letter : Letter) → letter_in (letter_byte letter) ≡ Some letter
letter_in-letter_byte Access = refl
letter_in-letter_byte Continuation = refl
letter_in-letter_byte Nonce = refl
letter_in-letter_byte Interaction = refl

same_byte : (letter other : Letter) → letter_byte letter ≡ letter_byte other → letter ≡ other
same_byte letter other h =
    let same : Some letter ≡ Some other = sym (letter_in-letter_byte letter) ∙ ap letter_in h ∙ letter_in-letter_byte other in
    cc same

pub same_letter : (text : List ℕ) (letter other : Letter) (word drawn : List ℕ) (place elsewhere : ℕ)
    → text ≡ secret_text letter word place → text ≡ secret_text other drawn elsewhere → letter ≡ other
same_letter text letter other word drawn place elsewhere is also =
    same_byte letter other (sym (first_part text letter word place is) ∙ first_part text other drawn elsewhere also)

pub read_back : (letter : Letter) (word : List ℕ) (place : ℕ) (read : Option (Letter × List ℕ × ℕ)) → IsDrawn word → place < 2 ^ 64
    → IfSome read (λ secret. IsDrawn secret.1 × (secret.2 < 2 ^ 64)) → ReadsSecret (secret_text letter word place) read → read ≡ Some (letter, word, place)
read_back letter word place None drawn small known h = absurd (h letter word place drawn small refl)
read_back letter word place (Some secret) drawn small known h =
    let text = secret_text letter word place in
    let a = same_letter text letter secret.0 word secret.1 place secret.2 refl h in
    let b = same_word text letter secret.0 word secret.1 place secret.2 drawn known.0 refl h in
    let d = same_place text letter secret.0 word secret.1 place secret.2 drawn known.0 small known.1 refl h in
    rw (a, b, d) refl

-- the word of digits that a secret has
pub decoded_word : (digits word : List ℕ) → IsDrawn word → digits ≡ encode_lower word → result_ok (decode_sized digits 16) ≡ Some word
decoded_word digits word drawn is = ap (λ d. result_ok (decode_sized d 16)) is ∙ ap result_ok (decode_sized-encode_lower word 16 drawn.0 drawn.1)
