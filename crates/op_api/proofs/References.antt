-- Texts that are interaction references.
use Rattle.std.proofs.Common.{◌≡◌, ◌<◌, ℕ, suc, ◌^◌, ◌-◌, true, false, List, [], length, take, drop, Some, None, Ok, Err, refl, sym, ap, ◌∙◌, inl, inr, length-drop}
use Rattle.std.specs.Prelude.{◌==◌, nat_lt, ◌&&◌, unwrap_or, if◌then◌else◌}
use Rattle.std.specs.Fmt.{decimal}
use Rattle.std.specs.Result.{result_ok}
use Rattle.std.specs.Str.{bytes_eq}
use Rattle.std.specs.Str.Parse.{digits_value}
use Rattle.std.specs.declared.result.Result.{Result}
use Rattle.std.proofs.lemmas.Bool.{and_parts, cases_Bool}
use Rattle.std.proofs.lemmas.Bool.{eqb-true, le-leb, leb-true}
use Rattle.std.proofs.lemmas.Fmt.{digits_value-decimal}
use Rattle.std.proofs.lemmas.Slice.Eq.{bytes_eq-Decides}
use Rattle.hex.specs.Hex.{decode_of}
use Rattle.hex.specs.declared.error.FromHexError.{FromHexError}
use Rattle.hex.proofs.HexLemmas.{decode_of-encode_lower, decode_of-ok}
use Rattle.op_names.specs.Secrets.{secret_text, IsDrawn, ReadsSecret}
use Rattle.op_names.specs.declared.Letter.TheVariants.{Interaction}
use Rattle.op_names.proofs.Rooms.{take_all}
use Rattle.op_names.proofs.SecretTexts.{word_part, place_part}
use Rattle.op_model.specs.GrantMembers.{is_reference, word_spelled, place_spelled}

-- the text is a reference's
pub record IsReference (text : List ℕ) : Type 0 where
  pub word : List ℕ
  pub place : ℕ
  pub drawn : IsDrawn word
  pub small : place < 2 ^ 64
  pub spells : text ≡ secret_text Interaction word place

spelled_word : (text word : List ℕ) (place : ℕ) → IsDrawn word → text ≡ secret_text Interaction word place → word_spelled text ≡ word
spelled_word text word place drawn is =
    ap (λ d. unwrap_or (result_ok (decode_of d)) []) (word_part text Interaction word place drawn is)
    ∙ ap (λ (r : Result (List ℕ) FromHexError). unwrap_or (result_ok r) []) (decode_of-encode_lower word drawn.1)

behind : (text word : List ℕ) (place : ℕ) → IsDrawn word → text ≡ secret_text Interaction word place → drop 34 text ≡ decimal place
behind text word place drawn is = sym (take_all (drop 34 text) (length text - 34) (sym (length-drop 34 text))) ∙ place_part text Interaction word place drawn is

spelled_place : (text word : List ℕ) (place : ℕ) → IsDrawn word → place < 2 ^ 64 → text ≡ secret_text Interaction word place → place_spelled text ≡ place
spelled_place text word place drawn small is = ap (digits_value 10) (behind text word place drawn is) ∙ digits_value-decimal (record { to = λ ds h. h; from = λ ds h. h; same = λ ds h. refl }) place small

same_text : (a b : List ℕ) → a ≡ b → bytes_eq a b ≡ true
same_text a b e = (bytes_eq-Decides a b).1 e

pub is_reference_of : (text : List ℕ) → IsReference text → is_reference text ≡ true
is_reference_of text r =
    rw (spelled_word text r.word r.place r.drawn r.spells, spelled_place text r.word r.place r.drawn r.small r.spells, same_text _ _ r.spells, r.drawn.0) (le-leb (suc r.place) (2 ^ 64) r.small)

drawn_if : (digits : List ℕ) (r : Result (List ℕ) FromHexError) → decode_of digits ≡ r → length (unwrap_or (result_ok r) []) ≡ 16 → IsDrawn (unwrap_or (result_ok r) [])
drawn_if digits (Ok bytes) e l = (l, (decode_of-ok digits bytes e).3)
drawn_if digits (Err fault) e l = absurd cc

pub reference_told : (text : List ℕ) → is_reference text ≡ true → IsReference text
reference_told text e =
    let spelled = secret_text Interaction (word_spelled text) (place_spelled text) in
    let parts = and_parts (bytes_eq text spelled) ((length (word_spelled text) == 16) && nat_lt (place_spelled text) (2 ^ 64)) e in
    let more = and_parts (length (word_spelled text) == 16) (nat_lt (place_spelled text) (2 ^ 64)) parts.1 in
    record {
      word = word_spelled text;
      place = place_spelled text;
      drawn = drawn_if (take 32 (drop 1 text)) (decode_of (take 32 (drop 1 text))) refl (eqb-true (length (word_spelled text)) 16 more.0);
      small = leb-true (suc (place_spelled text)) (2 ^ 64) more.1;
      spells = (bytes_eq-Decides text spelled).0 parts.0;
    }

pub not_reference : (text : List ℕ) → ¬ (IsReference text) → is_reference text ≡ false
not_reference text n = elim (cases_Bool (is_reference text)) [
  | inl e ↦ absurd (n (reference_told text e))
  | inr e ↦ e
]

pub read_none : (text : List ℕ) → ReadsSecret text None → is_reference text ≡ false
read_none text h = not_reference text (λ r. h Interaction r.word r.place r.drawn r.small r.spells)

pub if_reference : (text : List ℕ) → IsReference text → Some text ≡ (if is_reference text then Some text else None)
if_reference text r = rw (is_reference_of text r) refl

pub if_no_reference : (text : List ℕ) → is_reference text ≡ false → None ≡ (if is_reference text then Some text else None)
if_no_reference text e = rw e refl
