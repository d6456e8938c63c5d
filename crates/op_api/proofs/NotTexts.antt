-- Bytes that are no text: no number, no asset's code, no identifier.
use Rattle.std.proofs.Common.{◌≡◌, ◌<◌, ℕ, true, List, Some, None, IsUtf8, refl, inl, inr, arith}
use Rattle.std.specs.Char.{is_ascii_digit}
use Rattle.std.specs.declared.option.Option.{Option}
use Rattle.std.proofs.lemmas.Bool.{and_parts, cases_Bool, leb-true}
use Rattle.op_amount.specs.Code.{is_asset_code}
use Rattle.op_amount.specs.Values.{is_numeral}
use Rattle.op_amount.proofs.CodeText.{code_is_text}
use Rattle.op_names.specs.Ids.{id_in}
use Rattle.op_names.specs.declared.Id.{Id}
use Rattle.op_names.specs.declared.Kind.{Kind}
use Rattle.op_names.proofs.AsciiTexts.{IsUtf8-from_all, IsUtf8-from_id}
use Rattle.op_model.specs.Parameters.{asset_with, digits_within, number_named}

digit_is_ascii : (b : ℕ) → is_ascii_digit b ≡ true → b < 128
digit_is_ascii b e = omega (arith, leb-true b 57 (and_parts _ _ e).1)

pub no_number : (low high : ℕ) (text : List ℕ) → ¬ (IsUtf8 text) → digits_within low high text ≡ None
no_number low high text strange = elim (cases_Bool (is_numeral text)) [
  | inl e ↦ absurd (strange (IsUtf8-from_all is_ascii_digit digit_is_ascii text (and_parts _ _ e).1))
  | inr e ↦ rw e refl
]

pub no_code : (code : List ℕ) (scale : ℕ) → ¬ (IsUtf8 code) → asset_with code scale ≡ None
no_code code scale strange = elim (cases_Bool (is_asset_code code)) [
  | inl e ↦ absurd (strange (code_is_text code e))
  | inr e ↦ rw e refl
]

pub no_id : (kind : Kind) (text : List ℕ) → ¬ (IsUtf8 text) → number_named kind text ≡ None
no_id kind text strange = go (id_in text) refl
  where
    go : (o : Option Id) → id_in text ≡ o → number_named kind text ≡ None
    go None e = rw e refl
    go (Some id) e = absurd (strange (IsUtf8-from_id text id e))
