-- The first parameter of a name.
use Rattle.std.proofs.Common.{◌≡◌, ℕ, List, Some, None, IsUtf8, bytes_eq, refl, inl, inr}
use Rattle.std.specs.Prelude.{map, option_map}
use Rattle.std.specs.List.{find}
use Rattle.std.specs.Str.{is_utf8}
use Rattle.std.specs.declared.option.Option.{Option}
use Rattle.std.proofs.lemmas.Bool.{cases_Bool}
use Rattle.std.proofs.lemmas.Str.{IsUtf8-from_is_utf8, is_utf8-from_IsUtf8}
use Rattle.form_urlencoded.specs.Form.{decode}
use Rattle.op_model.specs.Parameters.{parameter, text_parameter}

-- the first value of a name among pairs that are still encoded
abbrev pub first_named : List ℕ → List (List ℕ × List ℕ) → Option (List ℕ)
first_named name pairs = option_map (λ (n, value). value) (find (λ (n, value). bytes_eq n name) (map (λ (n, value). (decode n, decode value)) pairs))

pub text_there : (name target value text : List ℕ) → Some value ≡ parameter name target → IsUtf8 text → text ≡ value → Some text ≡ text_parameter name target
text_there name target value text p u e = rw (← p, ← e, is_utf8-from_IsUtf8 text u) refl

pub no_text_there : (name target value : List ℕ) → Some value ≡ parameter name target → ¬ (IsUtf8 value) → None ≡ text_parameter name target
no_text_there name target value p strange = elim (cases_Bool (is_utf8 value)) [
  | inl e ↦ absurd (strange (IsUtf8-from_is_utf8 value e))
  | inr e ↦ rw (← p, e) refl
]
