-- The first field of a name.
use Rattle.std.proofs.Common.{◌≡◌, ℕ, Bool, List, [], ◌∷◌, refl, inl, inr}
use Rattle.std.proofs.lemmas.Bool.{cases_Bool}
use Rattle.std.specs.Prelude.{option_map}
use Rattle.std.specs.List.{find}
use Rattle.std.specs.Str.{str_eq_ignore_ascii_case}
use Rattle.op_model.specs.Requests.{values_of}
use Rattle.op_model.specs.Verdicts.{first_of}

abbrev has_name : List ℕ → List ℕ × List ℕ → Bool
has_name name (field, value) = str_eq_ignore_ascii_case field name

-- the first value of a name is that of the first field of the name
pub first_value : (name : List ℕ) (fields : List (List ℕ × List ℕ)) → option_map (λ (field, value). value) (find (λ (field, value). str_eq_ignore_ascii_case field name) fields) ≡ first_of (values_of name fields)
first_value name [] = refl
first_value name (f ∷ fields) = elim (cases_Bool (has_name name f)) [
  | inl e ↦ rw e refl
  | inr e ↦ rw e (first_value name fields)
]
