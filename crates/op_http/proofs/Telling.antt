-- The values of a field, one after another.
use Rattle.std.proofs.Common.{◌≡◌, ◌<◌, ◌+◌, ℕ, true, false, Some, None, List, ◌∷◌, length, drop, get_or, refl, sym, ap, ◌∙◌, add-one}
use Rattle.std.specs.Borrow.{Bor}
use Rattle.std.specs.Str.{str_eq_ignore_ascii_case}
use Rattle.std.specs.declared.option.Option.{Option}
use Rattle.std.proofs.Math.Seq.{drop-cons}
use Rattle.op_model.specs.Requests.{values_of}
use Rattle.op_http.specs.Lengths.{told_with, StandsFor}

values_named : (name : List ℕ) (fields : List (List ℕ × List ℕ)) (i : ℕ) (x : List ℕ × List ℕ) → i < length fields → x ≡ get_or fields i x
    → str_eq_ignore_ascii_case x.0 name ≡ true → values_of name (drop i fields) ≡ x.1 ∷ values_of name (drop (i + 1) fields)
values_named name fields i x within is named =
    rw (add-one, drop-cons fields i x within, ← is, named) refl

values_other : (name : List ℕ) (fields : List (List ℕ × List ℕ)) (i : ℕ) (x : List ℕ × List ℕ) → i < length fields → x ≡ get_or fields i x
    → str_eq_ignore_ascii_case x.0 name ≡ false → values_of name (drop i fields) ≡ values_of name (drop (i + 1) fields)
values_other name fields i x within is other =
    rw (add-one, drop-cons fields i x within, ← is, other) refl

-- a field of another name tells nothing
pub told_other : (told : Option (Bor (List ℕ))) (name : List ℕ) (fields : List (List ℕ × List ℕ)) (i : ℕ) (x : List ℕ × List ℕ) (all : Option ℕ)
    → i < length fields → x ≡ get_or fields i x → str_eq_ignore_ascii_case x.0 name ≡ false
    → told_with told (values_of name (drop i fields)) ≡ all → told_with told (values_of name (drop (i + 1) fields)) ≡ all
told_other told name fields i x all within is other so_far =
    ap (told_with told) (sym (values_other name fields i x within is other)) ∙ so_far

-- a field of the name tells its value
pub told_named : (told : Option (Bor (List ℕ))) (new : Bor (List ℕ)) (value name : List ℕ) (fields : List (List ℕ × List ℕ)) (i : ℕ) (x : List ℕ × List ℕ) (all : Option ℕ)
    → i < length fields → x ≡ get_or fields i x → str_eq_ignore_ascii_case x.0 name ≡ true → value ≡ x.1 → StandsFor told value new
    → told_with told (values_of name (drop i fields)) ≡ all → told_with (Some new) (values_of name (drop (i + 1) fields)) ≡ all
told_named told new value name fields i x all within is named same stands so_far =
    let others = values_of name (drop (i + 1) fields) in
    sym (stands.same others) ∙ (ap (λ (v : List ℕ). told_with told (v ∷ others)) same ∙ (ap (told_with told) (sym (values_named name fields i x within is named)) ∙ so_far))

-- or contradicts what the others tell
pub told_against : (told : Option (Bor (List ℕ))) (value name : List ℕ) (fields : List (List ℕ × List ℕ)) (i : ℕ) (x : List ℕ × List ℕ) (all : Option ℕ)
    → i < length fields → x ≡ get_or fields i x → str_eq_ignore_ascii_case x.0 name ≡ true → value ≡ x.1
    → ((others : List (List ℕ)) → told_with told (value ∷ others) ≡ None) → told_with told (values_of name (drop i fields)) ≡ all → all ≡ None
told_against told value name fields i x all within is named same against so_far =
    let others = values_of name (drop (i + 1) fields) in
    sym so_far ∙ (ap (told_with told) (values_named name fields i x within is named) ∙ (ap (λ (v : List ℕ). told_with told (v ∷ others)) (sym same) ∙ against others))
