-- The length of a body, told by one value after another.
use Rattle.std.specs.Prelude.{◌≡◌, ℕ, true, ◌&&◌, List, ◌∷◌, Some, None, if◌then◌else◌}
use Rattle.std.specs.Borrow.{Bor}
use Rattle.std.specs.List.{list_all}
use Rattle.std.specs.Str.{bytes_eq}
use Rattle.std.specs.Str.Parse.{digits_value}
use Rattle.std.specs.declared.option.Option.{Option}
use Rattle.op_model.specs.Requests.{is_length, length_told}

-- the length that a value tells together with the others, or that the others tell alone
abbrev pub told_with : Option (Bor (List ℕ)) → List (List ℕ) → Option ℕ
told_with None others = length_told others
told_with (Some value) others =
    if is_length value.now && list_all (bytes_eq value.now) others then Some (digits_value 10 value.now) else None

-- one more value: this one stands for all so far
pub record StandsFor (told : Option (Bor (List ℕ))) (value : List ℕ) (new : Bor (List ℕ)) : Type 0 where
  pub form : is_length new.now ≡ true
  pub same : (others : List (List ℕ)) → told_with told (value ∷ others) ≡ told_with (Some new) others
