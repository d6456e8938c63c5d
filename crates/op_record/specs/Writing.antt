-- What writing leaves.
use Rattle.std.specs.Prelude.{◌≡◌, ℕ, ◌+◌, ◌≤◌, List, ◌++◌, length, Vec, vec_capacity}
use Rattle.std.specs.declared.alloc.Global.{Global}

-- where there is room for a text, it stands at the end, and no room was given back
pub record Puts (text : List ℕ) (old new : Vec ℕ Global) : Type 0 where
  pub lands : length old.items + length text ≤ vec_capacity old → (new.items ≡ old.items ++ text) × (vec_capacity old ≤ vec_capacity new)
