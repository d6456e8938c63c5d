-- JSON values that have one printed form.
use Rattle.std.specs.Prelude.{◌≡◌, ℕ, List, false}
use Rattle.serde_json.specs.Data.{Data}
use Rattle.serde_json.specs.View.{view}
use Rattle.serde_json.specs.Written.{has_float, compact_text}
use Rattle.serde_json.specs.declared.value.Value.{Value}

-- the value is this data, and has no number with a point or an exponent
pub record IsPlain (what : Data) (value : Value) : Type 0 where
  pub is : view value ≡ what
  pub plain : has_float what ≡ false

-- the text is the one printed form of the value
pub record Prints (text : List ℕ) (value : Value) : Type 0 where
  pub is : compact_text (view value) ≡ text
  pub plain : has_float (view value) ≡ false
