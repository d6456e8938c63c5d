-- What the outside tells.
use Rattle.std.specs.Prelude.{ℕ, List}
use Rattle.std.specs.declared.option.Option.{Option}
use Rattle.op_model.specs.Verdicts.{Accepts}

-- each but the last where it is told
pub record World : Type 0 where
  -- the bytes that are left to read
  pub left : Option (List ℕ)
  -- what the clock will answer
  pub answers : Option (List ℕ)
  -- the words that will be drawn
  pub words : Option (List (List ℕ))
  -- what was written
  pub written : Option (List ℕ)
  -- which key proofs the verifier accepts
  pub accepts : Accepts
