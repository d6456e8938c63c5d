-- When an object of the outside may be named as the cause of an answer.
use Rattle.std.specs.Prelude.{ℕ, ◌≡◌, ◌≤◌, ◌+◌, ◌-◌, ◌^◌, min, Result, OnOk, OnErr}

-- the count of faults rose; a count of 64 bits stays at its greatest value
abbrev pub Rose : ℕ → ℕ → Type 0
Rose before now = min (before + 1) (2 ^ 64 - 1) ≤ now

-- a call fails only where its object's count of faults rose, and passes no fault over
pub record HasCause {T E : Type 0} (before now : ℕ) (result : Result T E) : Type 0 where
  pub later : before ≤ now
  pub failed : OnErr result (Rose before now)
  pub kept : OnOk result (now ≡ before)

-- An answer names the fault of an object, or not: it does only where that object's count of faults rose, and passes no fault
-- over.
pub record NamesFault (before now : ℕ) (named : Type 0) : Type 0 where
  pub cause : named → Rose before now
  pub kept : (named → ⊥) → now ≡ before
