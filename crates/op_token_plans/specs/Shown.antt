-- Rows that requests name, with their numbers.
use Rattle.std.specs.Prelude.{ℕ}
use Rattle.std.specs.Option.{option_map, option_and_then}
use Rattle.std.specs.declared.option.Option.{Option}

-- the row that a number names, beside it, where it is there
abbrev pub row_beside : {X : Type 0} → (ℕ → Option X) → Option ℕ → Option (ℕ × X)
row_beside row n = option_and_then (λ k. option_map (λ x. (k, x)) (row k)) n
