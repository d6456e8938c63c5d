-- The numbers of the items of a list that pass a test.
use Rattle.std.specs.Prelude.{ℕ, Bool, if◌then◌else◌, List, Some, None}
use Rattle.std.specs.List.{filter_map}
use Rattle.std.specs.declared.option.Option.{Option}
use Rattle.op_model.specs.History.{numbered}

abbrev pub number_if : {X : Type 0} → (X → Bool) → ℕ × X → Option ℕ
number_if test (n, x) = if test x then Some n else None

abbrev pub numbers_where : {X : Type 0} → (X → Bool) → List X → List ℕ
numbers_where test xs = filter_map (number_if test) (numbered xs)
