-- What a reader of names answers.
use Rattle.std.specs.Prelude.{◌≡◌, ⊤, Some, None, Ok, Err}
use Rattle.std.specs.declared.option.Option.{Option}
use Rattle.std.specs.declared.result.Result.{Result}
use Rattle.op_names.specs.declared.NameFault.{NameFault}
use Rattle.op_names.specs.declared.NameFault.TheVariants.{Shape, Memory}

-- the value that the text stands for, or `Shape` exactly where it stands for none; want of memory
-- may stand in the place of either
abbrev pub Reads : {T : Type 0} → Option T → Result T NameFault → Type 0
Reads meant (Ok value) = meant ≡ Some value
Reads meant (Err Shape) = meant ≡ None
Reads meant (Err Memory) = ⊤
