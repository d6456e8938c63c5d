-- Where a row lies, and which grant made it.
use Rattle.std.specs.Prelude.{ℕ}
use Rattle.op_token_plans.specs.declared.looks.Place.{Place}

abbrev pub pair_of : Place → ℕ × ℕ
pair_of place = (place.address, place.grant)
