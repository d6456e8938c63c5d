use Rattle.std.proofs.Common.{◌≡◌, ℕ, ◌≤◌, Some}
use Rattle.std.specs.Prelude.{All}
use Rattle.op_model.specs.History.{nth}
use Rattle.op_model.specs.declared.row.GrantRow.{GrantRow}
use Rattle.op_grant.specs.Places.{IsDrawnBefore, secrets_of}
use Rattle.op_grant.proofs.tests.conditions.is_new_place.Given as goal

abbrev pub invariant-loop-k : goal.invariant-loop-k
invariant-loop-k l = (n : ℕ) (row : GrantRow) → n ≤ l.k → nth l.grants.rows n ≡ Some row → All (IsDrawnBefore l.place) (secrets_of row)
