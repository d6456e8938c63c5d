-- What holds of all incoming payments.
use Rattle.std.specs.Prelude.{ℕ, ◌≡◌, ◌*◌, ◌≤◌, ◌<◌, List, All}
use Rattle.op_amount.specs.declared.TheConstants.{TOP}
use Rattle.op_model.specs.Incoming.{bound_of}
use Rattle.op_model.specs.Numbers.{numbers_where}
use Rattle.op_incoming.specs.Rows.{is_unfinished}
use Rattle.op_incoming.specs.declared.incoming.Incoming.{Incoming}

-- the last piece may pass the bound, and by less than the greatest value
pub record IsWithin (i : Incoming) : Type 0 where
  pub bound : bound_of i.row ≤ TOP
  pub received : i.received < 2 * TOP

-- payments, and the numbers of those that may still take value or expire
pub record AreKept (rows : List Incoming) (unfinished : List ℕ) : Type 0 where
  pub within : All IsWithin rows
  pub listed : unfinished ≡ numbers_where is_unfinished rows
