-- What an incoming payment has received.
use Rattle.std.specs.Prelude.{ℕ, ◌*◌, ◌<◌, List}
use Rattle.op_amount.specs.declared.TheConstants.{TOP}
use Rattle.op_model.specs.Legal.{IsLegal}
use Rattle.op_model.specs.Payments.{received}
use Rattle.op_model.specs.declared.act.Entry.{Entry}

-- the last piece may pass the bound, but not by more than the greatest amount
abbrev pub ReceivedIsBounded : Type 0
ReceivedIsBounded = (history : List Entry) (i : ℕ) → IsLegal history → received history i < 2 * TOP
