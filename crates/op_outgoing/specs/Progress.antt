-- How far a payment has come.
use Rattle.std.specs.Prelude.{◌≡◌, Bool, true, not}
use Rattle.op_model.specs.Payments.{is_ended}
use Rattle.op_model.specs.declared.row.OutgoingRow.{OutgoingRow}
use Rattle.op_outgoing.specs.Sound.{IsSoundRow}
use Rattle.op_outgoing.specs.declared.progress.Progress.{Progress}

abbrev pub with_progress : Progress → OutgoingRow → OutgoingRow
with_progress p row =
    record row { state = p.state; step = p.step; sent = p.sent; fee = p.fee; delivered = p.delivered; reason = p.reason }

abbrev pub is_alive : OutgoingRow → Bool
is_alive row = not (is_ended row.state)

-- a payment can come that far: an ended one stays so
pub record CanBecome (p : Progress) (row : OutgoingRow) : Type 0 where
  pub sound : IsSoundRow (with_progress p row)
  pub alive : is_alive (with_progress p row) ≡ true → is_alive row ≡ true
