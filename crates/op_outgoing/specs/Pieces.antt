-- The next piece of a payment. Fee and delivery are floors of the whole sum that was sent, never of a piece.
use Rattle.std.specs.Prelude.{ℕ, ◌+◌, ◌-◌, ◌==◌, min, if◌then◌else◌}
use Rattle.op_amount.specs.Rates.{share, floor_mul}
use Rattle.op_ledger.specs.declared.values.Piece.{Piece}
use Rattle.op_model.specs.declared.act.Account.TheVariants.{Wallet}
use Rattle.op_model.specs.declared.row.OutgoingRow.{OutgoingRow}
use Rattle.op_model.specs.declared.row.PaymentState.{PaymentState}
use Rattle.op_model.specs.declared.row.PaymentState.TheVariants as states

-- what is sent, charged and delivered in all, behind the next piece
abbrev pub next_sent : OutgoingRow → ℕ
next_sent row = min row.terms.source (row.sent + row.terms.piece)

abbrev pub next_fee : OutgoingRow → ℕ
next_fee row = share row.terms.fee (next_sent row) row.terms.source

abbrev pub next_delivered : OutgoingRow → ℕ
next_delivered row = floor_mul (next_sent row) row.terms.num row.terms.den

-- the piece is what these grow by
abbrev pub next_piece : OutgoingRow → Piece
next_piece row =
    record {
      payer = Wallet row.terms.payer;
      payee = Wallet row.terms.payee;
      sent = next_sent row - row.sent;
      fee = next_fee row - row.fee;
      delivered = next_delivered row - row.delivered;
    }

-- the last piece completes the payment
abbrev pub next_state : OutgoingRow → PaymentState
next_state row = if next_sent row == row.terms.source then states.Completed else states.Sending
