-- What holds of the terms of every quote, and of every payment.
use Rattle.std.specs.Prelude.{◌≡◌, ◌+◌, ◌≤◌, ◌<◌}
use Rattle.op_amount.specs.Rates.{share, floor_mul}
use Rattle.op_amount.specs.declared.TheConstants.{TOP, RATE_TOP}
use Rattle.op_model.specs.declared.row.OutgoingRow.{OutgoingRow}
use Rattle.op_model.specs.declared.row.PaymentState.{PaymentState}
use Rattle.op_model.specs.declared.row.PaymentState.TheVariants as states
use Rattle.op_model.specs.declared.row.Terms.{Terms}

-- The terms are a price: the debit is source and fee, the receive is the rate's floor, no value passes the top. A piece
-- lies between one and the source.
pub record ArePriced (terms : Terms) : Type 0 where
  pub debit : terms.debit ≡ terms.source + terms.fee
  pub top : terms.debit ≤ TOP
  pub some : 0 < terms.source
  pub receive : terms.receive ≡ floor_mul terms.source terms.num terms.den
  pub receive_top : terms.receive ≤ TOP
  pub num : (1 ≤ terms.num) × (terms.num ≤ RATE_TOP)
  pub den : (1 ≤ terms.den) × (terms.den ≤ RATE_TOP)
  pub piece : (1 ≤ terms.piece) × (terms.piece ≤ terms.source)

-- How far a payment has come in its state. Nothing was sent before it is funded, and each step behind that sends
-- something; a completed payment has sent its source.
abbrev pub IsAsFarAs : PaymentState → OutgoingRow → Type 0
IsAsFarAs states.Funding row = (row.sent ≡ 0) × (row.step ≡ 0)
IsAsFarAs states.Sending row = (row.sent < row.terms.source) × (row.step ≤ row.sent + 1)
IsAsFarAs states.Completed row = row.sent ≡ row.terms.source
IsAsFarAs states.Failed row = Unit {0}

-- the fee that was charged and the delivery are floors of the sum that was sent
pub record IsSoundRow (row : OutgoingRow) : Type 0 where
  pub priced : ArePriced row.terms
  pub sent : row.sent ≤ row.terms.source
  pub fee : row.fee ≡ share row.terms.fee row.sent row.terms.source
  pub delivered : row.delivered ≡ floor_mul row.sent row.terms.num row.terms.den
  pub far : IsAsFarAs row.state row
