-- The shipped fee rule.
use Rattle.std.specs.Prelude.{◌≡◌, ◌≤◌, ℕ}
use Rattle.std.proofs.Common.{arith}
use Rattle.op_amount.specs.Rates.{ceil_div}

-- one percent of an amount, rounded up
abbrev pub one_percent : ℕ → ℕ
one_percent amount = ceil_div amount 100

-- it is within the amount
pub one_percent_at_most : (amount fee : ℕ) → fee ≡ one_percent amount → fee ≤ amount
one_percent_at_most amount fee is = omega arith
