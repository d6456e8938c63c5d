-- What holds of every ledger.
use Rattle.std.specs.Prelude.{ℕ, ◌≡◌, ◌≤◌, not, ◌&&◌, ◌==◌, if◌then◌else◌, sum_by, All}
use Rattle.op_amount.specs.declared.TheConstants.{TOP}
use Rattle.op_ledger.specs.declared.values.Balance.{Balance}
use Rattle.op_ledger.specs.Balances.{LedgerValue, is_outside, IsNumbered, total_in}
use Rattle.op_ledger.specs.Indexed.{AreDistinct}

-- what may be held on an account: nothing outside
abbrev pub backing : Balance → ℕ
backing b = if is_outside b.account then 0 else b.posted

-- what an account adds to its asset: nothing outside
abbrev pub inside_part : ℕ → Balance → ℕ
inside_part asset b = if not (is_outside b.account) && (b.asset == asset) then b.posted else 0

-- all that stands in the asset's pool, fees and wallets
abbrev pub inside : LedgerValue → ℕ → ℕ
inside value asset = sum_by (inside_part asset) value.accounts

pub record IsSound (value : LedgerValue) : Type 0 where
  -- each account was opened once, in its asset
  pub distinct : AreDistinct value.accounts
  pub numbered : All (λ b. IsNumbered b.account b.asset) value.accounts
  -- no account but `Outside` has less available than zero, and nothing is held on `Outside`
  pub covered : All (λ b. b.held ≤ backing b) value.accounts
  -- over its four kinds of accounts an asset sums to zero: `Outside` stands below zero by what the others have
  pub balanced : (asset : ℕ) → inside value asset ≡ total_in value asset
  -- no total passes the largest value
  pub at_most_top : (asset : ℕ) → total_in value asset ≤ TOP
