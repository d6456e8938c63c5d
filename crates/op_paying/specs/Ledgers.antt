-- The ledger that a history has.
use Rattle.std.specs.Prelude.{ℕ, ◌≡◌, ◌+◌, ◌⊎◌, true, false, List, is_some}
use Rattle.op_ledger.specs.Balances.{LedgerValue, is_there, is_outside, posted_in, held_in, asset_in, total_in, opened}
use Rattle.op_ledger.specs.Runs.{CanCall, Opened}
use Rattle.op_legal.specs.Numbers.{HasAsset}
use Rattle.op_ledger.specs.Sound.{IsSound}
use Rattle.op_model.specs.Balances.{movements, came_to, went_from, held}
use Rattle.op_model.specs.History.{nth, addresses, address_asset}
use Rattle.op_model.specs.declared.act.Account.{Account}
use Rattle.op_model.specs.declared.act.Account.TheVariants.{Outside, Pool, Fees, Wallet}
use Rattle.op_model.specs.declared.act.Entry.{Entry}

-- The ledger stands as the history says. What came to an account covers what went from it, so no difference is cut off
-- at zero. Accounts of an asset that is not there may be open: they stand at zero.
pub record StandsAs (history : List Entry) (ledger : LedgerValue) : Type 0 where
  pub sound : IsSound ledger
  pub outsides : (n : ℕ) → HasAsset history n → is_there ledger (Outside n) ≡ true
  pub pools : (n : ℕ) → HasAsset history n → is_there ledger (Pool n) ≡ true
  pub fees : (n : ℕ) → HasAsset history n → is_there ledger (Fees n) ≡ true
  pub wallets : (n : ℕ) → is_there ledger (Wallet n) ≡ is_some (nth (addresses history) n)
  pub asset : (n : ℕ) → asset_in ledger (Wallet n) ≡ address_asset history n
  pub posted : (a : Account) → is_outside a ≡ false → posted_in ledger a + went_from (movements history) a ≡ came_to (movements history) a
  pub total : (n : ℕ) → total_in ledger n + came_to (movements history) (Outside n) ≡ went_from (movements history) (Outside n)
  pub held_is : (a : Account) → held_in ledger a ≡ held history a

-- an account was opened, if it was not there
abbrev pub MayOpen : LedgerValue → LedgerValue → Account → ℕ → Type 0
MayOpen old new account asset = (new ≡ old) ⊎ (CanCall old (Opened account asset) × (new ≡ opened old account asset))

-- the accounts of an asset are there
pub record AreOpen (ledger : LedgerValue) (n : ℕ) : Type 0 where
  pub outside : is_there ledger (Outside n) ≡ true
  pub pool : is_there ledger (Pool n) ≡ true
  pub fees : is_there ledger (Fees n) ≡ true
