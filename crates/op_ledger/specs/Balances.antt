-- A ledger: each account with what is posted and held on it.
use Rattle.std.specs.Prelude.{ℕ, ◌≡◌, ◌+◌, ◌-◌, Bool, true, false, not, ◌&&◌, IsTrue, if◌then◌else◌, List, [], ◌∷◌, ◌++◌, map}
use Rattle.std.specs.List.{find}
use Rattle.std.specs.Option.{option_map_or, is_some}
use Rattle.std.specs.declared.option.Option.{Option}
use Rattle.op_model.specs.Balances.{Movement, comes, goes, came_to, went_from, is_same_account}
use Rattle.op_model.specs.declared.act.Account.{Account}
use Rattle.op_model.specs.declared.act.Account.TheVariants.{Outside, Pool, Fees, Wallet}
use Rattle.op_ledger.specs.declared.values.Balance.{Balance}

-- The accounts in the order in which they were opened. `Outside` stands below zero by what is posted on it here: that
-- is its asset's total.
pub record LedgerValue : Type 0 where
  pub accounts : List Balance

-- the balance of an account, if it is there
abbrev pub find_balance : List Balance → Account → Option Balance
find_balance accounts account = find (λ b. is_same_account b.account account) accounts

abbrev pub balance_of : LedgerValue → Account → Option Balance
balance_of value account = find_balance value.accounts account

abbrev pub is_there : LedgerValue → Account → Bool
is_there value account = is_some (balance_of value account)

abbrev pub posted_in : LedgerValue → Account → ℕ
posted_in value account = option_map_or (λ b. b.posted) (balance_of value account) 0

abbrev pub held_in : LedgerValue → Account → ℕ
held_in value account = option_map_or (λ b. b.held) (balance_of value account) 0

abbrev pub available_in : LedgerValue → Account → ℕ
available_in value account = posted_in value account - held_in value account

abbrev pub asset_in : LedgerValue → Account → ℕ
asset_in value account = option_map_or (λ b. b.asset) (balance_of value account) 0

abbrev pub total_in : LedgerValue → ℕ → ℕ
total_in value asset = posted_in value (Outside asset)

abbrev pub is_outside : Account → Bool
is_outside (Outside asset) = true
is_outside _ = false

-- an account is there, and is not `Outside`
abbrev pub IsInside : LedgerValue → Account → Type 0
IsInside value account = IsTrue (is_there value account && not (is_outside account))

-- the accounts of an asset have its number
abbrev pub IsNumbered : Account → ℕ → Type 0
IsNumbered (Outside number) asset = number ≡ asset
IsNumbered (Pool number) asset = number ≡ asset
IsNumbered (Fees number) asset = number ≡ asset
IsNumbered (Wallet number) asset = Unit {0}

-- ---- changes

-- a balance behind movements
abbrev pub moved_balance : List Movement → Balance → Balance
moved_balance moves b =
    if is_outside b.account
    then record b { posted = b.posted + went_from moves b.account - came_to moves b.account }
    else record b { posted = b.posted + came_to moves b.account - went_from moves b.account }

-- the ledger behind movements
abbrev pub moved : LedgerValue → List Movement → LedgerValue
moved value moves = record value { accounts = map (moved_balance moves) value.accounts }

abbrev pub with_held : Account → (ℕ → ℕ) → Balance → Balance
with_held account change b = if is_same_account b.account account then record b { held = change b.held } else b

-- the ledger behind a change of what is held on an account
abbrev pub holding : LedgerValue → Account → (ℕ → ℕ) → LedgerValue
holding value account change = record value { accounts = map (with_held account change) value.accounts }

-- an account that was opened stands at zero
abbrev pub opened : LedgerValue → Account → ℕ → LedgerValue
opened value account asset =
    record value { accounts = value.accounts ++ record { account = account; asset = asset; posted = 0; held = 0 } ∷ [] }

-- ---- the movements of the calls

-- a deposit comes from outside, and a withdrawal goes there
abbrev pub deposit_legs : LedgerValue → Account → ℕ → List Movement
deposit_legs value account v = comes v account ∷ goes v (Outside (asset_in value account)) ∷ []

abbrev pub withdrawal_legs : LedgerValue → Account → ℕ → List Movement
withdrawal_legs value account v = goes v account ∷ comes v (Outside (asset_in value account)) ∷ []

-- from one account to another
abbrev pub transfer_legs : Account → Account → ℕ → List Movement
transfer_legs source target v = goes v source ∷ comes v target ∷ []
