-- Lists of calls: what is posted and held is the sum over them.
use Rattle.std.specs.Prelude.{ℕ, ◌≡◌, ◌≤◌, ◌+◌, ◌-◌, false, not, ◌==◌, IsTrue, if◌then◌else◌, List, [], ◌∷◌, sum_by}
use Rattle.std.specs.List.{flat_map}
use Rattle.op_amount.specs.declared.TheConstants.{TOP}
use Rattle.op_model.specs.Balances.{Movement, comes, goes, came_to, went_from, is_same_account}
use Rattle.op_model.specs.declared.act.Account.{Account}
use Rattle.op_model.specs.declared.act.Account.TheVariants.{Outside, Fees}
use Rattle.op_ledger.specs.declared.values.Piece.{Piece}
use Rattle.op_ledger.specs.Balances.{LedgerValue, is_there, is_outside, IsInside, posted_in, held_in, available_in, asset_in, total_in, IsNumbered, moved, holding, opened, deposit_legs, withdrawal_legs}
use Rattle.op_ledger.specs.Pieces.{within_legs, between_legs, taken, with_piece, are_pools_there, lacks_liquidity}

-- a call that changed a ledger
pub data Call : Type 0 where
  Opened : (account : Account) (asset : ℕ) → Call
  Deposited : (account : Account) (value : ℕ) → Call
  Withdrawn : (account : Account) (value : ℕ) → Call
  Held : (account : Account) (value : ℕ) → Call
  Posted : (piece : Piece) → Call
  Voided : (account : Account) (value : ℕ) → Call

-- a piece can be posted
pub record CanPost (value : LedgerValue) (piece : Piece) : Type 0 where
  pub payer : IsInside value piece.payer
  pub payee : IsInside value piece.payee
  pub fees : IsTrue (is_there value (Fees (asset_in value piece.payer)))
  pub pools : IsTrue (are_pools_there value piece)
  pub covered : taken piece ≤ held_in value piece.payer
  pub liquid : lacks_liquidity value piece ≡ false

-- what a call asks for, and that it is not refused
abbrev pub CanCall : LedgerValue → Call → Type 0
CanCall value (Opened account asset) = IsTrue (not (is_there value account)) × IsNumbered account asset
CanCall value (Deposited account v) =
    IsInside value account × IsTrue (is_there value (Outside (asset_in value account))) × (total_in value (asset_in value account) + v ≤ TOP)
CanCall value (Withdrawn account v) =
    IsInside value account × IsTrue (is_there value (Outside (asset_in value account))) × (v ≤ available_in value account)
CanCall value (Held account v) = IsInside value account × (v ≤ available_in value account)
CanCall value (Posted piece) = CanPost value piece
CanCall value (Voided account v) = IsTrue (is_there value account) × (v ≤ held_in value account)

-- the ledger behind a call, as the call's contract has it
abbrev pub after_call : LedgerValue → Call → LedgerValue
after_call value (Opened account asset) = opened value account asset
after_call value (Deposited account v) = moved value (deposit_legs value account v)
after_call value (Withdrawn account v) = moved value (withdrawal_legs value account v)
after_call value (Held account v) = holding value account (λ h. h + v)
after_call value (Posted piece) = with_piece value piece
after_call value (Voided account v) = holding value account (λ h. h - v)

-- Calls that can be made one after another. A refused call changes nothing, so it stands in no such list.
abbrev pub AreCalls : LedgerValue → List Call → Type 0
AreCalls value [] = Unit {0}
AreCalls value (call ∷ calls) = CanCall value call × AreCalls (after_call value call) calls

abbrev pub after_calls : LedgerValue → List Call → LedgerValue
after_calls value [] = value
after_calls value (call ∷ calls) = after_calls (after_call value call) calls

abbrev pub no_accounts : LedgerValue
no_accounts = record { accounts = [] }

-- ---- the sums, by the asset of each account

abbrev pub call_legs : (Account → ℕ) → Call → List Movement
call_legs asset_of (Deposited account v) = comes v account ∷ goes v (Outside (asset_of account)) ∷ []
call_legs asset_of (Withdrawn account v) = goes v account ∷ comes v (Outside (asset_of account)) ∷ []
call_legs asset_of (Posted piece) =
    if asset_of piece.payer == asset_of piece.payee
    then within_legs (asset_of piece.payer) piece
    else between_legs (asset_of piece.payer) (asset_of piece.payee) piece
call_legs asset_of _ = []

abbrev pub calls_legs : (Account → ℕ) → List Call → List Movement
calls_legs asset_of calls = flat_map (call_legs asset_of) calls

-- what a call holds on an account, and what it frees there
abbrev pub held_by : Account → Call → ℕ
held_by account (Held a v) = if is_same_account a account then v else 0
held_by account _ = 0

abbrev pub freed_by : Account → Call → ℕ
freed_by account (Voided a v) = if is_same_account a account then v else 0
freed_by account (Posted piece) = if is_same_account piece.payer account then taken piece else 0
freed_by account _ = 0

-- A ledger's balances are sums over calls. No difference is cut off at zero: all that went from an account came to it.
pub record AreSums (value : LedgerValue) (asset_of : Account → ℕ) (calls : List Call) : Type 0 where
  pub posted :
      (account : Account) → is_outside account ≡ false →
      posted_in value account + went_from (calls_legs asset_of calls) account ≡ came_to (calls_legs asset_of calls) account
  pub total :
      (asset : ℕ) →
      total_in value asset + came_to (calls_legs asset_of calls) (Outside asset) ≡ went_from (calls_legs asset_of calls) (Outside asset)
  pub held : (account : Account) → held_in value account + sum_by (freed_by account) calls ≡ sum_by (held_by account) calls

-- behind any list of calls on a new ledger, with the assets of its accounts
abbrev pub BalancesAreSums : Type 0
BalancesAreSums =
    (calls : List Call) → AreCalls no_accounts calls →
    AreSums (after_calls no_accounts calls) (asset_in (after_calls no_accounts calls)) calls
