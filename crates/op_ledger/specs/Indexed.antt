-- Balances, one for each account, with an index.
use Rattle.std.specs.Prelude.{ℕ, ◌≡◌, ◌<◌, List, [], ◌∷◌, map, length, Some, None, slice_get, if◌then◌else◌}
use Rattle.std.specs.Ordering.{nat_cmp}
use Rattle.std.specs.BTreeMap.{get}
use Rattle.std.specs.declared.option.Option.{Option}
use Rattle.op_model.specs.Balances.{is_same_account}
use Rattle.op_model.specs.declared.act.Account.{Account}
use Rattle.op_model.specs.declared.act.Account.TheVariants.{Outside, Pool, Fees, Wallet}
use Rattle.op_ledger.specs.declared.values.Balance.{Balance}
use Rattle.op_ledger.specs.declared.places.Places.{Places}
use Rattle.op_ledger.specs.Balances.{find_balance}

-- the place that an index has for an account
abbrev pub place_at : Places → Account → Option ℕ
place_at places (Outside number) = get nat_cmp places.outside number
place_at places (Pool number) = get nat_cmp places.pool number
place_at places (Fees number) = get nat_cmp places.fees number
place_at places (Wallet number) = get nat_cmp places.wallet number

-- an index that has one more account, and is as it was at all others
abbrev pub PlacesAlso : Places → Places → Account → ℕ → Type 0
PlacesAlso old new account place =
    (a : Account) → place_at new a ≡ (if is_same_account account a then Some place else place_at old a)

abbrev pub PlacesSame : Places → Places → Type 0
PlacesSame old new = (a : Account) → place_at new a ≡ place_at old a

-- each account stands once
abbrev pub AreDistinct : List Balance → Type 0
AreDistinct [] = Unit {0}
AreDistinct (b ∷ bs) = (find_balance bs b.account ≡ None) × AreDistinct bs

-- a place in the list is the one of an account, or the account is not there
abbrev pub IsPlaceOf : List Balance → Account → Option ℕ → Type 0
IsPlaceOf accounts account None = find_balance accounts account ≡ None
IsPlaceOf accounts account (Some place) = (place < length accounts) × (slice_get accounts place ≡ find_balance accounts account)

pub record IsIndexed (places : Places) (accounts : List Balance) : Type 0 where
  pub distinct : AreDistinct accounts
  pub placed : (account : Account) → IsPlaceOf accounts account (place_at places account)

-- one balance in place of the one that its account has
abbrev pub put_at : Balance → Balance → Balance
put_at balance b = if is_same_account b.account balance.account then balance else b

abbrev pub put : Balance → List Balance → List Balance
put balance accounts = map (put_at balance) accounts
