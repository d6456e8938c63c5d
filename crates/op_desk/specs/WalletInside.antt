-- What a wallet keeps beside its history.
use Rattle.std.specs.Prelude.{◌≡◌, ◌*◌, ◌≤◌, List}
use Rattle.std.specs.List.{list_any}
use Rattle.op_amount.specs.Asset.{is_same_asset}
use Rattle.op_amount.specs.declared.Asset.{Asset}
use Rattle.op_model.specs.History.{last_moment, origin_of}
use Rattle.op_model.specs.declared.act.Entry.{Entry}
use Rattle.op_desk.specs.Answers.{adds}
use Rattle.op_desk.specs.Wallets.{WalletState, IsSound}
use Rattle.op_desk.specs.declared.wallet.TheConstants.{STEP_LENGTH}
use Rattle.op_desk.specs.declared.wallet.Wallet.TheInside.{Inside}

abbrev pub wallet_of : Inside → WalletState
wallet_of w = record { history = w.history.entries; moment = w.history.moment; round = w.history.round; spare = w.spare }

-- the entry adds this asset, and no other one
abbrev pub IsAddedBy : Entry → Asset → Type 0
IsAddedBy entry asset = (other : Asset) → adds other entry ≡ is_same_asset asset other

-- an asset is listed exactly where an entry adds it
abbrev pub AreAdded : List Asset → List Entry → Type 0
AreAdded assets history = (asset : Asset) → list_any (λ listed. is_same_asset listed asset) assets ≡ list_any (adds asset) history

pub record IsKept (w : Inside) : Type 0 where
  pub sound : IsSound w.history.entries
  pub assets : AreAdded w.assets.items w.history.entries
  pub last : w.last ≡ last_moment w.history.entries
  pub origin : w.origin ≡ origin_of w.history.entries
  pub spare : STEP_LENGTH * w.spare ≤ w.history.room
