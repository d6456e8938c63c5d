-- The names that an act adds.
use Rattle.std.specs.Prelude.{ℕ, ◌≡◌, ◌+◌, ◌<◌, ◌^◌, Bool, true, false, List, None, IsTrue}
use Rattle.op_amount.specs.Code.{is_asset_code}
use Rattle.op_model.specs.AdminAnswers.{transfer_named, transfer_act, transfer_of}
use Rattle.op_model.specs.History.{asset_number, path_number, origin_set, asset_added, address_added, rate_set}
use Rattle.op_model.specs.declared.act.Act.{Act}
use Rattle.op_model.specs.declared.act.Act.TheVariants as acts
use Rattle.op_model.specs.declared.act.Entry.{Entry}
use Rattle.op_naming.specs.Kept.{asset_text}
use Rattle.op_naming.specs.Names.{HasAssetRoom, HasAddressRoom, HasTransferRoom}
use Rattle.op_naming.specs.Rates.{rates_room}
use Rattle.op_naming.specs.declared.added.Added.{Added}
use Rattle.op_naming.specs.declared.added.Added.TheVariants.{Nothing, OfOrigin, OfAsset, OfAddress, OfTransfer, OfRate}
use Rattle.op_naming.specs.declared.names.Names.{Names}

abbrev pub adds_name : Act → Bool
adds_name (acts.OriginSet origin) = true
adds_name (acts.AssetAdded code scale pieces) = true
adds_name (acts.AddressAdded path asset name) = true
adds_name (acts.Deposited transfer account value) = true
adds_name (acts.Withdrawn transfer account value) = true
adds_name (acts.RateSet source target num den) = true
adds_name _ = false

-- an act that adds no origin, asset, address, transfer or rate
pub record AddsNone (act : Act) : Type 0 where
  pub origin : origin_set act ≡ None
  pub asset : asset_added act ≡ None
  pub address : address_added act ≡ None
  pub transfer : transfer_of act ≡ None
  pub rate : (source target : ℕ) → rate_set source target act ≡ None

-- the code of an asset is one
abbrev pub IsCoded : Act → Type 0
IsCoded (acts.AssetAdded code scale pieces) = IsTrue (is_asset_code code)
IsCoded _ = Unit {0}

-- what was prepared is what the act adds
abbrev pub IsAddedBy : Act → Added → Type 0
IsAddedBy act Nothing = adds_name act ≡ false
IsAddedBy act (OfOrigin origin) = act ≡ acts.OriginSet origin
IsAddedBy act (OfAsset key asset pieces) = (act ≡ acts.AssetAdded asset.code asset.scale pieces) × (key.items ≡ asset_text asset)
IsAddedBy act (OfAddress key row) = (act ≡ acts.AddressAdded row.path row.asset row.name) × (key.items ≡ row.path)
IsAddedBy act (OfTransfer id made) = act ≡ transfer_act made.deposit id.items made.account made.value
IsAddedBy act (OfRate source target rate) = act ≡ acts.RateSet source target rate.num rate.den

-- the text that it is found by is its own
abbrev pub IsKeyed : Added → Type 0
IsKeyed (OfAsset key asset pieces) = key.items ≡ asset_text asset
IsKeyed (OfAddress key row) = key.items ≡ row.path
IsKeyed _ = Unit {0}

-- there is room for it
abbrev pub HasRoom : Names → Added → Type 0
HasRoom names Nothing = Unit {0}
HasRoom names (OfOrigin origin) = Unit {0}
HasRoom names (OfAsset key asset pieces) = HasAssetRoom names
HasRoom names (OfAddress key row) = HasAddressRoom names
HasRoom names (OfTransfer id made) = HasTransferRoom names
HasRoom names (OfRate source target rate) = 0 < rates_room names.rates

-- it is not there yet
abbrev pub IsFresh : List Entry → Added → Type 0
IsFresh history (OfAsset key asset pieces) = asset_number history asset ≡ None
IsFresh history (OfAddress key row) = path_number history row.path ≡ None
IsFresh history (OfTransfer id made) = transfer_named history id.items ≡ None
IsFresh history _ = Unit {0}

-- one name more of each kind has a number
pub record AreFew (names : Names) : Type 0 where
  pub of_assets : names.codes.count + 1 < 2 ^ 32
  pub of_addresses : names.paths.count + 1 < 2 ^ 32
  pub of_transfers : names.ids.count + 1 < 2 ^ 32
