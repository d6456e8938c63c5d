-- The names that a history has.
use Rattle.std.specs.Prelude.{ℕ, ◌≡◌, ◌==◌, Bool, not, ◌<◌, List, length, map, vec_len, vec_capacity}
use Rattle.op_model.specs.AdminAnswers.{transfers}
use Rattle.op_model.specs.History.{origin_of, origins, assets, addresses}
use Rattle.op_model.specs.declared.act.Entry.{Entry}
use Rattle.op_naming.specs.Indexes.{IsIndexOf, IsSameIndex, room_in}
use Rattle.op_naming.specs.Kept.{asset_kept, address_kept, transfer_kept, asset_key, address_key, transfer_key}
use Rattle.op_naming.specs.Rates.{AreRatesOf, rate_in}
use Rattle.op_naming.specs.declared.names.Names.{Names}

-- an origin was set
abbrev pub has_origin : List Entry → Bool
has_origin history = not (length (origins history) == 0)

pub record AreNames (history : List Entry) (names : Names) : Type 0 where
  pub origin_is : names.origin ≡ origin_of history
  pub fixed : names.is_set ≡ has_origin history
  pub assets_are : names.assets.items ≡ map asset_kept (assets history)
  pub codes_are : IsIndexOf names.codes (map asset_key (assets history))
  pub addresses_are : names.addresses.items ≡ map address_kept (addresses history)
  pub paths_are : IsIndexOf names.paths (map address_key (addresses history))
  pub transfers_are : names.transfers.items ≡ map transfer_kept (transfers history)
  pub ids_are : IsIndexOf names.ids (map transfer_key (transfers history))
  pub rates_are : AreRatesOf history names.rates

-- ---- room for one more

pub record HasAssetRoom (names : Names) : Type 0 where
  pub rows : vec_len names.assets < vec_capacity names.assets
  pub codes : 0 < room_in names.codes

pub record HasAddressRoom (names : Names) : Type 0 where
  pub rows : vec_len names.addresses < vec_capacity names.addresses
  pub paths : 0 < room_in names.paths

pub record HasTransferRoom (names : Names) : Type 0 where
  pub rows : vec_len names.transfers < vec_capacity names.transfers
  pub ids : 0 < room_in names.ids

-- the same names, whatever the room
pub record AreAlike (old new : Names) : Type 0 where
  pub origin : new.origin ≡ old.origin
  pub fixed : new.is_set ≡ old.is_set
  pub of_assets : new.assets.items ≡ old.assets.items
  pub of_codes : IsSameIndex old.codes new.codes
  pub of_addresses : new.addresses.items ≡ old.addresses.items
  pub of_paths : IsSameIndex old.paths new.paths
  pub of_transfers : new.transfers.items ≡ old.transfers.items
  pub of_ids : IsSameIndex old.ids new.ids
  pub of_rates : (source target : ℕ) → rate_in new.rates source target ≡ rate_in old.rates source target
