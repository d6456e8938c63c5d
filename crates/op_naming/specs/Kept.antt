-- What is kept of the rows that have names.
use Rattle.std.specs.Prelude.{ℕ, ◌∷◌, List}
use Rattle.op_amount.specs.declared.Asset.{Asset}
use Rattle.op_model.specs.AdminAnswers.{Transfer}
use Rattle.op_model.specs.History.{AssetRow, AddressRow}
use Rattle.op_naming.specs.declared.kept.AssetKept.{AssetKept}
use Rattle.op_naming.specs.declared.kept.AddressKept.{AddressKept}
use Rattle.op_naming.specs.declared.kept.TransferKept.{TransferKept}

-- what is kept of a row
abbrev pub asset_kept : AssetRow → AssetKept
asset_kept row = record { asset = row.asset; pieces = row.pieces }

abbrev pub address_kept : AddressRow → AddressKept
address_kept row = record { path = row.path; asset = row.asset; name = row.name }

abbrev pub transfer_kept : Transfer → TransferKept
transfer_kept made = record { deposit = made.deposit; account = made.account; value = made.value }

-- what an asset, an address and a transfer are found by
abbrev pub asset_text : Asset → List ℕ
asset_text asset = asset.scale ∷ asset.code

abbrev pub asset_key : AssetRow → List ℕ
asset_key row = asset_text row.asset

abbrev pub address_key : AddressRow → List ℕ
address_key row = row.path

abbrev pub transfer_key : Transfer → List ℕ
transfer_key made = made.id
