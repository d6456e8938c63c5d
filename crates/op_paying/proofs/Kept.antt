-- Assets and pieces, as they are kept.
use Rattle.std.proofs.Common.{◌≡◌, ℕ, List, length, map, refl, ◌∙◌, sym, ap, Some, None, Option}
use Rattle.std.proofs.lemmas.List.{length-map}
use Rattle.std.specs.Prelude.{unwrap_or}
use Rattle.std.specs.Option.{option_map, option_map_or}
use Rattle.op_ledger.specs.Balances.{asset_in}
use Rattle.op_ledger.specs.declared.values.Balance.{Balance}
use Rattle.op_legal.proofs.Chains.{none_is_not, some_is}
use Rattle.op_model.specs.History.{AssetRow, nth, assets, no_asset, asset_row, address_asset}
use Rattle.op_model.specs.declared.act.Account.TheVariants.{Wallet}
use Rattle.op_model.specs.declared.act.Entry.{Entry}
use Rattle.op_paying.specs.Money.{IsMoneyOf}
use Rattle.op_paying.specs.declared.money.Money.{Money}
use Rattle.op_paying.proofs.StepReplies.{nth_map}

pub asset_or : (o : Option Balance) → unwrap_or (option_map (λ b. b.asset) o) 0 ≡ option_map_or (λ b. b.asset) o 0
asset_or None = refl
asset_or (Some b) = refl

-- the pieces of an address's asset, by what the ledger says that its asset is
pub pieces_kept : (history : List Entry) (money : Money) (address : ℕ) → IsMoneyOf history money → nth money.pieces.items (asset_in money.ledger (Wallet address)) ≡ option_map (λ row. row.pieces) (nth (assets history) (address_asset history address))
pieces_kept history money address is =
    ap (nth money.pieces.items) (is.stands.asset address) ∙ ap (λ (l : List ℕ). nth l (address_asset history address)) is.pieces_are
    ∙ nth_map (λ (row : AssetRow). row.pieces) (assets history) (address_asset history address)

pub count_pieces : (rows : List AssetRow) → length (map (λ (row : AssetRow). row.pieces) rows) ≡ length rows
count_pieces rows = length-map rows (λ (row : AssetRow). row.pieces)

some_pieces : (o : Option AssetRow) (p : ℕ) → option_map (λ (row : AssetRow). row.pieces) o ≡ Some p → p ≡ (unwrap_or o no_asset).pieces
some_pieces None p h = none_is_not p h
some_pieces (Some row) p h = sym (some_is row.pieces p h)

no_pieces : (o : Option AssetRow) → option_map (λ (row : AssetRow). row.pieces) o ≡ None → 1 ≡ (unwrap_or o no_asset).pieces
no_pieces None h = refl
no_pieces (Some row) h = absurd (let e : Some row.pieces ≡ None = h in cc)

pub pieces_there : (history : List Entry) (money : Money) (address p : ℕ) → IsMoneyOf history money → nth money.pieces.items (asset_in money.ledger (Wallet address)) ≡ Some p → p ≡ (asset_row history (address_asset history address)).pieces
pieces_there history money address p is at = some_pieces (nth (assets history) (address_asset history address)) p (sym (pieces_kept history money address is) ∙ at)

pub pieces_none : (history : List Entry) (money : Money) (address : ℕ) → IsMoneyOf history money → nth money.pieces.items (asset_in money.ledger (Wallet address)) ≡ None → 1 ≡ (asset_row history (address_asset history address)).pieces
pieces_none history money address is at = no_pieces (nth (assets history) (address_asset history address)) (sym (pieces_kept history money address is) ∙ at)
