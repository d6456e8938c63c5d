-- A piece that a ledger posts.
use Rattle.std.specs.Prelude.{ℕ, ◌≡◌, ◌≢◌, ◌≤◌, ◌+◌, ◌-◌, Bool, IsTrue, not, ◌&&◌, ◌||◌, ◌==◌, nat_lt, List, [], ◌∷◌, if◌then◌else◌}
use Rattle.op_model.specs.Balances.{Movement, comes, goes}
use Rattle.op_model.specs.declared.act.Account.TheVariants.{Fees, Pool}
use Rattle.op_ledger.specs.Balances.{LedgerValue, is_there, IsInside, asset_in, available_in, moved, holding}
use Rattle.op_ledger.specs.Indexed.{AreDistinct}
use Rattle.op_ledger.specs.declared.values.Piece.{Piece}

-- The movements of a piece within an asset: the payee gets what is sent.
abbrev pub within_legs : (asset : ℕ) → Piece → List Movement
within_legs asset piece =
    goes (piece.sent + piece.fee) piece.payer ∷ comes piece.fee (Fees asset) ∷ comes piece.sent piece.payee ∷ []

-- The movements of a piece between two assets: the pool of the payer's asset gets what is sent, and the pool of the
-- payee's gives what is delivered.
abbrev pub between_legs : (source target : ℕ) → Piece → List Movement
between_legs source target piece =
    goes (piece.sent + piece.fee) piece.payer ∷ comes piece.fee (Fees source) ∷ comes piece.sent (Pool source)
    ∷ goes piece.delivered (Pool target) ∷ comes piece.delivered piece.payee ∷ []

abbrev pub is_within_one_asset : LedgerValue → Piece → Bool
is_within_one_asset value piece = asset_in value piece.payer == asset_in value piece.payee

abbrev pub piece_legs : LedgerValue → Piece → List Movement
piece_legs value piece =
    if is_within_one_asset value piece
    then within_legs (asset_in value piece.payer) piece
    else between_legs (asset_in value piece.payer) (asset_in value piece.payee) piece

-- what the piece takes from the payer
abbrev pub taken : Piece → ℕ
taken piece = piece.sent + piece.fee

-- the ledger behind a piece: so much less held on the payer, and its movements
abbrev pub with_piece : LedgerValue → Piece → LedgerValue
with_piece value piece = moved (holding value piece.payer (λ h. h - taken piece)) (piece_legs value piece)

-- the pools of both assets are there, or are not needed
abbrev pub are_pools_there : LedgerValue → Piece → Bool
are_pools_there value piece =
    is_within_one_asset value piece
    || (is_there value (Pool (asset_in value piece.payer)) && is_there value (Pool (asset_in value piece.payee)))

-- the target's pool does not have what the piece delivers
abbrev pub lacks_liquidity : LedgerValue → Piece → Bool
lacks_liquidity value piece =
    not (is_within_one_asset value piece)
    && nat_lt (available_in value (Pool (asset_in value piece.payee))) piece.delivered

-- the movements of a piece within an asset can be made
pub record CanMoveWithin (value : LedgerValue) (asset : ℕ) (piece : Piece) : Type 0 where
  pub payer : IsInside value piece.payer
  pub payee : IsInside value piece.payee
  pub fees : IsTrue (is_there value (Fees asset))
  pub payer_asset : asset_in value piece.payer ≡ asset
  pub payee_asset : asset_in value piece.payee ≡ asset
  pub fees_asset : asset_in value (Fees asset) ≡ asset
  pub covered : taken piece ≤ available_in value piece.payer
  pub distinct : AreDistinct value.accounts

-- the movements of a piece between two assets can be made
pub record CanMoveBetween (value : LedgerValue) (source target : ℕ) (piece : Piece) : Type 0 where
  pub payer : IsInside value piece.payer
  pub payee : IsInside value piece.payee
  pub fees : IsTrue (is_there value (Fees source))
  pub source_pool : IsTrue (is_there value (Pool source))
  pub target_pool : IsTrue (is_there value (Pool target))
  pub payer_asset : asset_in value piece.payer ≡ source
  pub payee_asset : asset_in value piece.payee ≡ target
  pub fees_asset : asset_in value (Fees source) ≡ source
  pub source_pool_asset : asset_in value (Pool source) ≡ source
  pub target_pool_asset : asset_in value (Pool target) ≡ target
  pub two_assets : source ≢ target
  pub covered : taken piece ≤ available_in value piece.payer
  pub liquid : piece.delivered ≤ available_in value (Pool target)
  pub distinct : AreDistinct value.accounts
