-- What is seen of a wallet.
use Rattle.std.specs.Prelude.{ℕ, List, [], ◌∷◌, ◌++◌}
use Rattle.std.specs.declared.option.Option.{Option}
use Rattle.op_model.specs.declared.act.Entry.{Entry}
use Rattle.op_parts.specs.Parts.{AreParts}
use Rattle.op_wallet.specs.declared.wallet.Wallet.TheInside.{Inside}

pub record WalletValue : Type 0 where
  -- the entries, those of the open round at the end
  pub history : List Entry
  -- the moment of the open round, if one is open, and its entries
  pub moment : Option ℕ
  pub round : List Entry
  -- so many steps, expiries and attempts more take no memory
  pub spare : ℕ

abbrev pub wallet_of : Inside → WalletValue
wallet_of w =
    record {
      history = w.history.packed.entries;
      moment = w.history.packed.moment;
      round = w.history.packed.round;
      spare = w.history.spare;
    }

-- the parts of a wallet are those of its history
abbrev pub IsWhole : Inside → Type 0
IsWhole w = AreParts w.history.packed.entries w.parts

-- the wallet with one entry more
abbrev pub with_taken : WalletValue → Entry → WalletValue
with_taken w entry = record { history = w.history ++ entry ∷ []; moment = w.moment; round = w.round ++ entry ∷ []; spare = w.spare }
