-- What is seen of a batch, and of a desk.
use Rattle.std.specs.Prelude.{◌≡◌, ℕ, Bool, not, List, ◌++◌, Some}
use Rattle.std.specs.List.{count_by}
use Rattle.std.specs.declared.option.Option.{Option}
use Rattle.op_model.specs.declared.act.Entry.{Entry}
use Rattle.op_desk.specs.Wallets.{WalletValue}

pub record BatchValue : Type 0 where
  -- the history at which the round began
  pub begun : List Entry
  -- the moment of its tasks
  pub moment : ℕ
  -- the round's entries so far
  pub entries : List Entry
  -- of each index, the place of its task in the round, and whether it was used
  pub places : List ℕ
  pub used : List Bool

-- the history with the round's entries so far
abbrev pub history_in : BatchValue → List Entry
history_in batch = batch.begun ++ batch.entries

-- so many indexes are left
abbrev pub unused : List Bool → ℕ
unused used = count_by not used

pub record DeskValue : Type 0 where
  -- the place of the journal's closed gate
  pub tail : ℕ
  -- whether a commit met a fault of the disk
  pub closed : Bool
  -- the wallet, unless a round runs or was refused
  pub wallet : Option WalletValue

-- a desk is whole: it has its wallet, and that has this history
abbrev pub IsWhole : Option WalletValue → List Entry → Type 0
IsWhole wallet history = wallet ≡ Some (record { history = history })
