-- The parts of a wallet are what its history says, and go on with its next entry.
use Rattle.std.specs.Prelude.{ℕ, ◌≡◌, ◌<◌, ◌^◌, ◌||◌, Bool, List, [], ◌∷◌, ◌++◌, length}
use Rattle.op_granting.specs.Keeping.{IsGrantsOf}
use Rattle.op_granting.specs.Kinds.{is_on_grants}
use Rattle.op_granting.specs.Models.{next_place}
use Rattle.op_model.specs.Legal.{IsLegal, IsNext}
use Rattle.op_model.specs.declared.act.Act.{Act}
use Rattle.op_model.specs.declared.act.Entry.{Entry}
use Rattle.op_naming.specs.Added.{adds_name}
use Rattle.op_naming.specs.Names.{AreNames}
use Rattle.op_parts.specs.declared.parts.Parts.{Parts}
use Rattle.op_paying.specs.Money.{IsMoneyOf}
use Rattle.op_paying.specs.Taking.{makes_rows}

-- each part is what the history says of it
pub record AreParts (history : List Entry) (parts : Parts) : Type 0 where
  pub legal : IsLegal history
  pub names_are : AreNames history parts.names
  pub money_is : IsMoneyOf history parts.money
  pub grants_are : IsGrantsOf history parts.grants

-- the entry may follow the history, whose parts these are, at this place; the history is so short that each number fits
pub record MayFollow (history : List Entry) (parts : Parts) (place : ℕ) (e : Entry) : Type 0 where
  pub are : AreParts history parts
  pub follows : IsNext history e
  pub stands : place ≡ next_place history
  pub small : length history < 2 ^ 31

-- some history may go on so
abbrev pub MayGoOn : Parts → (place : ℕ) → Entry → Type 0
MayGoOn parts place e = (history : List Entry) × MayFollow history parts place e

-- the new parts are those of each such history with the entry behind it
abbrev pub GoOn : (old new : Parts) → (place : ℕ) → Entry → Type 0
GoOn old new place e = (history : List Entry) → MayFollow history old place e → AreParts (history ++ e ∷ []) new

-- the new parts are those of each history whose parts the old ones were
abbrev pub KeepHistories : (old new : Parts) → Type 0
KeepHistories old new = (history : List Entry) → AreParts history old → AreParts history new

-- an act that makes a row of money, adds a name or is on a grant
abbrev pub may_want_memory : Act → Bool
may_want_memory act = makes_rows act || (adds_name act || is_on_grants act)
