-- A legal entry has a record of version 2.
use Rattle.std.specs.Prelude.{◌^◌, ◌<◌, List, length}
use Rattle.op_model.specs.History.{assets, addresses}
use Rattle.op_model.specs.Legal.{IsLegal, IsNext}
use Rattle.op_model.specs.declared.act.Act.{Act}
use Rattle.op_model.specs.declared.act.Act.TheVariants as acts
use Rattle.op_model.specs.declared.act.Entry.{Entry}
use Rattle.op_record.specs.Recordable.{IsWord, IsWritable, FitsTypes}

-- so many that each number fits its type
pub record AreCounted (history : List Entry) : Type 0 where
  pub of_assets : length (assets history) < 2 ^ 32
  pub of_addresses : length (addresses history) < 2 ^ 32
  pub of_entries : length history < 2 ^ 63

-- a word that an act draws has sixteen bytes
abbrev pub DrawsWord : Act → Type 0
DrawsWord (acts.GrantAsked client items finish word) = IsWord word
DrawsWord (acts.GrantAccepted grant word) = IsWord word
DrawsWord (acts.GrantRejected grant word) = IsWord word
DrawsWord (acts.GrantContinued grant word) = IsWord word
DrawsWord (acts.TokenRotated grant word) = IsWord word
DrawsWord _ = Unit {0}

abbrev pub EntriesHaveRecords : Type 0
EntriesHaveRecords =
    (history : List Entry) (e : Entry) → IsLegal history → IsNext history e → AreCounted history → DrawsWord e.act → IsWritable e × FitsTypes e
