-- Rounds: what the payload of a frame says.
use Rattle.std.specs.Prelude.{◌≡◌, ◌⊎◌, ℕ, ◌+◌, ◌<◌, List, [], ◌∷◌, ◌++◌, length, take, Result, Ok, Err}
use Rattle.std.specs.List.{flat_map, AllByRecursion}
use Rattle.op_model.specs.declared.act.Entry.{Entry}
use Rattle.op_record.specs.declared.RecordFault.{RecordFault}
use Rattle.op_record.specs.declared.RecordFault.TheVariants.{Short, Bad, Memory}
use Rattle.op_record.specs.Fields.{number}
use Rattle.op_record.specs.Records.{act_of, record_of}
use Rattle.op_record.specs.Recordable.{IsWritable, FitsTypes}
use Rattle.op_record.specs.Cuts.{HasRecord}

-- version 1: the records of the entries, one after another
abbrev pub records : List Entry → List ℕ
records entries = flat_map record_of entries

-- an entry without its moment: the kind of its act, and the act's fields
abbrev pub act_in : Entry → List ℕ
act_in entry = act_of entry.act

-- version 2: the byte 2, the one moment of the entries, and each entry without its moment
abbrev pub round_of : ℕ → List Entry → List ℕ
round_of at entries = 2 ∷ (number 8 at ++ flat_map act_in entries)

-- the moment of the first entry
abbrev pub moment_of : List Entry → ℕ
moment_of [] = 0
moment_of (entry ∷ entries) = entry.at

-- the entries have one moment
abbrev pub HaveOneMoment : List Entry → Type 0
HaveOneMoment entries = AllByRecursion (λ entry. entry.at ≡ moment_of entries) entries

-- an entry of a round of version 2 at this moment
abbrev pub IsInRound : ℕ → Entry → Type 0
IsInRound at entry = (entry.at ≡ at) × IsWritable entry × FitsTypes entry

-- the entries of a payload of version 1: one or more, each with a record
pub record IsRoundOfRecords (payload : List ℕ) (entries : List Entry) : Type 0 where
  pub some : 0 < length entries
  pub have : AllByRecursion HasRecord entries
  pub is : payload ≡ records entries

-- the entries of a payload of version 2: one or more, of one moment
pub record IsRoundOfOneMoment (payload : List ℕ) (entries : List Entry) : Type 0 where
  pub some : 0 < length entries
  pub at : ℕ
  pub have : AllByRecursion (IsInRound at) entries
  pub is : payload ≡ round_of at entries

-- the payload of a round, of either version, and its entries
abbrev pub IsRound : List ℕ → List Entry → Type 0
IsRound payload entries = IsRoundOfRecords payload entries ⊎ IsRoundOfOneMoment payload entries

-- this round was put behind the old entries, unless memory ran out
abbrev pub IsReadOrMemory : List Entry → List Entry → List Entry → Result (Unit {0}) RecordFault → Type 0
IsReadOrMemory round old new (Ok x) = new ≡ old ++ round
IsReadOrMemory round old new (Err Short) = ⊥
IsReadOrMemory round old new (Err (Bad at)) = ⊥
IsReadOrMemory round old new (Err Memory) = Unit {0}

-- ---- bytes that are no round

-- these bytes, and some behind them or none, are a round
pub record BeginsRound (bytes : List ℕ) : Type 0 where
  pub entries : List Entry
  pub more : List ℕ
  pub whole : IsRound (bytes ++ more) entries

-- a round begins so and goes on, and the bytes are no round themselves
abbrev pub IsCutRound : List ℕ → Type 0
IsCutRound bytes = BeginsRound bytes × ((entries : List Entry) → IsRound bytes entries → ⊥)

-- a round begins with the bytes before this place, and none with the byte there too
pub record IsBadRoundAt (bytes : List ℕ) (at : ℕ) : Type 0 where
  pub within : at < length bytes
  pub before : BeginsRound (take at bytes)
  pub never : BeginsRound (take (at + 1) bytes) → ⊥
