-- How the entries of a round are read: what was read, and where reading stopped.
use Rattle.std.specs.Prelude.{◌≡◌, ℕ, ◌<◌, ◌≤◌, ◌-◌, List, ◌++◌, length, Option, Some, None, Result, Ok, Err}
use Rattle.std.specs.List.{flat_map, AllByRecursion}
use Rattle.op_model.specs.declared.act.Entry.{Entry}
use Rattle.op_record.specs.declared.fault.Fault.{Fault}
use Rattle.op_record.specs.declared.RecordFault.{RecordFault}
use Rattle.op_record.specs.declared.RecordFault.TheVariants as faults
use Rattle.op_record.specs.Records.{record_of}
use Rattle.op_record.specs.Cuts.{HasRecord}
use Rattle.op_record.specs.Rounds.{act_in, IsInRound, IsRound, IsCutRound, IsBadRoundAt}
use Rattle.op_record.specs.Readers.{Reader}
use Rattle.op_record.specs.Rows.{entry_at, entry_of_round_at}

-- an entry with its moment, or one whose moment was said before
abbrev pub entry_with : Option ℕ → Reader Entry
entry_with None = entry_at
entry_with (Some at) = entry_of_round_at at

abbrev pub text_with : Option ℕ → Entry → List ℕ
text_with None = record_of
text_with (Some at) = act_in

abbrev pub FitsWith : Option ℕ → Entry → Type 0
FitsWith None = HasRecord
FitsWith (Some at) = IsInRound at

-- the bytes are one or more entries, and these were put behind the old ones
pub record AreRead (said : Option ℕ) (bytes : List ℕ) (old new : List Entry) : Type 0 where
  pub round : List Entry
  pub some : 0 < length round
  pub have : AllByRecursion (FitsWith said) round
  pub is : bytes ≡ flat_map (text_with said) round
  pub grown : new ≡ old ++ round

-- a payload is a round, whose entries were put behind the old ones
pub record IsReadRound (payload : List ℕ) (old new : List Entry) : Type 0 where
  pub round : List Entry
  pub is : IsRound payload round
  pub grown : new ≡ old ++ round

-- the bytes begin with these entries, and behind them none is read; where one was read, bytes are left
pub record StopsAt (said : Option ℕ) (bytes : List ℕ) (fault : Fault) : Type 0 where
  pub entries : List Entry
  pub rest : List ℕ
  pub have : AllByRecursion (FitsWith said) entries
  pub split : bytes ≡ flat_map (text_with said) entries ++ rest
  pub left : 0 < length entries → 0 < length rest
  pub fails : entry_with said rest ≡ Err fault

-- so many bytes are left from the place on with which no round goes on
pub record IsLeft (payload : List ℕ) (left : ℕ) : Type 0 where
  pub within : left ≤ length payload
  pub bad : IsBadRoundAt payload (length payload - left)

-- what a result says of a payload
abbrev pub Says : List ℕ → List Entry → List Entry → Result (Unit {0}) RecordFault → Type 0
Says payload old new (Ok x) = IsReadRound payload old new
Says payload old new (Err faults.Short) = IsCutRound payload
Says payload old new (Err (faults.Bad at)) = IsBadRoundAt payload at
Says payload old new (Err faults.Memory) = Unit {0}

-- old ones, and some more or none
abbrev pub Grows : List Entry → List Entry → Type 0
Grows old new = (more : List Entry) × (new ≡ old ++ more)
