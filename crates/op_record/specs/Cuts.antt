-- What bytes are that begin no whole record.
use Rattle.std.specs.Prelude.{◌≡◌, ◌≢◌, ℕ, ◌+◌, ◌<◌, ◌≤◌, List, ◌++◌, length, take, Result, Ok, Err}
use Rattle.op_model.specs.declared.act.Entry.{Entry}
use Rattle.op_record.specs.Records.{record_of}
use Rattle.op_record.specs.Recordable.{IsRecordable, FitsTypes}
use Rattle.op_record.specs.declared.RecordFault.{RecordFault}
use Rattle.op_record.specs.declared.RecordFault.TheVariants.{Short, Bad, Memory}

-- an entry that has a record
abbrev pub HasRecord : Entry → Type 0
HasRecord entry = IsRecordable entry × FitsTypes entry

-- the first bytes, so many, are the entry's record
pub record IsFound (bytes : List ℕ) (entry : Entry) (taken : ℕ) : Type 0 where
  pub has : HasRecord entry
  pub within : taken ≤ length bytes
  pub record_is : take taken bytes ≡ record_of entry

-- a record begins so, and goes on
pub record IsCut (bytes : List ℕ) : Type 0 where
  pub entry : Entry
  pub has : HasRecord entry
  pub more : List ℕ
  pub some : 0 < length more
  pub whole : bytes ++ more ≡ record_of entry

-- a record begins with the bytes before this place, and none with the byte there too
pub record IsBadAt (bytes : List ℕ) (at : ℕ) : Type 0 where
  pub within : at < length bytes
  pub before : IsCut (take at bytes)
  pub never : (entry : Entry) (more : List ℕ) → HasRecord entry → take (at + 1) bytes ++ more ≢ record_of entry

-- the result is this one, unless memory ran out
abbrev pub IsUnlessMemory : {X : Type 0} → Result X RecordFault → Result X RecordFault → Type 0
IsUnlessMemory (Ok x) wanted = wanted ≡ Ok x
IsUnlessMemory (Err Memory) wanted = Unit {0}
IsUnlessMemory (Err Short) wanted = wanted ≡ Err Short
IsUnlessMemory (Err (Bad at)) wanted = wanted ≡ Err (Bad at)
