-- What holds of all records.
use Rattle.std.specs.Prelude.{◌≡◌, ℕ, ◌<◌, List, [], ◌++◌, length, Ok}
use Rattle.std.specs.List.{AllByRecursion}
use Rattle.op_model.specs.declared.act.Entry.{Entry}
use Rattle.op_record.specs.Records.{record_of}
use Rattle.op_record.specs.Reading.{reading}
use Rattle.op_record.specs.Cuts.{HasRecord}
use Rattle.op_record.specs.Rounds.{records, act_in, round_of, IsInRound, IsRound}

-- no record begins another one, and no two entries have one record
abbrev pub NoRecordBeginsAnother : Type 0
NoRecordBeginsAnother = (a b : Entry) (more : List ℕ) → HasRecord a → HasRecord b → record_of a ++ more ≡ record_of b → (a ≡ b) × (more ≡ [])

-- records that stand one after another are cut in one way
abbrev pub AreCutOneWay : Type 0
AreCutOneWay = (a b : Entry) (x y : List ℕ) → HasRecord a → HasRecord b → record_of a ++ x ≡ record_of b ++ y → (a ≡ b) × (x ≡ y)

-- the same of what a round of version 2 has for each entry
abbrev pub NoActBeginsAnother : Type 0
NoActBeginsAnother = (at : ℕ) (a b : Entry) (more : List ℕ) → IsInRound at a → IsInRound at b → act_in a ++ more ≡ act_in b → (a ≡ b) × (more ≡ [])

-- a payload says one list of entries
abbrev pub IsReadOneWay : Type 0
IsReadOneWay = (payload : List ℕ) (a b : List Entry) → IsRound payload a → IsRound payload b → a ≡ b

-- The payloads of both versions for one list of entries of one moment, each of which has a record, say that list. (A payment
-- without a quote has none.)
abbrev pub BothVersionsSayIt : Type 0
BothVersionsSayIt = (at : ℕ) (entries : List Entry) → 0 < length entries → AllByRecursion (λ entry. (entry.at ≡ at) × HasRecord entry) entries
    → IsRound (records entries) entries × IsRound (round_of at entries) entries

-- what was written is read again, whatever follows
abbrev pub IsReadBack : Type 0
IsReadBack = (entry : Entry) (rest : List ℕ) → HasRecord entry → reading (record_of entry ++ rest) ≡ Ok (entry, length (record_of entry))
