-- What the program does, and the exit status that it answers.
use Rattle.std.specs.Prelude.{ℕ, Bool, false, ◌&&◌, ◌==◌, not, nat_le, List, [], ◌∷◌, length, slice_index, codes}
use Rattle.std.specs.Str.{bytes_eq}
use Rattle.std.specs.declared.option.Option.{Option}
use Rattle.std.specs.declared.option.Option.TheVariants.{None, Some}
use Rattle.op_session.specs.declared.end.End.TheVariants.{Done, ReadFault, DiskFault, WriteFault, JournalFull, OutOfMemory, WordsFault, Malformed, TurnLimit}
use Rattle.op_session.specs.declared.status.Status.{Status}
use Rattle.op_session.specs.declared.status.Status.TheVariants.{Usage, Illegal, Ended}

-- ---- the words of the command line

-- a journal's name: not empty, at most 4096 bytes, no dash in front
abbrev pub is_journal : List ℕ → Bool
is_journal name = (nat_le 1 (length name) && nat_le (length name) 4096) && not (slice_index name 0 == 45)

-- `apply JOURNAL`
abbrev pub is_command : List (List ℕ) → Bool
is_command (command ∷ journal ∷ []) = bytes_eq command (codes "apply") && is_journal journal
is_command _ = false

-- ---- statuses

-- the number of each status
abbrev pub code_of : Status → ℕ
code_of (Ended Done) = 0
code_of Usage = 2
code_of Illegal = 3
code_of (Ended ReadFault) = 4
code_of (Ended DiskFault) = 5
code_of (Ended WriteFault) = 6
code_of (Ended JournalFull) = 7
code_of (Ended OutOfMemory) = 8
code_of (Ended WordsFault) = 9
code_of (Ended Malformed) = 10
code_of (Ended TurnLimit) = 11

-- what is said of it in one line on standard error: nothing where all went well
abbrev pub line_of : Status → Option (List ℕ)
line_of (Ended Done) = None
line_of Usage = Some (codes "usage: wallet apply JOURNAL")
line_of Illegal = Some (codes "wallet: the journal spells no legal history")
line_of (Ended ReadFault) = Some (codes "wallet: a read of the input failed")
line_of (Ended DiskFault) = Some (codes "wallet: a call on the journal's file failed")
line_of (Ended WriteFault) = Some (codes "wallet: a write of the output failed")
line_of (Ended JournalFull) = Some (codes "wallet: the journal is full")
line_of (Ended OutOfMemory) = Some (codes "wallet: memory was wanting")
line_of (Ended WordsFault) = Some (codes "wallet: no random bytes could be drawn")
line_of (Ended Malformed) = Some (codes "wallet: the rest of the input begins with no request")
line_of (Ended TurnLimit) = Some (codes "wallet: as many requests were answered as one session answers")
