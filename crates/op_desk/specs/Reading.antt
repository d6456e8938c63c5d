-- Where reading a journal from the front first fails: frame by frame, of each frame first its payload, then the legality of its entries.
use Rattle.std.specs.Prelude.{◌≡◌, ◌≢◌, ◌⊎◌, ◌<◌, ◌+◌, ℕ, List, ◌∷◌, ◌++◌, length, take}
use Rattle.op_model.specs.declared.act.Entry.{Entry}
use Rattle.op_record.specs.Rounds.{IsRound, IsCutRound, IsBadRoundAt}
use Rattle.op_journal.specs.Frames.{Holds, IsFrameAt, IsBadFrame, header}
use Rattle.op_desk.specs.Spelling.{AreRounds, history_of}
use Rattle.op_desk.specs.Wallets.{IsSound, IsTaken}
use Rattle.op_desk.specs.declared.fault.DeskFault.{DeskFault}
use Rattle.op_desk.specs.declared.fault.DeskFault.TheVariants as faults

-- a disk of more than 9 bytes does not begin with the header
pub record IsBadHeader (bytes : List ℕ) : Type 0 where
  pub long : 9 < length bytes
  pub strange : take 8 bytes ≢ header

-- a disk of more than 9 bytes has the frames of these rounds, which are legal, and then a gate at this place
pub record IsReadTo (rounds : List (List Entry)) (place : ℕ) (bytes : List ℕ) : Type 0 where
  pub long : 9 < length bytes
  pub payloads : List (List ℕ)
  pub are : AreRounds payloads rounds
  pub holds : Holds payloads place bytes
  pub sound : IsSound (history_of rounds)

-- behind the rounds that were read stands a bad frame
pub record FailsAtFrame (bytes : List ℕ) (at : ℕ) : Type 0 where
  pub rounds : List (List Entry)
  pub read : IsReadTo rounds at bytes
  pub bad : IsBadFrame at bytes

-- A payload is no round: it ends within one, and the place is that behind it; or at this place stands the first byte with which no
-- round of either version begins or goes on.
abbrev pub IsBrokenAt : List ℕ → ℕ → Type 0
IsBrokenAt payload at = (IsCutRound payload × (at ≡ length payload)) ⊎ IsBadRoundAt payload at

-- behind the rounds that were read stands a whole frame, whose payload is no round
pub record FailsAtRecord (bytes : List ℕ) (at : ℕ) : Type 0 where
  pub rounds : List (List Entry)
  pub gate : ℕ
  pub payload : List ℕ
  pub within : ℕ
  pub read : IsReadTo rounds gate bytes
  pub frame : IsFrameAt gate payload bytes
  pub broken : IsBrokenAt payload within
  pub place : at ≡ gate + 5 + within

-- of the entries that are to follow a history, the one of this number, counted from the history's first, may not follow those before it
pub record StopsAtEntry (history entries : List Entry) (number : ℕ) : Type 0 where
  pub before : List Entry
  pub entry : Entry
  pub after : List Entry
  pub split : entries ≡ before ++ entry ∷ after
  pub sound : IsSound (history ++ before)
  pub illegal : IsTaken (history ++ before) entry → ⊥
  pub place : number ≡ length (history ++ before) + 1

-- behind the rounds that were read stands a whole frame with a round, and the entry of this number may not follow those before it
pub record FailsAtEntry (bytes : List ℕ) (number : ℕ) : Type 0 where
  pub rounds : List (List Entry)
  pub gate : ℕ
  pub payload : List ℕ
  pub round : List Entry
  pub read : IsReadTo rounds gate bytes
  pub is : IsRound payload round
  pub frame : IsFrameAt gate payload bytes
  pub stops : StopsAtEntry (history_of rounds) round number

-- no fault of the bytes: one of the disk, or want of memory
abbrev pub IsFree : DeskFault → Type 0
IsFree faults.DiskFault = Unit {0}
IsFree faults.BadHeader = ⊥
IsFree (faults.BadFrame at) = ⊥
IsFree (faults.BadRecord at) = ⊥
IsFree (faults.Illegal place) = ⊥
IsFree faults.Memory = Unit {0}

-- the bytes are refused by this fault; a fault of the disk and want of memory are none of the bytes
abbrev pub Fails : DeskFault → List ℕ → Type 0
Fails faults.DiskFault bytes = ⊥
Fails faults.BadHeader bytes = IsBadHeader bytes
Fails (faults.BadFrame at) bytes = FailsAtFrame bytes at
Fails (faults.BadRecord at) bytes = FailsAtRecord bytes at
Fails (faults.Illegal place) bytes = FailsAtEntry bytes place
Fails faults.Memory bytes = ⊥
