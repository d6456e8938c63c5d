-- What a disk spells: a history, as its rounds, each round in a frame of the journal.
use Rattle.std.specs.Prelude.{◌≡◌, ◌⊎◌, ◌<◌, ◌+◌, ◌*◌, ℕ, nat_le, if◌then◌else◌, List, [], ◌∷◌, ◌++◌, length}
use Rattle.std.specs.List.{flat_map}
use Rattle.op_model.specs.declared.act.Entry.{Entry}
use Rattle.op_record.specs.Rounds.{IsRound, round_of, moment_of}
use Rattle.op_journal.specs.Commits.{IsSettled}
use Rattle.op_journal.specs.Frames as frames
use Rattle.op_desk.specs.Wallets.{IsSound}

-- each payload is a round, of version 1 or 2, with the entries of one of these rounds
abbrev pub AreRounds : List (List ℕ) → List (List Entry) → Type 0
AreRounds [] [] = Unit {0}
AreRounds [] (round ∷ rounds) = ⊥
AreRounds (payload ∷ payloads) [] = ⊥
AreRounds (payload ∷ payloads) (round ∷ rounds) = IsRound payload round × AreRounds payloads rounds

-- the entries of rounds, in order
abbrev pub history_of : List (List Entry) → List Entry
history_of rounds = flat_map (λ (round : List Entry). round) rounds

-- Bytes spell rounds: a short disk spells none; a longer one begins with the header, and then has a frame for each round with the
-- round's payload, up to the first gate that is not open.
pub record SpellsRounds (rounds : List (List Entry)) (bytes : List ℕ) : Type 0 where
  pub payloads : List (List ℕ)
  pub are : AreRounds payloads rounds
  pub frames_are : frames.Spells payloads bytes

-- bytes spell a history: the entries of the rounds that they spell
abbrev pub Spells : List Entry → List ℕ → Type 0
Spells history bytes = (rounds : List (List Entry)) × SpellsRounds rounds bytes × (history_of rounds ≡ history)

-- and that is legal, and made of acts that are built
pub record SpellsSound (history : List Entry) (bytes : List ℕ) : Type 0 where
  pub spells : Spells history bytes
  pub sound : IsSound history

-- How many calls on the disk opening it takes: a sync, its length, and its header, or where it is short a write and a sync; three
-- for each frame; and one for the gate behind them.
abbrev pub opening_calls : (frames : ℕ) → List ℕ → ℕ
opening_calls frames bytes = (if nat_le (length bytes) 9 then 4 else 3) + (3 * frames + 1)

-- The disk stands as a journal with its closed gate at the tail says: the frames in front of it are those of these rounds, and a
-- crash leaves them and the closed gate.
pub record Stands (rounds : List (List Entry)) (tail : ℕ) (seen : List ℕ) (images : List ℕ → Type 0) : Type 0 where
  pub payloads : List (List ℕ)
  pub are : AreRounds payloads rounds
  pub holds : frames.Holds payloads tail seen
  pub settled : IsSettled tail seen images

-- Bytes spell the first history, and the round that would make it the second has no room behind their frames: with its frame, in
-- version 2, and the gate behind that the journal passes its limit.
pub record LacksRoom (before after : List Entry) (bytes : List ℕ) : Type 0 where
  pub rounds : List (List Entry)
  pub spelled : SpellsRounds rounds bytes
  pub found : history_of rounds ≡ before
  pub round : List Entry
  pub wanted : after ≡ before ++ round
  pub passes : frames.limit < length (frames.header ++ frames.frames (spelled.payloads ++ round_of (moment_of round) round ∷ [])) + 1

-- a round with entries is one more; one without is none
abbrev pub with_round : List (List Entry) → List Entry → List (List Entry)
with_round rounds [] = rounds
with_round rounds (e ∷ es) = rounds ++ (e ∷ es) ∷ []

-- the old rounds, or these and the whole new one
abbrev pub SpellsEither : List (List Entry) → List Entry → List ℕ → Type 0
SpellsEither rounds round bytes = SpellsRounds rounds bytes ⊎ SpellsRounds (with_round rounds round) bytes
