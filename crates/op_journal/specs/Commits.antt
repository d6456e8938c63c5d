-- What a commit is given, and what a crash in it may leave.
use Rattle.std.specs.Prelude.{◌≡◌, ◌⊎◌, ◌<◌, ◌≤◌, ◌+◌, ◌-◌, ℕ, List, [], ◌∷◌, ◌++◌, length, take, drop, map, Vec}
use Rattle.std.specs.Int.{w32, to_be_bytes}
use Rattle.std.specs.declared.alloc.Global.{Global}
use Rattle.op_journal.specs.Frames.{IsClosed, SpellsUpTo, Spells}

-- the payload of what a commit writes behind the gate
abbrev pub payload_of : List ℕ → List ℕ
payload_of body = take (length body - 5) (drop 4 body)

-- the payload's length in four bytes, the payload, which is not empty, and a closed gate
pub record IsBody (body : List ℕ) : Type 0 where
  pub whole : body ≡ to_be_bytes w32 (length (payload_of body)) ++ payload_of body ++ 0 ∷ []
  pub some : 0 < length (payload_of body)

-- The disk stands as the journal says: all images are equal up to and with the gate at the tail, which is closed.
pub record IsSettled (tail : ℕ) (seen : List ℕ) (images : List ℕ → Type 0) : Type 0 where
  pub closed : IsClosed tail seen
  pub alike : (c : List ℕ) → images c → take (tail + 1) c ≡ take (tail + 1) seen

-- the frames before a commit, or these and the new one
abbrev pub SpellsEither : List (List ℕ) → ℕ → List ℕ → List ℕ → Type 0
SpellsEither payloads tail body c = SpellsUpTo payloads tail c ⊎ SpellsUpTo (payloads ++ payload_of body ∷ []) (tail + length body) c
