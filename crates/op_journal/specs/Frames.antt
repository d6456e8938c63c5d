-- The journal's layout: a header, and then frames, each behind an open gate, up to a gate that is not open.
use Rattle.std.specs.Prelude.{◌≡◌, ◌≢◌, ◌⊎◌, ◌<◌, ◌≤◌, ◌+◌, ℕ, List, [], ◌∷◌, ◌++◌, length, take, drop, min, slice_index}
use Rattle.std.specs.List.{All, flat_map}
use Rattle.std.specs.Int.{w32, to_be_bytes, from_be_bytes}

-- `OPWJ` and the version
abbrev pub header : List ℕ
header = 0x4f ∷ 0x50 ∷ 0x57 ∷ 0x4a ∷ 0 ∷ 0 ∷ 0 ∷ 1 ∷ []

-- the longest journal, in bytes
abbrev pub limit : ℕ
limit = 268435456

-- an open gate, the payload's length in four bytes, and the payload
abbrev pub frame : List ℕ → List ℕ
frame payload = 1 ∷ (to_be_bytes w32 (length payload) ++ payload)

abbrev pub frames : List (List ℕ) → List ℕ
frames payloads = flat_map frame payloads

abbrev pub IsOpen : ℕ → List ℕ → Type 0
IsOpen place bytes = (place < length bytes) × (slice_index bytes place ≡ 1)

abbrev pub IsClosed : ℕ → List ℕ → Type 0
IsClosed place bytes = (place < length bytes) × (slice_index bytes place ≢ 1)

-- the header and the frames of these payloads, and then a gate at this place, within the limit
pub record Holds (payloads : List (List ℕ)) (place : ℕ) (bytes : List ℕ) : Type 0 where
  pub front : take place bytes ≡ header ++ frames payloads
  pub some : All (λ (payload : List ℕ). 0 < length payload) payloads
  pub gate : place < length bytes
  pub within : place < limit

-- and that gate is closed: nothing is meant from there on
pub record SpellsUpTo (payloads : List (List ℕ)) (place : ℕ) (bytes : List ℕ) : Type 0 where
  pub holds : Holds payloads place bytes
  pub closed : slice_index bytes place ≢ 1

-- what a disk of these bytes spells; one of at most 9 bytes is a fresh journal, whatever it holds
abbrev pub Spells : List (List ℕ) → List ℕ → Type 0
Spells payloads bytes = ((length bytes ≤ 9) × (payloads ≡ [])) ⊎ ((9 < length bytes) × (place : ℕ) × SpellsUpTo payloads place bytes)

-- a whole frame of this payload stands here, and behind it a gate, all within the disk and the limit
pub record IsFrameAt (place : ℕ) (payload bytes : List ℕ) : Type 0 where
  pub stands : take (5 + length payload) (drop place bytes) ≡ frame payload
  pub some : 0 < length payload
  pub gate : place + 5 + length payload < length bytes
  pub within : place + 5 + length payload < limit

-- the length that a frame's four bytes give
abbrev pub size_at : ℕ → List ℕ → ℕ
size_at place bytes = from_be_bytes w32 (take 4 (drop (place + 1) bytes))

-- the gate is open, and its payload is empty, or the frame with the gate behind it passes the disk's length or the limit
pub record IsBadFrame (place : ℕ) (bytes : List ℕ) : Type 0 where
  pub is_open : IsOpen place bytes
  pub wrong : (size_at place bytes ≡ 0) ⊎ (min (length bytes) limit < place + 6 + size_at place bytes)
