-- What opening a journal does to a disk, and what a crash in it may leave.
use Rattle.std.specs.Prelude.{◌≡◌, ◌⊎◌, ◌<◌, ◌≤◌, ℕ, List, [], ◌∷◌, ◌++◌, length, take}
use Rattle.op_disk.specs.Calls.{Only}
use Rattle.op_journal.specs.Frames.{header}

-- a short disk gets the header and a closed gate, and any other stays as it was and begins with the header
abbrev pub Opened : List ℕ → List ℕ → Type 0
Opened old new = ((length old ≤ 9) × (new ≡ header ++ 0 ∷ [])) ⊎ ((9 < length old) × (take 8 old ≡ header) × (new ≡ old))

-- The disk stands as the recovery says: a crash leaves what a read gives, and that has the length that was found.
pub record IsFound (size : ℕ) (seen : List ℕ) (images : List ℕ → Type 0) : Type 0 where
  pub only : Only seen images
  pub measured : length seen ≡ size

-- an image that there was, or where the disk was found short, another short one
abbrev pub IsOldOrShort : (List ℕ → Type 0) → List ℕ → List ℕ → Type 0
IsOldOrShort old seen c = old c ⊎ ((length seen ≤ 9) × (length c ≤ 9))
