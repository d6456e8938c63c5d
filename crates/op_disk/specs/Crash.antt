-- The disk model: what a crash may leave, byte by byte, and the same a write at a time.
use Rattle.std.specs.Prelude.{ℕ, ◌+◌, ◌≤◌, ◌<◌, ◌≡◌, max, List, [], ◌∷◌, length, slice_index, Bool, false, nat_le, nat_lt, ◌&&◌, ◌||◌}
use Rattle.op_disk.specs.Calls.{Torn}

-- a range that was written: its place, and its number of bytes
pub record Range : Type 0 where
  pub at : ℕ
  pub count : ℕ

-- the byte at this place lies in one of the ranges
abbrev pub is_written : List Range → ℕ → Bool
is_written [] place = false
is_written (range ∷ ranges) place = (nat_le range.at place && nat_lt place (range.at + range.count)) || is_written ranges place

abbrev pub greatest_end : List Range → ℕ
greatest_end [] = 0
greatest_end (range ∷ ranges) = max (range.at + range.count) (greatest_end ranges)

-- What a crash may leave of a disk with these bytes at its last sync, after writes to these ranges: its length lies between
-- that at the sync and the greatest end written since, and what was not written stays. All other bytes are free.
pub record MayLeave (synced : List ℕ) (written : List Range) (image : List ℕ) : Type 0 where
  pub no_shorter : length synced ≤ length image
  pub no_longer : length image ≤ max (length synced) (greatest_end written)
  pub stays : (place : ℕ) → place < length synced → is_written written place ≡ false → slice_index image place ≡ slice_index synced place

-- the same, by what each write may have made of the image before it; the newest range comes first
abbrev pub MayReach : List ℕ → List Range → List ℕ → Type 0
MayReach synced [] image = image ≡ synced
MayReach synced (range ∷ earlier) image = (before : List ℕ) × MayReach synced earlier before × Torn range.at range.count before image
