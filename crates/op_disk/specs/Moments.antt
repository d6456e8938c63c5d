-- What a crash may leave at the moments of a run of calls.
use Rattle.std.specs.Prelude.{◌⊎◌, ℕ, ◌≤◌, List}
use Rattle.op_disk.specs.declared.Disk.{Ghosts}

-- a crash at any moment since the run's start leaves an image that has P
pub record LeavesOnly {D : Type 0} (g : Ghosts D) (old new : D) (P : List ℕ → Type 0) : Type 0 where
  pub later : g.moment old ≤ g.moment new
  pub each : (c : List ℕ) → g.since new (g.moment old) c → P c
  -- for a run that began earlier
  pub before : (t : ℕ) (c : List ℕ) → t ≤ g.moment old → g.since new t c → g.since old t c ⊎ P c
