-- What a disk in memory says of itself: its contents, and what a crash may leave of it.
use Rattle.std.specs.Prelude.{ℕ, List, ◌≡◌, ◌⊎◌, length, Bool, true, false, ◌==◌, Result, OnOk, OnErr}
use Rattle.std.specs.List.{list_any}
use Rattle.op_disk.specs.Crash.{Range}
use Rattle.op_disk.specs.Memory.{contents, synced, written, IsImage, Since, newest}
use Rattle.op_disk.specs.declared.DiskFault.{DiskFault}
use Rattle.op_disk.specs.declared.memory.MemoryDisk.{MemoryDisk}

abbrev pub contents_of : MemoryDisk → List ℕ
contents_of disk = contents disk.first.items (newest disk.calls.items)

abbrev pub synced_of : MemoryDisk → List ℕ
synced_of disk = synced disk.first.items (newest disk.calls.items)

abbrev pub written_of : MemoryDisk → List Range
written_of disk = written (newest disk.calls.items)

abbrev pub images_of : MemoryDisk → List ℕ → Type 0
images_of disk = IsImage disk.first.items (newest disk.calls.items)

abbrev pub since_of : MemoryDisk → ℕ → List ℕ → Type 0
since_of disk = Since disk.first.items (newest disk.calls.items)

-- the next call is one of those that it was told to fail
abbrev pub fails_next : MemoryDisk → Bool
fails_next disk = list_any (λ number. number == length disk.calls.items) disk.fails.items

-- A call fails where it was told to, and otherwise only where memory was refused before it could be recorded.
pub record FailsAsTold {T : Type 0} (old new : MemoryDisk) (result : Result T DiskFault) : Type 0 where
  pub told : OnOk result (fails_next old ≡ false)
  pub failed : OnErr result ((fails_next old ≡ true) ⊎ (new.calls.items ≡ old.calls.items))
  pub first : new.first ≡ old.first
  pub fails : new.fails ≡ old.fails
