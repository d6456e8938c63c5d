use Rattle.std.proofs.Common.{◌≡◌, ◌⊎◌, ◌<◌, ◌≤◌, ℕ, length, slice_index, true, false}
use Rattle.op_disk.specs.Crash.{is_written}
use Rattle.op_disk.specs.Memory.{written, newest}
use Rattle.op_disk.proofs.image.crash_image.Given as goal

abbrev pub invariant-loop-place : goal.invariant-loop-place
invariant-loop-place l = record {
  size : length l.image.items ≡ l.place;
  stays : (k : ℕ) → k < l.place → k < length l.synced → is_written (written (newest l.calls)) k ≡ false → slice_index l.image.items k ≡ slice_index l.synced k;
  free : (k : ℕ) → k < l.place → k < length l.wanted → (length l.synced ≤ k) ⊎ (is_written (written (newest l.calls)) k ≡ true) → slice_index l.image.items k ≡ slice_index l.wanted k;
}
