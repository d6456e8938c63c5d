use Rattle.std.proofs.Common.{◌≡◌, ◌≤◌, ℕ, List, take, drop}
use Rattle.op_disk.specs.Memory.{contents, synced, written, newest}
use Rattle.op_disk.proofs.image.last_sync.Given as goal

abbrev pub invariant-loop-index : goal.invariant-loop-index
invariant-loop-index l = record {
  bound : l.last ≤ l.index;
  synced : (first : List ℕ) → synced first (newest (take l.index l.calls)) ≡ contents first (newest (take l.last l.calls));
  written : written (newest (take l.index l.calls)) ≡ written (newest (drop l.last (take l.index l.calls)));
}
