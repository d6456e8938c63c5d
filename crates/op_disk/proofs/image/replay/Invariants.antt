use Rattle.std.proofs.Common.{◌≡◌, take}
use Rattle.op_disk.specs.Memory.{contents, newest}
use Rattle.op_disk.proofs.image.replay.Given as goal

abbrev pub invariant-loop-call : goal.invariant-loop-call
invariant-loop-call l = l.bytes.items ≡ contents l.first (newest (take l.call-index l.calls))
