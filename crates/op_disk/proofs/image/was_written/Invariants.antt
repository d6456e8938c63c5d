use Rattle.std.proofs.Common.{◌≡◌, take}
use Rattle.op_disk.specs.Crash.{is_written}
use Rattle.op_disk.specs.Memory.{written, newest}
use Rattle.op_disk.proofs.image.was_written.Given as goal

abbrev pub invariant-loop-call : goal.invariant-loop-call
invariant-loop-call l = l.found ≡ is_written (written (newest (take l.call-index l.calls))) l.place
