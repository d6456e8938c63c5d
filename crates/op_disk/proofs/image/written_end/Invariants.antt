use Rattle.std.proofs.Common.{◌≡◌, ◌-◌, ◌^◌, min, take}
use Rattle.op_disk.specs.Crash.{greatest_end}
use Rattle.op_disk.specs.Memory.{written, newest}
use Rattle.op_disk.proofs.image.written_end.Given as goal

abbrev pub invariant-loop-call : goal.invariant-loop-call
invariant-loop-call l = l.end ≡ min (greatest_end (written (newest (take l.call-index l.calls)))) (2 ^ 64 - 1)
