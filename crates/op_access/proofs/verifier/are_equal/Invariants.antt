use Rattle.std.proofs.Common.{◌≡◌, ◌↔◌}
use Rattle.op_access.proofs.Bits.{Alike}
use Rattle.op_access.proofs.verifier.are_equal.Given as goal

abbrev pub invariant-bytes : goal.invariant-bytes
invariant-bytes l = (l.differences ≡ 0) ↔ Alike l.i l.one l.other
