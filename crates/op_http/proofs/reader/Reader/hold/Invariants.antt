use Rattle.std.proofs.Common.{◌≡◌, ◌≤◌, ◌-◌, length, max}
use Rattle.op_http.specs.Reader.{Fills}
use Rattle.op_http.proofs.reader.Reader.hold.Given as goal

abbrev pub invariant-reading : goal.invariant-reading
invariant-reading g l =
    record {
      fills : Fills l.fn.self l.self (g.S.Source.left l.fn.source) (g.S.Source.left l.source);
      kept : length l.self.bytes ≤ max (length l.fn.self.bytes) l.count;
      faults : g.S.Source.faults l.source ≡ g.S.Source.faults l.fn.source;
    }

abbrev pub decreases-reading : goal.decreases-reading
decreases-reading g l = l.count - length l.self.bytes
