use Rattle.std.proofs.Common.{◌≡◌, ◌≤◌, ◌-◌, length, max}
use Rattle.op_model.specs.Requests.{head_limit}
use Rattle.op_http.specs.Marks.{HasNoMarkTo}
use Rattle.op_http.specs.Reader.{Fills}
use Rattle.op_http.proofs.reader.Reader.find_edge.Given as goal

abbrev pub invariant-reading : goal.invariant-reading
invariant-reading g l =
    record {
      fills : Fills l.fn.self l.self (g.S.Source.left l.fn.source) (g.S.Source.left l.source);
      clear : HasNoMarkTo l.scanned l.self.bytes;
      limit : l.scanned ≤ head_limit;
      kept : length l.self.bytes ≤ max (length l.fn.self.bytes) head_limit;
      faults : g.S.Source.faults l.source ≡ g.S.Source.faults l.fn.source;
    }

abbrev pub decreases-reading : goal.decreases-reading
decreases-reading g l = head_limit - length l.self.bytes
