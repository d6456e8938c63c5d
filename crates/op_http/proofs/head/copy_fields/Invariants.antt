use Rattle.std.specs.Prelude.{◌≡◌, take, map}
use Rattle.httparse.specs.Spans.{header_bytes}
use Rattle.op_http.proofs.head.copy_fields.Given as goal

abbrev pub invariant-loop-header : goal.invariant-loop-header
invariant-loop-header l =
    l.fields.items ≡ map (header_bytes l.window) (take l.header-index l.headers)
