use Rattle.std.proofs.Common.{ap, ◌∙◌}
use Rattle.op_http.specs.Held.{Held}
use Rattle.op_http.proofs.Reading.{is_framed_if}
use Rattle.op_http.proofs.reader.Reader.frame.Goals as goal

pub returns-clause-frame : goal.returns-clause-frame
returns-clause-frame c =
    is_framed_if c.args.self.now.bytes _ c.args.end c.read_frame.result c.requires.mark c.requires.limit
    (c.deref.ensures.value ∙ ap (λ (h : Held). h.bytes) c.self.view_is) c.read_frame.ensures
