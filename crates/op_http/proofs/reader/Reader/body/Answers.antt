use Rattle.std.proofs.Common.{◌≤◌, ◌<◌, ◌+◌, length, subst}
use Rattle.op_http.specs.Reader.{CutsOff}
use Rattle.op_http.specs.declared.frame.Frame.{Frame}
use Rattle.op_http.proofs.Reading.{body_taken, body_cut_short, body_missing, not_filled}
use Rattle.op_http.proofs.reader.Reader.body.Goals as goal

pub returns-in-Ok-clause-reads : goal.returns-in-Ok-clause-reads
returns-in-Ok-clause-reads g c =
    let held = c.hold.new.self in
    let whole = rw c.in-Ok-true.field-0-test at c.in-Ok-true.ensures.held in
    body_taken c.args.self.now held c.cut.new.self (g.S.Source.left c.args.source.now) (g.S.Source.left c.hold.new.source)
    c.args.frame.head c.args.frame.size c.in-Ok.request c.in-Ok-true.ensures.fills c.requires.framed
    (subst (λ (f : Frame). f.head.len + f.size ≤ length held.bytes) c.frame.view_is whole)
    (subst (λ (f : Frame). CutsOff held c.cut.new.self f.head (f.head.len + f.size) c.in-Ok.request) c.frame.view_is c.in-Ok.ensures.cut)

pub returns-in-Ok-false-clause-reads : goal.returns-in-Ok-false-clause-reads
returns-in-Ok-false-clause-reads g c =
    let held = c.hold.new.self in
    let few = rw c.in-Ok-false.field-0-test at c.in-Ok-false.ensures.held in
    rw c.bad_http.ensures (body_cut_short c.args.self.now held (g.S.Source.left c.args.source.now) (g.S.Source.left c.hold.new.source)
    c.args.frame.head c.args.frame.size c.in-Ok-false.ensures.fills c.requires.framed
    (subst (λ (f : Frame). length held.bytes < f.head.len + f.size) c.frame.view_is few.0) few.1)

pub returns-in-Err-clause-reads : goal.returns-in-Err-clause-reads
returns-in-Err-clause-reads g c =
    let held = c.hold.new.self in
    let few = subst (λ (f : Frame). length held.bytes < f.head.len + f.size) c.frame.view_is c.in-Err.ensures.short in
    let missing = body_missing c.args.self.now held (g.S.Source.left c.args.source.now) (g.S.Source.left c.hold.new.source)
    c.args.frame.head c.args.frame.size c.in-Err.ensures.fills c.requires.framed few in
    rw c.fault_of.ensures (not_filled c.args.self.now held _ _ c.in-Err.fault missing.0 missing.1)
