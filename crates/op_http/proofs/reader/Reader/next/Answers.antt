use Rattle.std.proofs.Common.{◌≡◌, true}
use Rattle.op_model.specs.Requests.{IsBadHttp, IsTooLarge}
use Rattle.op_http.proofs.Reading.{refuses_filled, refuses_at_end, not_filled, stays_filled, request_after, fault_after, window_refused}
use Rattle.op_http.proofs.Requests.{long_head_refused, short_head_refused, no_request_unmarked}
use Rattle.op_http.proofs.reader.Reader.next.Goals as goal

pub returns-in-Ok-Limit-clause-reads : goal.returns-in-Ok-Limit-clause-reads
returns-in-Ok-Limit-clause-reads g c =
    let held = c.find_edge.new.self in
    let edge = rw c.in-Ok-Limit.field-0-is at c.in-Ok-Limit.ensures.edge in
    rw c.too_large.ensures (refuses_filled IsTooLarge c.args.self.now held (g.S.Source.left c.args.source.now) (g.S.Source.left c.find_edge.new.source)
    c.in-Ok-Limit.ensures.fills (λ more. long_head_refused held.bytes more edge.0 edge.1))

pub returns-in-Ok-End-clause-reads : goal.returns-in-Ok-End-clause-reads
returns-in-Ok-End-clause-reads g c =
    let held = c.find_edge.new.self in
    let edge = rw c.in-Ok-End.field-0-is at c.in-Ok-End.ensures.edge in
    rw c.bad_http.ensures (refuses_at_end IsBadHttp c.args.self.now held (g.S.Source.left c.args.source.now) (g.S.Source.left c.find_edge.new.source)
    c.in-Ok-End.ensures.fills edge.2 (short_head_refused held.bytes edge.0 edge.1 (λ ended. let blank : c.is_blank.result ≡ true = c.is_blank.ensures.1 ended in cc (blank, c.if-is_blank.false))))

pub returns-in-Err-clause-reads : goal.returns-in-Err-clause-reads
returns-in-Err-clause-reads g c =
    let held = c.find_edge.new.self in
    rw c.fault_of.ensures (not_filled c.args.self.now held (g.S.Source.left c.args.source.now) (g.S.Source.left c.find_edge.new.source) c.in-Err.fault
    (stays_filled c.args.self.now held _ _ c.in-Err.ensures.fills) (no_request_unmarked held.bytes c.in-Err.ensures.open))

pub returns-in-Ok-body-clause-reads : goal.returns-in-Ok-body-clause-reads
returns-in-Ok-body-clause-reads g c =
    request_after c.args.self.now c.find_edge.new.self c.body.new.self (g.S.Source.left c.args.source.now) (g.S.Source.left c.find_edge.new.source) (g.S.Source.left c.body.new.source)
    c.in-Ok-body.request c.in-Ok-Mark.ensures.fills c.in-Ok-body.ensures.reads

pub returns-in-Err-body-clause-reads : goal.returns-in-Err-body-clause-reads
returns-in-Err-body-clause-reads g c =
    fault_after c.args.self.now c.find_edge.new.self c.body.new.self (g.S.Source.left c.args.source.now) (g.S.Source.left c.find_edge.new.source) (g.S.Source.left c.body.new.source)
    c.in-Err-body.fault c.in-Ok-Mark.ensures.fills c.in-Err-body.ensures.reads

pub returns-in-Err-frame-clause-reads : goal.returns-in-Err-frame-clause-reads
returns-in-Err-frame-clause-reads g c =
    let held = c.find_edge.new.self in
    let left = g.S.Source.left c.find_edge.new.source in
    let edge = rw c.in-Ok-Mark.field-0-is at c.in-Ok-Mark.ensures.edge in
    rw c.refusal.ensures.value (fault_after c.args.self.now held held (g.S.Source.left c.args.source.now) left left _ c.in-Ok-Mark.ensures.fills
    (window_refused held left c.in-Ok-Mark.end c.in-Err-frame.fault edge.0 edge.1 c.in-Err-frame.ensures.fault))
