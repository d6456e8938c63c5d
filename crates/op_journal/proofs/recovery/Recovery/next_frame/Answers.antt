use Rattle.std.proofs.Common.{◌≡◌, ◌∙◌, ℕ, ◌+◌, ◌≤◌, ◌<◌, min, List, [], ◌∷◌, ◌++◌, length, take, drop, ap, sym, subst, arith, rules}
use Rattle.op_journal.specs.Frames.{Holds, limit}
use Rattle.op_journal.proofs.Fronts.{frame_found, one_read}
use Rattle.op_journal.proofs.recovery.Recovery.next_frame.Goals as goal

pub returns-in_err-payload-clause-memory : goal.returns-in_err-payload-clause-memory
returns-in_err-payload-clause-memory g c refused told =
    let at = c.args.self.now.at in
    let seen = g.D.Disk.seen c.args.disk.now in
    let size = c.payload_size-size.result in
    let some : 0 < size = omega arith in
    let fits : at + 6 + size ≤ min (length seen) limit = omega (arith, (c.requires told).measured) in
    let four = c.in_ok-read-2.ensures.bytes told ∙ ap (λ (l : List ℕ). take 4 (drop (at + 1) l)) c.read.ensures.seen in
    let payload = take size (drop (at + 5) seen) in
    (payload, frame_found at size seen c.read.new.into c.read-2.new.into payload (c.in_ok-read.ensures.bytes told) c.if-gate-ne1.false four c.payload_size-size.ensures.stored some fits (search rules))

pub returns-clause-frame : goal.returns-clause-frame
returns-clause-frame g c more told =
    let at = c.args.self.now.at in
    let seen = g.D.Disk.seen c.args.disk.now in
    let size = c.payload_size-size.result in
    let some : 0 < size = omega arith in
    let fits : at + 6 + size ≤ min (length seen) limit = omega (arith, (c.requires told).measured) in
    let four = c.in_ok-read-2.ensures.bytes told ∙ ap (λ (l : List ℕ). take 4 (drop (at + 1) l)) c.read.ensures.seen in
    let payload = c.in_ok-payload.ensures.bytes told ∙ ap (λ (l : List ℕ). take size (drop (at + 5) l)) (c.read-2.ensures.seen ∙ c.read.ensures.seen) in
    frame_found at size seen c.read.new.into c.read-2.new.into c.in_ok-payload.field-0.items (c.in_ok-read.ensures.bytes told) c.if-gate-ne1.false four c.payload_size-size.ensures.stored some fits payload

pub returns-clause-holds : goal.returns-clause-holds
returns-clause-holds g c more told payloads holds =
    let at = c.args.self.now.at in
    let items = c.in_ok-payload.field-0.items in
    let seen : g.D.Disk.seen c.read_range.new.disk ≡ g.D.Disk.seen c.args.disk.now = c.read_range.ensures.seen ∙ c.read-2.ensures.seen ∙ c.read.ensures.seen in
    let place : at + 5 + length items ≡ at + (5 + c.from-2.result) = omega (arith, c.in_ok-payload.ensures.length) in
    let more : Holds (payloads ++ items ∷ []) (at + 5 + length items) (g.D.Disk.seen c.args.disk.now) = one_read payloads at _ items holds (returns-clause-frame g c more told) in
    subst (λ (l : List ℕ). Holds (payloads ++ items ∷ []) (at + (5 + c.from-2.result)) l) (sym seen) (subst (λ (k : ℕ). Holds (payloads ++ items ∷ []) k (g.D.Disk.seen c.args.disk.now)) place more)
