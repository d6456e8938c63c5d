use Rattle.std.proofs.Common.{◌≡◌, ◌∙◌, ◌-◌, ◌<◌, ℕ, List, ap, arith, length, drop, length-drop}
use Rattle.std.proofs.lemmas.List.{take_all}
use Rattle.op_record.specs.Packing.{PackedValue, payload_of, body_of}
use Rattle.op_record.proofs.PackedSteps.{lent}
use Rattle.op_record.proofs.packed.Packed.body.Goals as goal

pub returns : goal.returns
returns c =
    let p = c.self.inside in
    let bytes = c.deref.result.now in
    take_all (length bytes - p.start) (drop p.start bytes) (omega (arith, length-drop p.start bytes))
    ∙ ap (λ (l : List ℕ). drop p.start l) c.deref.ensures.value
    ∙ lent p.moment p.bytes.items p.points.items p.start p.before (omega (arith, c.requires.some, ap (λ (v : PackedValue). length v.round) c.self.view_is)) c.self.invariant.stands
    ∙ ap (λ (v : PackedValue). body_of (payload_of v)) c.self.view_is
