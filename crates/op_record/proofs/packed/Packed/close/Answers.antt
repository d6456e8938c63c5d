use Rattle.std.proofs.Common.{◌≡◌, ◌∙◌, ◌+◌, ◌-◌, ◌≤◌, ℕ, List, [], Option, Some, None, refl, ap, sym, subst, arith, length}
use Rattle.std.specs.Prelude.{IsSome}
use Rattle.op_model.specs.declared.act.Entry.{Entry}
use Rattle.op_record.specs.Packing.{PackedValue, held}
use Rattle.op_record.proofs.PackedSteps.{IsShut, shuts_by, whole_bytes, start_within, few_held, same_seen}
use Rattle.op_record.proofs.packed.Packed.close.Goals as goal

pub invariant_of-self : goal.invariant_of-self
invariant_of-self c =
    let kept = c.self.invariant in
    record {
      counted = kept.counted;
      before = kept.before;
      some = kept.some;
      few = kept.few;
      pointed = kept.pointed;
      room = kept.room;
      points_room = kept.points_room;
      stands = whole_bytes c.self.inside.moment _ _ _ _ kept.stands;
    }

is_open : (c : goal.After-truncate) → IsSome c.self.inside.moment
is_open c = subst (λ (v : PackedValue). IsSome v.moment) (sym c.self.view_is) c.requires

shut : (c : goal.After-truncate) → IsShut c.self.inside.bytes.items c.truncate.new.self.items c.self.inside.points.items
shut c =
    let p = c.self.inside in
    shuts_by p.moment p.bytes.items c.truncate.new.self.items p.points.items p.start p.before (is_open c) (omega (arith, c.self.invariant.counted, c.if-self.false)) c.truncate.ensures.items c.self.invariant.stands

pub invariant_of-self-2 : goal.invariant_of-self-2
invariant_of-self-2 c =
    let p = c.self.inside in
    let kept = c.self.invariant in
    let s = shut c in
    let new = c.truncate.new.self in
    let counted : p.count ≡ length (held 0 new.items) = kept.counted ∙ sym (ap length s.same) in
    let start = start_within p.moment p.bytes.items p.points.items p.start p.before (is_open c) kept.stands in
    record {
      counted = counted;
      before = kept.before;
      some = omega (arith, c.truncate.ensures.len, start.0, start.1, p.bytes.ok.0);
      few = omega (arith, counted, few_held 0 new.items, new.ok.0);
      pointed = kept.pointed;
      room = omega (arith, kept.room, c.truncate.ensures.len, c.truncate.ensures.capacity);
      points_room = kept.points_room;
      stands = s.stands;
    }

pub returns : goal.returns
returns c =
    let p = c.self.inside in
    let now = c.args.self.now in
    same_seen (held 0 c.truncate.new.self.items) now.entries None None [] [] p.room now.room ((shut c).same ∙ ap (λ (v : PackedValue). v.entries) c.self.view_is) refl refl
    (ap (λ (v : PackedValue). v.room) c.self.view_is)
