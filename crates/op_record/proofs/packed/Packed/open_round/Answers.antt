use Rattle.std.proofs.Common.{◌≡◌, ◌∙◌, ◌++◌, ◌∷◌, ◌+◌, ◌≤◌, ◌/◌, [], ℕ, List, Option, Some, None, ap, sym, subst, arith, length, drop}
use Rattle.std.proofs.lemmas.List.{length-append}
use Rattle.op_model.specs.declared.act.Entry.{Entry}
use Rattle.op_record.specs.declared.packed.Point.{Point}
use Rattle.op_record.specs.Packing.{PackedValue, body_of, held}
use Rattle.op_record.specs.Rounds.{round_of}
use Rattle.op_record.specs.PackedInside.{Stands, IsClosed}
use Rattle.op_record.proofs.PackedSteps.{IsOpened, opens, length_empty_body}
use Rattle.op_record.proofs.packed.Packed.open_round.Goals as goal

-- the empty round was put
put : (c : goal.After-self-4-1) → c.put_empty_round.new.bytes.items ≡ c.self.inside.bytes.items ++ body_of (round_of c.args.t [])
put c =
    let body = body_of (round_of c.args.t []) in
    let old = c.make_room.new.bytes in
    let lands = c.put_empty_round.ensures.put.lands (omega (arith, length_empty_body c.args.t, old.ok.0, old.small, c.in_ok-make_room.ensures.room.0, c.saturating_add.ensures)) in
    lands.0 ∙ ap (λ (l : List ℕ). l ++ body) c.make_room.ensures.bytes

stands : (c : goal.After-self-4-1) → IsOpened c.args.t c.self.inside.bytes.items c.put_empty_round.new.bytes.items c.make_room.new.points.items c.len-self-inside.result c.self.inside.count
stands c =
    let p = c.self.inside in
    let none : p.moment ≡ None = ap (λ (v : PackedValue). v.moment) c.self.view_is ∙ c.requires in
    let closed : IsClosed p.bytes.items p.points.items (held 0 p.bytes.items) =
    subst (λ (m : Option ℕ). Stands m p.bytes.items p.points.items p.start p.before (held 0 p.bytes.items)) none c.self.invariant.stands in
    opens c.args.t p.bytes.items c.put_empty_round.new.bytes.items c.make_room.new.points.items c.len-self-inside.result p.count c.put_empty_round.ensures.low
    (ap length c.make_room.ensures.points ∙ c.self.invariant.pointed) c.self.invariant.counted
    (subst (λ (l : List Point). IsClosed p.bytes.items l (held 0 p.bytes.items)) (sym c.make_room.ensures.points) closed)
    (omega (arith, c.len-self-inside.ensures, c.make_room.new.bytes.ok.0, ap length c.make_room.ensures.bytes)) (put c)

pub invariant_of-self-2 : goal.invariant_of-self-2
invariant_of-self-2 c =
    let p = c.self.inside in
    let s = stands c in
    let body = length_empty_body c.args.t in
    let old = c.make_room.new.bytes in
    let lands = c.put_empty_round.ensures.put.lands (omega (arith, body, old.ok.0, old.small, c.in_ok-make_room.ensures.room.0, c.saturating_add.ensures)) in
    let now = c.put_empty_round.new.bytes in
    let long : length now.items ≡ length p.bytes.items + 14 = omega (arith, body, ap length (put c), length-append p.bytes.items (body_of (round_of c.args.t []))) in
    let added = c.saturating_add.ensures in
    let room = c.in_ok-make_room.ensures.room in
    let same = ap length c.make_room.ensures.bytes in
    record {
      counted = c.self.invariant.counted ∙ sym (ap length s.same);
      before = omega arith;
      some = omega (arith, long, now.ok.0);
      few = omega (arith, long, now.ok.0, p.bytes.ok.0, c.self.invariant.few);
      pointed = ap length c.make_room.ensures.points ∙ c.self.invariant.pointed;
      room = omega (arith, long, now.ok.0, old.ok.0, old.small, same, room.0, lands.1, added);
      points_room = omega (arith, old.small, room.0, room.1, added, c.make_room.new.points.ok.0, ap length c.make_room.ensures.points, c.self.invariant.pointed);
      stands = s.stands;
    }

pub returns-clause-ok : goal.returns-clause-ok
returns-clause-ok c =
    let s = stands c in
    let now = c.args.self.now in
    let es : held 0 c.put_empty_round.new.bytes.items ≡ now.entries = s.same ∙ ap (λ (v : PackedValue). v.entries) c.self.view_is in
    ap (λ (l : List Entry). record { entries = l; moment = Some c.args.t; round = drop c.self.inside.count (held 0 c.put_empty_round.new.bytes.items); room = c.args.room }) es
    ∙ ap (λ (l : List Entry). record { entries = now.entries; moment = Some c.args.t; round = l; room = c.args.room }) s.none
