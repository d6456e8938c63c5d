use Rattle.std.proofs.Common.{◌≡◌, ◌∙◌, ◌++◌, ◌∷◌, ◌+◌, ◌-◌, ◌≤◌, [], ℕ, List, Option, Some, None, refl, ap, sym, subst, arith, length, drop}
use Rattle.std.specs.Prelude.{IsSome}
use Rattle.std.proofs.lemmas.List.{length-append}
use Rattle.op_model.specs.declared.act.Entry.{Entry}
use Rattle.op_record.specs.declared.packed.Point.{Point}
use Rattle.op_record.specs.Packing.{PackedValue, held}
use Rattle.op_record.specs.PackedInside.{Stands, IsOpen, round_in}
use Rattle.op_record.proofs.PackedSteps.{IsPushed, pushes, start_within, few_held, act_some, pointed_more, same_seen}
use Rattle.op_record.proofs.packed.Packed.put.Goals as goal

pub put_in_round-requires-clause-start : goal.put_in_round-requires-clause-start
put_in_round-requires-clause-start c =
    let p = c.self.inside in
    let moment : p.moment ≡ Some c.args.entry.now.at = ap (λ (v : PackedValue). v.moment) c.self.view_is ∙ c.requires.round in
    let some : IsSome p.moment = subst (λ (m : Option ℕ). IsSome m) (sym moment) refl in
    omega (arith, (start_within p.moment p.bytes.items p.points.items p.start p.before some c.self.invariant.stands).1, p.bytes.ok.0)

moment : (c : goal.After-self-2-1) → c.self.inside.moment ≡ Some c.args.entry.now.at
moment c = ap (λ (v : PackedValue). v.moment) c.self.view_is ∙ c.requires.round

opened : (c : goal.After-self-2-1) → IsOpen c.args.entry.now.at c.self.inside.bytes.items c.self.inside.points.items c.self.inside.start (held 0 c.self.inside.bytes.items) (drop c.self.inside.before (held 0 c.self.inside.bytes.items))
opened c =
    let p = c.self.inside in
    subst (λ (m : Option ℕ). Stands m p.bytes.items p.points.items p.start p.before (held 0 p.bytes.items)) (moment c) c.self.invariant.stands

stands : (c : goal.After-self-2-1) → IsPushed c.args.entry.now.at c.self.inside.bytes.items c.put_in_round.new.bytes.items c.add_point.new.points.items c.self.inside.start c.self.inside.before c.args.entry.now
stands c =
    let p = c.self.inside in
    let kept = c.self.invariant in
    pushes c.args.entry.now.at p.bytes.items c.put_in_round.new.bytes.items p.points.items c.add_point.new.points.items p.start p.before p.count (c.len-place.result - 1) c.args.entry.now
    (refl, c.requires.writable, c.requires.fits) (opened c) kept.counted kept.before kept.pointed c.add_point.ensures.added (omega (arith, c.len-place.ensures, p.bytes.ok.0, kept.some)) c.put_in_round.ensures.put

pub invariant_of-self : goal.invariant_of-self
invariant_of-self c =
    let p = c.self.inside in
    let kept = c.self.invariant in
    let s = stands c in
    let now = c.put_in_round.new.bytes in
    let counted : p.count + 1 ≡ length (held 0 now.items) = omega (arith, kept.counted, ap length s.more, length-append (held 0 p.bytes.items) (c.args.entry.now ∷ [])) in
    let room : c.args.taken ≤ p.room = omega (arith, c.requires.room, ap (λ (v : PackedValue). v.room) c.self.view_is) in
    let taken = act_some c.args.entry.now.at c.args.entry.now (opened c).low (refl, c.requires.writable, c.requires.fits) in
    record {
      counted = counted;
      before = omega (arith, kept.before);
      some = omega (arith, kept.some, c.put_in_round.ensures.len);
      few = omega (arith, counted, few_held 0 now.items, now.ok.0);
      pointed = pointed_more p.points.items c.add_point.new.points.items p.count _ kept.pointed c.add_point.ensures.added;
      room = omega (arith, kept.room, c.put_in_round.ensures.len, c.put_in_round.ensures.kept, c.requires.taken, room);
      points_room = omega (arith, kept.points_room, c.add_point.ensures.kept, c.requires.taken, room, taken);
      stands = subst (λ (m : Option ℕ). Stands m now.items c.add_point.new.points.items p.start p.before (held 0 now.items)) (sym (moment c)) s.stands;
    }

pub returns : goal.returns
returns c =
    let p = c.self.inside in
    let now = c.args.self.now in
    let new = held 0 c.put_in_round.new.bytes.items in
    let s = stands c in
    let one = c.args.entry.now ∷ [] in
    let old : drop p.before (held 0 p.bytes.items) ≡ now.round =
    sym (ap (λ (m : Option ℕ). round_in m p.before (held 0 p.bytes.items)) (moment c)) ∙ ap (λ (v : PackedValue). v.round) c.self.view_is in
    same_seen new (now.entries ++ one) p.moment now.moment (round_in p.moment p.before new) (now.round ++ one) (p.room - c.args.taken) (now.room - c.args.taken)
    (s.more ∙ ap (λ (v : PackedValue). v.entries ++ one) c.self.view_is)
    (ap (λ (v : PackedValue). v.moment) c.self.view_is)
    (ap (λ (m : Option ℕ). round_in m p.before new) (moment c) ∙ s.round ∙ ap (λ (l : List Entry). l ++ one) old)
    (ap (λ (v : PackedValue). v.room - c.args.taken) c.self.view_is)
