use Rattle.std.proofs.Common.{◌≡◌, ◌∙◌, ◌++◌, ◌∷◌, [], ℕ, List, None, ap, sym, arith, length}
use Rattle.op_model.specs.declared.act.Entry.{Entry}
use Rattle.op_record.specs.Packing.{PackedValue}
use Rattle.op_record.proofs.PackedSteps.{fresh}
use Rattle.op_record.proofs.packed.Packed.new.Goals as goal

pub invariant_of-result : goal.invariant_of-result
invariant_of-result c =
    let f = fresh c.push.new.self.items c.new.result.items (c.in_ok-push.ensures.items ∙ ap (λ (l : List ℕ). l ++ 0 ∷ []) c.new-bytes.ensures.items) c.new.ensures.items in
    record {
      counted = sym (ap length f.none);
      before = omega arith;
      some = omega (arith, c.in_ok-push.ensures.len);
      few = omega arith;
      pointed = ap length c.new.ensures.items;
      room = omega (arith, c.push.new.self.ok.1);
      points_room = omega arith;
      stands = f.stands;
    }

pub returns : goal.returns
returns c =
    let f = fresh c.push.new.self.items c.new.result.items (c.in_ok-push.ensures.items ∙ ap (λ (l : List ℕ). l ++ 0 ∷ []) c.new-bytes.ensures.items) c.new.ensures.items in
    ap (λ (es : List Entry). record { entries = es; moment = None; round = []; room = 0 }) f.none
