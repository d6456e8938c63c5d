use Rattle.std.proofs.Common.{◌≡◌, ◌+◌, ◌∷◌, [], ◌++◌, sym, ap, ◌∙◌, length, arith}
use Rattle.op_model.proofs.Next.{numbered_collected-next}
use Rattle.op_hooks.specs.Due.{is_open, untried}
use Rattle.op_model.specs.Numbers.{number_if, numbers_where}
use Rattle.op_model.proofs.Numbers.{length-numbers_where}
use Rattle.op_hooks.proofs.events.Events.note.Goals as goal

pub push_reserved-requires : goal.push_reserved-requires
push_reserved-requires c =
    let kept = c.self.inside.kept in
    omega (arith, length-numbers_where is_open kept.items, ap length c.self.invariant.0, kept.ok.0, c.self.inside.unfinished.ok.0, ap (λ v. v.spare) c.self.view_is, c.self.invariant.1)

pub invariant_of-self : goal.invariant_of-self
invariant_of-self c =
    let kept = c.self.inside.kept in
    let number : c.len.result + 1 ≡ 1 + length kept.items = omega (arith, c.len.ensures, kept.ok.0) in (
      c.push_reserved.ensures.items ∙ ap (λ ns. ns ++ (c.len.result + 1) ∷ []) c.self.invariant.0 ∙ ap (λ n. numbers_where is_open kept.items ++ n ∷ []) number
          ∙ sym (numbered_collected-next (number_if is_open) kept.items (untried c.args.event)) ∙ ap (numbers_where is_open) (sym c.push_reserved-2.ensures.items),
      omega (arith, c.push_reserved.ensures.capacity, c.push_reserved-2.ensures.capacity, c.self.invariant.1),
    )
