use Rattle.std.proofs.Common.{◌≡◌, ◌+◌, true, false, length, sym, ap, ◌∙◌, arith}
use Rattle.std.specs.Prelude.{Some, nat_eq}
use Rattle.std.specs.Option.{option_eq}
use Rattle.op_incoming.proofs.Kept.{bound_fits, kept_made}
use Rattle.op_incoming.proofs.incomings.Incomings.add.Goals as goal

pub invariant_of-self-2 : goal.invariant_of-self-2
invariant_of-self-2 c =
    let inside = c.self.inside in
    let some : c.args.row.amount ≡ Some 0 → ⊥ = λ is. (let no : true ≡ false = ap (λ amount. option_eq nat_eq amount (Some 0)) (sym is) ∙ (sym c.eq.ensures ∙ c.if-eq.false) in cc) in
    let fits = bound_fits c.args.row.amount c.requires some in
    let number : c.len.result + 1 ≡ 1 + length inside.kept.items = omega (arith, c.len.ensures, c.reserve.ensures.len, inside.kept.ok.0) in
    rw (c.push_reserved-2.ensures.items, c.push_reserved.ensures.items, c.reserve.ensures.items, c.reserve-2.ensures.items) (kept_made inside.kept.items inside.unfinished.items c.args.row (c.len.result + 1) c.self.invariant fits number)
