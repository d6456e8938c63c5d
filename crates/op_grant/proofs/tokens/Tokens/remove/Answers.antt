use Rattle.std.proofs.Common.{ap, sym, subst, ◌∙◌}
use Rattle.op_grant.specs.Tokens.{IsTokenAt, left}
use Rattle.op_grant.proofs.TokenLists.{rising-left, removed_is_left, left_without}
use Rattle.op_grant.proofs.tokens.Tokens.remove.Goals as goal

pub invariant_of-self : goal.invariant_of-self
invariant_of-self c =
    let kept = c.self.inside.kept in
    let found = subst (λ v. IsTokenAt v.tokens c.in-Some.at c.args.place) (sym c.self.view_is) c.in-Some.ensures in
    rw (c.remove.ensures.items, removed_is_left kept.items c.in-Some.at c.args.place c.self.invariant found) (rising-left c.args.place kept.items c.self.invariant)

pub returns-in-Some-clause-tokens : goal.returns-in-Some-clause-tokens
returns-in-Some-clause-tokens c =
    let kept = c.self.inside.kept in
    let found = subst (λ v. IsTokenAt v.tokens c.in-Some.at c.args.place) (sym c.self.view_is) c.in-Some.ensures in
    c.remove.ensures.items ∙ removed_is_left kept.items c.in-Some.at c.args.place c.self.invariant found ∙ ap (λ v. left c.args.place v.tokens) c.self.view_is

pub returns-in_default-clause-tokens : goal.returns-in_default-clause-tokens
returns-in_default-clause-tokens c = sym (left_without c.args.place c.args.self.now.tokens c.in_default.ensures)
