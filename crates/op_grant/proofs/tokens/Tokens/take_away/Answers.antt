use Rattle.std.proofs.Common.{◌≡◌, ap, ◌∙◌}
use Rattle.op_grant.specs.Tokens.{left}
use Rattle.op_grant.proofs.tokens.Tokens.take_away.Goals as goal

pub returns-in-Some-place_of-clause-tokens : goal.returns-in-Some-place_of-clause-tokens
returns-in-Some-place_of-clause-tokens c = rw c.in-Some.is (λ place drawn.
    let same = c.in-Some-place_of.ensures place drawn in
    let at : c.in-Some-place_of.place ≡ place = cc same in
    c.remove.ensures.tokens ∙ ap (λ p. left p c.args.self.now.tokens) at)

pub returns-in-None-clause-tokens : goal.returns-in-None-clause-tokens
returns-in-None-clause-tokens c = rw c.in-Some.is (λ place drawn. absurd (let none = c.in-None.ensures place drawn in cc none))
