use Rattle.std.proofs.Common.{sym, subst, ◌<◌}
use Rattle.std.specs.Prelude.{All}
use Rattle.op_grant.proofs.TokenLists.{rising-append}
use Rattle.op_grant.proofs.tokens.Tokens.push.Goals as goal

pub invariant_of-self : goal.invariant_of-self
invariant_of-self c =
    let below = subst (λ v. All (λ t. t.place < c.args.token.place) v.tokens) (sym c.self.view_is) c.requires.behind in
    rw c.push_reserved.ensures.items (rising-append c.self.inside.kept.items c.args.token c.self.invariant below)
