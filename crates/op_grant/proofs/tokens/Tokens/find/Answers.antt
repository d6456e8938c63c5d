use Rattle.std.proofs.Common.{sym, subst}
use Rattle.op_grant.specs.Tokens.{IsTokenAt}
use Rattle.op_grant.proofs.TokenLists.{grant_found}
use Rattle.op_grant.proofs.tokens.Tokens.find.Goals as goal

pub returns-in-Some : goal.returns-in-Some
returns-in-Some c =
    let found = subst (λ v. IsTokenAt v.tokens c.in-Some.at c.args.place) (sym c.self.view_is) c.in-Some.ensures in
    rw (← c.self.view_is) (grant_found c.self.inside.kept.items c.in-Some.at c.args.place c.index.result.now c.self.invariant found c.index.ensures)
