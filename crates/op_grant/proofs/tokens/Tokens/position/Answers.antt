use Rattle.std.proofs.Common.{sym, subst, rules}
use Rattle.std.proofs.lemmas.List.Sorted.{answers_always}
use Rattle.op_grant.specs.Tokens.{AreRising}
use Rattle.op_grant.proofs.TokenLists.{searched_tokens}
use Rattle.op_grant.proofs.tokens.Tokens.position.Goals as goal

-- the closure gives a token's place, and the slice is the list of tokens
pub returns : goal.returns
returns c =
    let facts = c.binary_search_by_key.ensures in
    let by_place = facts.position (λ t. t.place) (answers_always _ _ _ (λ f a r g called. search rules)) in
    rw (← c.self.view_is, ← c.deref.ensures.value, c.ok.ensures.value)
    (searched_tokens c.deref.result.now c.args.place c.binary_search_by_key.result (subst AreRising (sym c.deref.ensures.value) c.self.invariant) facts.bound by_place)
