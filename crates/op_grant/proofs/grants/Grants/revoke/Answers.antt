use Rattle.std.proofs.Common.{sym, subst, refl, Ok, Err}
use Rattle.std.proofs.lemmas.Result.{err_from_is_err_and}
use Rattle.op_grant.specs.Indexed.{IsKept}
use Rattle.op_grant.specs.Rows.{token_answer, revoked}
use Rattle.op_grant.proofs.Indexing.{kept_changed}
use Rattle.op_grant.proofs.Changes.{Reads, answered, rows_set, changed}
use Rattle.op_grant.proofs.grants.Grants.revoke.Goals as goal

pub returns-in_err-token_answer-clause-answer : goal.returns-in_err-token_answer-clause-answer
returns-in_err-token_answer-clause-answer c =
    let p = err_from_is_err_and c.from_residual.result c.from_residual.ensures.1 in
    let reads : Reads c.args.self.now c.self.inside.rows.items c.self.inside.counters.entries c.args.n c.index_mut-row.result.now =
    record { view = c.self.view_is; there = c.requires; at = c.index_mut-row.ensures.value } in
    rw (p.1, p.2) (answered c.args.self.now c.self.inside.rows.items c.self.inside.counters.entries c.args.n c.index_mut-row.result.now (token_answer c.args.token.now) (Err c.in_err-token_answer.field-0.0) reads c.in_err-token_answer.ensures)

reads : (c : goal.After-self-2-1) → Reads c.args.self.now c.self.inside.rows.items c.self.inside.counters.entries c.args.n c.index_mut-row.result.now
reads c = record { view = c.self.view_is; there = c.requires; at = c.index_mut-row.ensures.value }

pub invariant_of-self-2 : goal.invariant_of-self-2
invariant_of-self-2 c =
    let row = c.index_mut-row.result.now in
    subst (IsKept c.self.inside.tokens) (sym (rows_set c.args.self.now c.self.inside.rows.items c.self.inside.counters.entries c.args.n row (revoked row) revoked (reads c) refl))
    (kept_changed c.self.inside.tokens c.self.inside.rows.items revoked c.args.n (λ r. refl) (λ r. refl) c.self.invariant)

pub returns-clause-answer : goal.returns-clause-answer
returns-clause-answer c =
    answered c.args.self.now c.self.inside.rows.items c.self.inside.counters.entries c.args.n c.index_mut-row.result.now (token_answer c.args.token.now) (Ok tt) (reads c) c.in_ok-token_answer.ensures

pub returns-clause-ok : goal.returns-clause-ok
returns-clause-ok c =
    let row = c.index_mut-row.result.now in
    changed c.args.self.now c.self.inside.rows.items c.self.inside.counters.entries c.args.n row (revoked row) revoked (reads c) refl
