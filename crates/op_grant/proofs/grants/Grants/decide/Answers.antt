use Rattle.std.proofs.Common.{sym, subst, refl, Ok, Err}
use Rattle.std.proofs.lemmas.Result.{err_from_is_err_and}
use Rattle.op_grant.specs.Indexed.{IsKept}
use Rattle.op_grant.specs.Rows.{decide_answer, decided}
use Rattle.op_grant.proofs.Indexing.{kept_changed}
use Rattle.op_grant.proofs.Changes.{Reads, answered, rows_set, changed}
use Rattle.op_grant.proofs.grants.Grants.decide.Goals as goal

pub returns-in_err-decide_answer-clause-answer : goal.returns-in_err-decide_answer-clause-answer
returns-in_err-decide_answer-clause-answer c =
    let p = err_from_is_err_and c.from_residual.result c.from_residual.ensures.1 in
    let reads : Reads c.args.self.now c.self.inside.rows.items c.self.inside.counters.entries c.args.n c.index_mut-row.result.now =
    record { view = c.self.view_is; there = c.requires.there; at = c.index_mut-row.ensures.value } in
    rw (p.1, p.2) (answered c.args.self.now c.self.inside.rows.items c.self.inside.counters.entries c.args.n c.index_mut-row.result.now decide_answer (Err c.in_err-decide_answer.field-0.0) reads c.in_err-decide_answer.ensures)

reads : (c : goal.After-self-2-1) → Reads c.args.self.now c.self.inside.rows.items c.self.inside.counters.entries c.args.n c.index_mut-row.result.now
reads c = record { view = c.self.view_is; there = c.requires.there; at = c.index_mut-row.ensures.value }

pub invariant_of-self-2 : goal.invariant_of-self-2
invariant_of-self-2 c =
    let change = decided c.args.accept c.args.word.now c.args.place in
    subst (IsKept c.self.inside.tokens) (sym (rows_set c.args.self.now c.self.inside.rows.items c.self.inside.counters.entries c.args.n c.index_mut-row.result.now c.decide.new.row change (reads c) c.decide.ensures))
    (kept_changed c.self.inside.tokens c.self.inside.rows.items change c.args.n (λ r. refl) (λ r. refl) c.self.invariant)

pub returns-clause-answer : goal.returns-clause-answer
returns-clause-answer c =
    answered c.args.self.now c.self.inside.rows.items c.self.inside.counters.entries c.args.n c.index_mut-row.result.now decide_answer (Ok tt) (reads c) c.in_ok-decide_answer.ensures

pub returns-clause-ok : goal.returns-clause-ok
returns-clause-ok c =
    changed c.args.self.now c.self.inside.rows.items c.self.inside.counters.entries c.args.n c.index_mut-row.result.now c.decide.new.row (decided c.args.accept c.args.word.now c.args.place) (reads c) c.decide.ensures
