use Rattle.std.proofs.Common.{◌≡◌, ℕ, ◌<◌, length, get_or, sym, subst, ap, ◌∙◌, refl, rules, Ok, Err}
use Rattle.std.specs.Option.{option_map}
use Rattle.std.proofs.lemmas.Result.{err_from_is_err_and}
use Rattle.op_names.specs.Secrets.{secret_text}
use Rattle.op_names.specs.declared.Letter.TheVariants.{Access}
use Rattle.op_grant.specs.Indexed.{IsKept, IsDrawnAt, accesses}
use Rattle.op_grant.specs.Places.{IsNewPlace}
use Rattle.op_grant.specs.Rows.{token_answer, rotated}
use Rattle.op_grant.proofs.Indexing.{kept_issued, room_or_found, behind_all}
use Rattle.op_grant.proofs.Numbered.{nth-map}
use Rattle.op_grant.proofs.Changes.{Reads, answered, rows_set, changed, found_in}
use Rattle.op_grant.proofs.grants.Grants.rotate.Goals as goal

pub returns-in_err-token_answer-clause-answer : goal.returns-in_err-token_answer-clause-answer
returns-in_err-token_answer-clause-answer c =
    let p = err_from_is_err_and c.from_residual.result c.from_residual.ensures.1 in
    let reads : Reads c.args.self.now c.self.inside.rows.items c.self.inside.counters.entries c.args.n c.index_mut-row.result.now =
    record { view = c.self.view_is; there = c.requires.there; at = c.index_mut-row.ensures.value } in
    rw (p.1, p.2) (answered c.args.self.now c.self.inside.rows.items c.self.inside.counters.entries c.args.n c.index_mut-row.result.now (token_answer c.args.token.now) (Err c.in_err-token_answer.field-0.0) reads c.in_err-token_answer.ensures)

pub replace-requires-clause-room : goal.replace-requires-clause-room
replace-requires-clause-room c =
    let rows = c.self.inside.rows.items in
    let reads : Reads c.args.self.now rows c.self.inside.counters.entries c.args.n c.index_mut-row.result.now =
    record { view = c.self.view_is; there = c.requires.there; at = c.index_mut-row.ensures.value } in
    let there = found_in c.args.self.now rows c.self.inside.counters.entries c.args.n c.index_mut-row.result.now reads in
    room_or_found c.self.inside.tokens (accesses rows) c.args.n c.index_mut-row.result.now.access c.self.invariant.indexed (nth-map (λ r. r.access) rows c.args.n ∙ ap (option_map (λ r. r.access)) there)

pub replace-requires-clause-behind : goal.replace-requires-clause-behind
replace-requires-clause-behind c =
    behind_all c.self.inside.tokens c.self.inside.rows.items c.args.place c.self.invariant.indexed (subst (λ v. IsNewPlace c.args.place v.rows) (sym c.self.view_is) c.requires.place)

reads : (c : goal.After-replace) → Reads c.args.self.now c.self.inside.rows.items c.self.inside.counters.entries c.args.n c.index_mut-row.result.now
reads c = record { view = c.self.view_is; there = c.requires.there; at = c.index_mut-row.ensures.value }

pub invariant_of-self-2 : goal.invariant_of-self-2
invariant_of-self-2 c =
    let rows = c.self.inside.rows.items in
    let row = c.index_mut-row.result.now in
    let word = c.args.word.now in
    let place = c.args.place in
    let change = rotated c.args.t word place in
    let size : length word ≡ 16 = search rules in
    let bytes : (i : ℕ) → get_or word i 0 < 256 = search rules in
    let drawn : IsDrawnAt place (secret_text Access word place) = record { word = word; drawn = (size, bytes); small = search rules; is = refl } in
    subst (IsKept c.replace.new.self) (sym (rows_set c.args.self.now rows c.self.inside.counters.entries c.args.n row c.rotate.new.row change (reads c) c.rotate.ensures))
    (kept_issued c.self.inside.tokens c.replace.new.self rows change c.args.n place (secret_text Access word place) row (λ r. refl) (λ r. refl) c.self.invariant
    (found_in c.args.self.now rows c.self.inside.counters.entries c.args.n row (reads c)) drawn
    (subst (λ v. IsNewPlace place v.rows) (sym c.self.view_is) c.requires.place) c.replace.ensures.tokens c.replace.ensures.room)

pub returns-clause-answer : goal.returns-clause-answer
returns-clause-answer c =
    answered c.args.self.now c.self.inside.rows.items c.self.inside.counters.entries c.args.n c.index_mut-row.result.now (token_answer c.args.token.now) (Ok tt) (reads c) c.in_ok-token_answer.ensures

pub returns-clause-ok : goal.returns-clause-ok
returns-clause-ok c =
    changed c.args.self.now c.self.inside.rows.items c.self.inside.counters.entries c.args.n c.index_mut-row.result.now c.rotate.new.row (rotated c.args.t c.args.word.now c.args.place) (reads c) c.rotate.ensures
