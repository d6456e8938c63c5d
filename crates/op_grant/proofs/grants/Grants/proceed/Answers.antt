use Rattle.std.proofs.Common.{◌≡◌, ℕ, ◌<◌, length, get_or, sym, subst, ap, ◌∙◌, refl, rules, Ok, Err}
use Rattle.std.specs.Option.{option_map, option_copied}
use Rattle.std.proofs.lemmas.Result.{err_from_is_err_and}
use Rattle.op_names.specs.Secrets.{secret_text}
use Rattle.op_names.specs.declared.Letter.TheVariants.{Access}
use Rattle.op_grant.specs.Indexed.{IsKept, IsDrawnAt, accesses}
use Rattle.op_grant.specs.Places.{IsNewPlace}
use Rattle.op_grant.specs.Rows.{proceed_answer, proceeded_row}
use Rattle.op_grant.specs.declared.fault.Proceeded.TheVariants.{Polled, Issued}
use Rattle.op_grant.proofs.Indexing.{kept_changed, kept_issued, room_or_found, behind_all}
use Rattle.op_grant.proofs.Numbered.{nth-map}
use Rattle.op_grant.proofs.Changes.{Reads, answered, rows_set, changed, found_in}
use Rattle.op_grant.proofs.grants.Grants.proceed.Goals as goal

pub returns-in_err-answer-clause-answer : goal.returns-in_err-answer-clause-answer
returns-in_err-answer-clause-answer c =
    let p = err_from_is_err_and c.from_residual.result c.from_residual.ensures.1 in
    let reads : Reads c.args.self.now c.self.inside.rows.items c.self.inside.counters.entries c.args.n c.index_mut-row.result.now =
    record { view = c.self.view_is; there = c.requires.there; at = c.index_mut-row.ensures.value } in
    rw (p.1, p.2) (answered c.args.self.now c.self.inside.rows.items c.self.inside.counters.entries c.args.n c.index_mut-row.result.now (proceed_answer c.args.t c.args.token.now (option_copied c.args.reference)) (Err c.in_err-answer.field-0.0) reads c.in_err-answer.ensures)

-- ---- a poll

polled : (c : goal.After-self-in-Polled-1) → Reads c.args.self.now c.self.inside.rows.items c.self.inside.counters.entries c.args.n c.index_mut-row.result.now
polled c = record { view = c.self.view_is; there = c.requires.there; at = c.index_mut-row.ensures.value }

pub invariant_of-self-in-Polled : goal.invariant_of-self-in-Polled
invariant_of-self-in-Polled c =
    let rows = c.self.inside.rows.items in
    let change = proceeded_row c.args.t c.args.word.now c.args.place Polled in
    subst (IsKept c.self.inside.tokens) (sym (rows_set c.args.self.now rows c.self.inside.counters.entries c.args.n c.index_mut-row.result.now c.poll.new.row change (polled c) c.poll.ensures))
    (kept_changed c.self.inside.tokens rows change c.args.n (λ r. refl) (λ r. refl) c.self.invariant)

pub returns-in-Polled-clause-answer : goal.returns-in-Polled-clause-answer
returns-in-Polled-clause-answer c =
    answered c.args.self.now c.self.inside.rows.items c.self.inside.counters.entries c.args.n c.index_mut-row.result.now (proceed_answer c.args.t c.args.token.now (option_copied c.args.reference)) (Ok c.in_ok-answer.answer) (polled c) c.in_ok-answer.ensures

pub returns-in-Polled-clause-ok : goal.returns-in-Polled-clause-ok
returns-in-Polled-clause-ok c = rw c.in-Polled.is
    (changed c.args.self.now c.self.inside.rows.items c.self.inside.counters.entries c.args.n c.index_mut-row.result.now c.poll.new.row (proceeded_row c.args.t c.args.word.now c.args.place Polled) (polled c) c.poll.ensures)

-- ---- an issue

pub replace-requires-clause-room : goal.replace-requires-clause-room
replace-requires-clause-room c =
    let rows = c.self.inside.rows.items in
    let reads : Reads c.args.self.now rows c.self.inside.counters.entries c.args.n c.index_mut-row.result.now =
    record { view = c.self.view_is; there = c.requires.there; at = c.index_mut-row.ensures.value } in
    let there = found_in c.args.self.now rows c.self.inside.counters.entries c.args.n c.index_mut-row.result.now reads in
    room_or_found c.self.inside.tokens (accesses rows) c.args.n c.index_mut-row.result.now.access c.self.invariant.indexed (nth-map (λ r. r.access) rows c.args.n ∙ ap (option_map (λ r. r.access)) there)

pub replace-requires-clause-behind : goal.replace-requires-clause-behind
replace-requires-clause-behind c =
    behind_all c.self.inside.tokens c.self.inside.rows.items c.args.place c.self.invariant.indexed (subst (λ v. IsNewPlace c.args.place v.rows) (sym c.self.view_is) c.requires.place)

reads : (c : goal.After-replace) → Reads c.args.self.now c.self.inside.rows.items c.self.inside.counters.entries c.args.n c.index_mut-row.result.now
reads c = record { view = c.self.view_is; there = c.requires.there; at = c.index_mut-row.ensures.value }

pub invariant_of-self-in-Issued : goal.invariant_of-self-in-Issued
invariant_of-self-in-Issued c =
    let rows = c.self.inside.rows.items in
    let row = c.index_mut-row.result.now in
    let word = c.args.word.now in
    let place = c.args.place in
    let change = proceeded_row c.args.t word place Issued in
    let size : length word ≡ 16 = search rules in
    let bytes : (i : ℕ) → get_or word i 0 < 256 = search rules in
    let drawn : IsDrawnAt place (secret_text Access word place) = record { word = word; drawn = (size, bytes); small = search rules; is = refl } in
    subst (IsKept c.replace.new.self) (sym (rows_set c.args.self.now rows c.self.inside.counters.entries c.args.n row c.issue.new.row change (reads c) c.issue.ensures))
    (kept_issued c.self.inside.tokens c.replace.new.self rows change c.args.n place (secret_text Access word place) row (λ r. refl) (λ r. refl) c.self.invariant
    (found_in c.args.self.now rows c.self.inside.counters.entries c.args.n row (reads c)) drawn
    (subst (λ v. IsNewPlace place v.rows) (sym c.self.view_is) c.requires.place) c.replace.ensures.tokens c.replace.ensures.room)

pub returns-in-Issued-clause-answer : goal.returns-in-Issued-clause-answer
returns-in-Issued-clause-answer c =
    answered c.args.self.now c.self.inside.rows.items c.self.inside.counters.entries c.args.n c.index_mut-row.result.now (proceed_answer c.args.t c.args.token.now (option_copied c.args.reference)) (Ok c.in_ok-answer.answer) (reads c) c.in_ok-answer.ensures

pub returns-in-Issued-clause-ok : goal.returns-in-Issued-clause-ok
returns-in-Issued-clause-ok c = rw c.in-Issued.is
    (changed c.args.self.now c.self.inside.rows.items c.self.inside.counters.entries c.args.n c.index_mut-row.result.now c.issue.new.row (proceeded_row c.args.t c.args.word.now c.args.place Issued) (reads c) c.issue.ensures)
