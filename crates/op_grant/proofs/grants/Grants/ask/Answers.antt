use Rattle.std.proofs.Common.{◌≡◌, ℕ, ◌+◌, ◌≤◌, ◌<◌, [], ◌∷◌, ◌++◌, length, get_or, sym, subst, ap, ◌∙◌, refl, arith, rules, length-append, Some, None, IsTrue}
use Rattle.std.specs.Prelude.{All, if◌then◌else◌}
use Rattle.op_names.specs.Secrets.{secret_text}
use Rattle.op_names.specs.declared.Letter.TheVariants.{Access}
use Rattle.op_model.specs.Grants.{is_immediate}
use Rattle.op_grant.specs.Indexed.{IsDrawnAt}
use Rattle.op_grant.specs.Limits.{are_readable}
use Rattle.op_grant.specs.Places.{IsNewPlace}
use Rattle.op_grant.proofs.Indexing.{kept_pending, kept_immediate, behind_all}
use Rattle.op_grant.proofs.grants.Grants.ask.Goals as goal

pub push-requires-clause-behind : goal.push-requires-clause-behind
push-requires-clause-behind c =
    let place = c.args.place in
    subst (All (λ t. t.place < place)) (sym c.reserve-2.ensures.same)
    (behind_all c.self.inside.tokens c.self.inside.rows.items place c.self.invariant.indexed (subst (λ v. IsNewPlace place v.rows) (sym c.self.view_is) c.requires.place))

pub invariant_of-self-then-immediate : goal.invariant_of-self-then-immediate
invariant_of-self-then-immediate c =
    let rows = c.self.inside.rows in
    let tokens = c.self.inside.tokens in
    let row = c.asked_row.result in
    let word = c.args.word.now in
    let place = c.args.place in
    let text = secret_text Access word place in
    let size : length word ≡ 16 = search rules in
    let bytes : (i : ℕ) → get_or word i 0 < 256 = search rules in
    let drawn : IsDrawnAt place text = record { word = word; drawn = (size, bytes); small = search rules; is = refl } in
    let immediate = ap (λ items. is_immediate items) (sym c.as_slice.ensures) ∙ sym c.if-immediate.ensures in
    let access : row.access ≡ Some text = ap (λ r. r.access) c.asked_row.ensures ∙ ap (λ b. if b then Some text else None) immediate in
    let items : IsTrue (are_readable row.items) = subst (λ r. IsTrue (are_readable r.items)) (sym c.asked_row.ensures) c.requires.intervals in
    let number : c.len-3.result + 1 ≡ length rows.items + 1 = omega (arith, c.len-3.ensures, c.reserve.ensures.len, rows.ok.0) in
    let pushed = c.push.ensures.tokens ∙ ap (λ ts. ts ++ record { place = place; grant = c.len-3.result + 1 } ∷ []) c.reserve-2.ensures.same ∙ ap (λ n. tokens.tokens ++ record { place = place; grant = n } ∷ []) number in
    let room : length rows.items + 1 ≤ c.push.new.self.room + length c.push.new.self.tokens =
    omega (arith, c.push.ensures.room, ap length c.push.ensures.tokens, length-append c.reserve-2.new.self.tokens (record { place = place; grant = c.len-3.result + 1 } ∷ []), c.in_ok-reserve-2.ensures.room, ap length c.reserve-2.ensures.same, c.len.ensures, c.len-2.ensures, c.reserve.ensures.len, rows.ok.0) in
    rw (c.push_reserved.ensures.items, c.reserve.ensures.items)
    (kept_immediate tokens c.push.new.self rows.items row place text c.self.invariant access drawn items
    (subst (λ v. IsNewPlace place v.rows) (sym c.self.view_is) c.requires.place) pushed room)

pub invariant_of-self-else-immediate : goal.invariant_of-self-else-immediate
invariant_of-self-else-immediate c =
    let rows = c.self.inside.rows in
    let tokens = c.self.inside.tokens in
    let row = c.asked_row.result in
    let text = secret_text Access c.args.word.now c.args.place in
    let immediate = ap (λ items. is_immediate items) (sym c.as_slice.ensures) ∙ sym c.if-immediate.ensures in
    let access : row.access ≡ None = ap (λ r. r.access) c.asked_row.ensures ∙ ap (λ b. if b then Some text else None) immediate in
    let items : IsTrue (are_readable row.items) = subst (λ r. IsTrue (are_readable r.items)) (sym c.asked_row.ensures) c.requires.intervals in
    let room : length rows.items + 1 ≤ c.reserve-2.new.self.room + length c.reserve-2.new.self.tokens =
    omega (arith, c.in_ok-reserve-2.ensures.room, ap length c.reserve-2.ensures.same, c.len.ensures, c.len-2.ensures, c.reserve.ensures.len, rows.ok.0) in
    rw (c.push_reserved.ensures.items, c.reserve.ensures.items)
    (kept_pending tokens c.reserve-2.new.self rows.items row c.self.invariant access items c.reserve-2.ensures.same room)
