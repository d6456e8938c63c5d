-- The grants of a history behind each act on one of them.
use Rattle.std.proofs.Common.{◌≡◌, ℕ, ◌+◌, ◌<◌, Bool, true, false, cond, ◌&&◌, ◌||◌, List, [], ◌∷◌, ◌++◌, length, map, refl, ◌∙◌, sym, ap, arith, Some, None, Option, append-nil}
use Rattle.std.proofs.lemmas.Bool.Decides.{nat_tests}
use Rattle.std.proofs.lemmas.List.{map-append}
use Rattle.std.specs.Prelude.{nat_lt, unwrap_or, is_some, ◌==◌}
use Rattle.std.specs.List.{filter_map}
use Rattle.std.specs.Option.{option_map, option_map_or, option_to_list}
use Rattle.op_model.specs.History.{nth, numbered, last, with_item}
use Rattle.op_model.specs.Grants.{Draw, GrantMade, grants_made, grants, grant_row, grant_so_far, grant_state, draws, draw_at, access_draws, continuation_draws, access_word, continuation_word, reference_word, polls, has_act, is_immediate, is_accepting, is_rejecting, is_continuing, is_cancelling, is_polling, is_revoking, is_revoked, is_cancelled, access_text, continuation_text, nonce_text, reference_text}
use Rattle.op_model.specs.GrantAnswers.{is_pending}
use Rattle.op_model.specs.declared.act.Act.{Act}
use Rattle.op_model.specs.declared.act.Act.TheVariants as acts
use Rattle.op_model.specs.declared.act.Entry.{Entry}
use Rattle.op_model.specs.declared.grant.Finish.{Finish}
use Rattle.op_model.specs.declared.grant.Item.{Item}
use Rattle.op_model.specs.declared.row.GrantRow.{GrantRow}
use Rattle.op_model.specs.declared.row.GrantState.{GrantState}
use Rattle.op_model.specs.declared.row.GrantState.TheVariants as states
use Rattle.op_model.proofs.Next.{draws-next, last-next, grants_made-next, numbered-next}
use Rattle.op_model.proofs.Numbered.{itself, map-same, any_narrow, none_taken, none_numbered}
use Rattle.op_model.proofs.GrantParts.{access-next, continuation-next, revoked-next, polls-next, drawn_by}
use Rattle.op_model.proofs.GrantPlaces.{access_placed, not_revoked}
use Rattle.op_model.proofs.GrantsNext.{changes_grant, row_of, row_is, same_row, row_next, row_at, grants_act, state_by, state_next, state_was, state_same, polls_same, reference_same, grant_stays, apart_act}

-- a history with an act at t behind it, and the draw of that entry
abbrev pub behind : List Entry → ℕ → Act → List Entry
behind history t act = history ++ record { at = t; act = act } ∷ []

abbrev pub next_draw : List Entry → ℕ → List ℕ → Draw
next_draw history t word = draw_at (1 + length history) t word

or_true : (b : Bool) → (b || true) ≡ true
or_true true = refl
or_true false = refl

-- ---- what is drawn

last_drawn : (word : Act → Option (List ℕ)) (history : List Entry) (t : ℕ) (act : Act) (text : List ℕ) (xs ys : List Draw) → ys ≡ xs ++ drawn_by word history (record { at = t; act = act }) → word act ≡ Some text → last ys ≡ Some (draw_at (1 + length history) t text)
last_drawn word history t act text xs ys more is =
    ap (λ (l : List Draw). last l) (more ∙ ap (λ (o : Option (List ℕ)). xs ++ option_to_list (option_map (draw_at (1 + length history) t) o)) is)
    ∙ last-next xs (draw_at (1 + length history) t text)

own_word : (g : ℕ) (word : List ℕ) → cond (g == g) (Some word) None ≡ Some word
own_word g word = ap (λ b. cond b (Some word) None) (itself g)

-- ---- accepting and rejecting

accepts : (a i b c d own : Bool) → is_pending (state_by a i b c d) ≡ true → own ≡ true → state_by (a || false) i (b || false) (c || false) (d || own) ≡ states.Accepted
unfolding state_by
accepts true i b c d own h e = absurd (let f : false ≡ true = h in cc)
accepts false true b c d own h e = absurd (let f : false ≡ true = h in cc)
accepts false false true c d own h e = absurd (let f : false ≡ true = h in cc)
accepts false false false true d own h e = absurd (let f : false ≡ true = h in cc)
accepts false false false false true own h e = absurd (let f : false ≡ true = h in cc)
accepts false false false false false own h e = ap (λ x. cond x states.Accepted states.Pending) e

rejects : (a i b c d own : Bool) → is_pending (state_by a i b c d) ≡ true → own ≡ true → state_by (a || false) i (b || false) (c || own) (d || false) ≡ states.Rejected
unfolding state_by
rejects true i b c d own h e = absurd (let f : false ≡ true = h in cc)
rejects false true b c d own h e = absurd (let f : false ≡ true = h in cc)
rejects false false true c d own h e = absurd (let f : false ≡ true = h in cc)
rejects false false false true d own h e = absurd (let f : false ≡ true = h in cc)
rejects false false false false true own h e = absurd (let f : false ≡ true = h in cc)
rejects false false false false false own h e = ap (λ x. cond x states.Rejected states.Pending) e

-- the row of a grant that was decided
abbrev pub decided_with : GrantState → Draw → GrantRow → GrantRow
decided_with state draw row = record row { state = state; reference = Some (reference_text draw) }

-- the grant of the number is pending, where it is there
abbrev pub IsPendingAt : List Entry → ℕ → Type 0
IsPendingAt history g = (row : GrantRow) → grant_row history g ≡ Some row → is_pending row.state ≡ true

accepted_itself : (history : List Entry) (t g : ℕ) (word : List ℕ) (m : GrantMade) → is_pending (grant_state history g m) ≡ true
    → grant_so_far (behind history t (acts.GrantAccepted g word)) (g, m) ≡ decided_with states.Accepted (next_draw history t word) (grant_so_far history (g, m))
unfolding row_of
accepted_itself history t g word m waits =
    let e : Entry = record { at = t; act = acts.GrantAccepted g word } in
    row_next history e g m (unwrap_or (last (polls history g m)) m.draw.at) states.Accepted (Some (next_draw history t word)) (record { no_access = refl; no_continuation = refl; no_revoking = refl })
    (ap (λ (l : List ℕ). unwrap_or (last l) m.draw.at) (polls_same history e g m refl))
    (state_next history e g m
    ∙ accepts (has_act (is_cancelling g) history) (is_immediate m.items) (has_act (is_continuing g) history) (has_act (is_rejecting g) history) (has_act (is_accepting g) history) (g == g) (ap is_pending (sym (state_was history g m)) ∙ waits) (itself g))
    (last_drawn (reference_word g) history t (acts.GrantAccepted g word) word (draws (reference_word g) history) (draws (reference_word g) (history ++ e ∷ [])) (draws-next (reference_word g) history e) (own_word g word))

rejected_itself : (history : List Entry) (t g : ℕ) (word : List ℕ) (m : GrantMade) → is_pending (grant_state history g m) ≡ true
    → grant_so_far (behind history t (acts.GrantRejected g word)) (g, m) ≡ decided_with states.Rejected (next_draw history t word) (grant_so_far history (g, m))
unfolding row_of
rejected_itself history t g word m waits =
    let e : Entry = record { at = t; act = acts.GrantRejected g word } in
    row_next history e g m (unwrap_or (last (polls history g m)) m.draw.at) states.Rejected (Some (next_draw history t word)) (record { no_access = refl; no_continuation = refl; no_revoking = refl })
    (ap (λ (l : List ℕ). unwrap_or (last l) m.draw.at) (polls_same history e g m refl))
    (state_next history e g m
    ∙ rejects (has_act (is_cancelling g) history) (is_immediate m.items) (has_act (is_continuing g) history) (has_act (is_rejecting g) history) (has_act (is_accepting g) history) (g == g) (ap is_pending (sym (state_was history g m)) ∙ waits) (itself g))
    (last_drawn (reference_word g) history t (acts.GrantRejected g word) word (draws (reference_word g) history) (draws (reference_word g) (history ++ e ∷ [])) (draws-next (reference_word g) history e) (own_word g word))

pub grants_accepted : (history : List Entry) (t g : ℕ) (word : List ℕ) → IsPendingAt history g → grants (behind history t (acts.GrantAccepted g word)) ≡ with_item (decided_with states.Accepted (next_draw history t word)) (grants history) g
grants_accepted history t g word waits =
    grants_act history t (acts.GrantAccepted g word) g (decided_with states.Accepted (next_draw history t word)) refl (λ j. refl)
    (λ m h. accepted_itself history t g word m (waits (grant_so_far history (g, m)) (row_at history g m h)))

pub grants_rejected : (history : List Entry) (t g : ℕ) (word : List ℕ) → IsPendingAt history g → grants (behind history t (acts.GrantRejected g word)) ≡ with_item (decided_with states.Rejected (next_draw history t word)) (grants history) g
grants_rejected history t g word waits =
    grants_act history t (acts.GrantRejected g word) g (decided_with states.Rejected (next_draw history t word)) refl (λ j. refl)
    (λ m h. rejected_itself history t g word m (waits (grant_so_far history (g, m)) (row_at history g m h)))

-- ---- polling

abbrev pub polled_at : ℕ → GrantRow → GrantRow
polled_at t row = record row { last = t }

polled_itself : (history : List Entry) (t g : ℕ) (m : GrantMade) → grant_so_far (behind history t (acts.GrantPolled g)) (g, m) ≡ polled_at t (grant_so_far history (g, m))
unfolding row_of
polled_itself history t g m =
    let e : Entry = record { at = t; act = acts.GrantPolled g } in
    let nothing : Option ℕ = None in
    row_next history e g m t (grant_state history g m) (last (draws (reference_word g) history)) (record { no_access = refl; no_continuation = refl; no_revoking = refl })
    (ap (λ (l : List ℕ). unwrap_or (last l) m.draw.at) (polls-next history e g m ∙ ap (λ b. polls history g m ++ option_to_list (cond b (Some t) nothing)) (itself g)) ∙ ap (λ (o : Option ℕ). unwrap_or o m.draw.at) (last-next (polls history g m) t))
    (state_same history e g m (record { no_cancelling = refl; no_continuing = refl; no_rejecting = refl; no_accepting = refl }))
    (ap (λ (l : List Draw). last l) (reference_same history e g refl))

pub grants_polled : (history : List Entry) (t g : ℕ) → grants (behind history t (acts.GrantPolled g)) ≡ with_item (polled_at t) (grants history) g
grants_polled history t g = grants_act history t (acts.GrantPolled g) g (polled_at t) refl (λ j. refl) (λ m h. polled_itself history t g m)

-- ---- cancelling

abbrev pub cancelled_row : GrantRow → GrantRow
cancelled_row row = record row { state = states.Cancelled }

cancelled_itself : (history : List Entry) (t g : ℕ) (m : GrantMade) → grant_so_far (behind history t (acts.GrantCancelled g)) (g, m) ≡ cancelled_row (grant_so_far history (g, m))
unfolding row_of state_by
cancelled_itself history t g m =
    let e : Entry = record { at = t; act = acts.GrantCancelled g } in
    let done : (has_act (is_cancelling g) history || (g == g)) ≡ true = ap (λ b. has_act (is_cancelling g) history || b) (itself g) ∙ or_true (has_act (is_cancelling g) history) in
    row_next history e g m (unwrap_or (last (polls history g m)) m.draw.at) states.Cancelled (last (draws (reference_word g) history)) (record { no_access = refl; no_continuation = refl; no_revoking = refl })
    (ap (λ (l : List ℕ). unwrap_or (last l) m.draw.at) (polls_same history e g m refl))
    (state_next history e g m ∙ ap (λ b. state_by b (is_immediate m.items) (has_act (is_continuing g) history || false) (has_act (is_rejecting g) history || false) (has_act (is_accepting g) history || false)) done)
    (ap (λ (l : List Draw). last l) (reference_same history e g refl))

pub grants_cancelled : (history : List Entry) (t g : ℕ) → grants (behind history t (acts.GrantCancelled g)) ≡ with_item cancelled_row (grants history) g
grants_cancelled history t g = grants_act history t (acts.GrantCancelled g) g cancelled_row refl (λ j. refl) (λ m h. cancelled_itself history t g m)

-- ---- a token that is drawn

-- a row of the parts that an entry leaves behind
row_parts : (history : List Entry) (e : Entry) (g : ℕ) (made : GrantMade) (access : Option Draw) (continuation : Draw) (moment : ℕ) (state : GrantState) (gone : Bool) (reference : Option Draw)
    → last (access_draws (history ++ e ∷ []) g made) ≡ access → unwrap_or (last (continuation_draws (history ++ e ∷ []) g made)) made.draw ≡ continuation
    → unwrap_or (last (polls (history ++ e ∷ []) g made)) made.draw.at ≡ moment → grant_state (history ++ e ∷ []) g made ≡ state
    → option_map_or (is_revoked (history ++ e ∷ []) g) access false ≡ gone → last (draws (reference_word g) (history ++ e ∷ [])) ≡ reference
    → grant_so_far (history ++ e ∷ []) (g, made) ≡ row_of made access continuation moment state gone reference
row_parts history e g made access continuation moment state gone reference ea ec em es er ef =
    row_is (history ++ e ∷ []) g made
    ∙ same_row made (last (access_draws (history ++ e ∷ []) g made)) access (unwrap_or (last (continuation_draws (history ++ e ∷ []) g made)) made.draw) continuation
    (unwrap_or (last (polls (history ++ e ∷ []) g made)) made.draw.at) moment (grant_state (history ++ e ∷ []) g made) state
    (option_map_or (is_revoked (history ++ e ∷ []) g) (last (access_draws (history ++ e ∷ []) g made)) false) gone
    (last (draws (reference_word g) (history ++ e ∷ []))) reference
    ea ec em es (ap (λ (o : Option Draw). option_map_or (is_revoked (history ++ e ∷ []) g) o false) ea ∙ er) ef

-- the token that an entry draws is not revoked
fresh_token : (history : List Entry) (t : ℕ) (act : Act) (g : ℕ) (word : List ℕ) → is_revoking g act ≡ false → is_revoked (behind history t act) g (next_draw history t word) ≡ false
fresh_token history t act g word none =
    revoked-next history (record { at = t; act = act }) g (next_draw history t word)
    ∙ ap (λ b. is_revoked history g (next_draw history t word) || (nat_lt (1 + length history) (1 + length history) && b)) none
    ∙ ap (λ b. b || (nat_lt (1 + length history) (1 + length history) && false)) (not_revoked history g t word)
    ∙ and_false (nat_lt (1 + length history) (1 + length history))
  where
    and_false : (b : Bool) → (b && false) ≡ false
    and_false true = refl
    and_false false = refl

issues : (a i b c d own : Bool) → is_cancelled (state_by a i b c d) ≡ false → own ≡ true → state_by (a || false) i (b || own) (c || false) (d || false) ≡ states.Issued
unfolding state_by
issues true i b c d own h e = absurd (let f : true ≡ false = h in cc)
issues false true b c d own h e = refl
issues false false true c d own h e = refl
issues false false false c d own h e = ap (λ x. cond x states.Issued (cond (c || false) states.Rejected (cond (d || false) states.Accepted states.Pending))) e

-- the row of a grant whose tokens were drawn, and of one whose access token alone was
abbrev pub issued_with : Draw → GrantRow → GrantRow
issued_with draw row =
    record row { state = states.Issued; issued = Some draw.at; access = Some (access_text draw); revoked = false; continuation = continuation_text draw }

abbrev pub rotated_with : Draw → GrantRow → GrantRow
rotated_with draw row = record row { issued = Some draw.at; access = Some (access_text draw); revoked = false }

issued_itself : (history : List Entry) (t g : ℕ) (word : List ℕ) (m : GrantMade) → is_cancelled (grant_state history g m) ≡ false
    → grant_so_far (behind history t (acts.GrantContinued g word)) (g, m) ≡ issued_with (next_draw history t word) (grant_so_far history (g, m))
unfolding row_of
issued_itself history t g word m stands =
    let act = acts.GrantContinued g word in
    let e : Entry = record { at = t; act = act } in
    let draw = next_draw history t word in
    row_parts history e g m (Some draw) draw (unwrap_or (last (polls history g m)) m.draw.at) states.Issued false (last (draws (reference_word g) history))
    (last_drawn (access_word g) history t act word (access_draws history g m) (access_draws (history ++ e ∷ []) g m) (access-next history e g m) (own_word g word))
    (ap (λ (o : Option Draw). unwrap_or o m.draw) (last_drawn (continuation_word g) history t act word (continuation_draws history g m) (continuation_draws (history ++ e ∷ []) g m) (continuation-next history e g m) (own_word g word)))
    (ap (λ (l : List ℕ). unwrap_or (last l) m.draw.at) (polls_same history e g m refl))
    (state_next history e g m
    ∙ issues (has_act (is_cancelling g) history) (is_immediate m.items) (has_act (is_continuing g) history) (has_act (is_rejecting g) history) (has_act (is_accepting g) history) (g == g) (ap is_cancelled (sym (state_was history g m)) ∙ stands) (itself g))
    (fresh_token history t act g word refl)
    (ap (λ (l : List Draw). last l) (reference_same history e g refl))

pub grants_continued : (history : List Entry) (t g : ℕ) (word : List ℕ) → ((row : GrantRow) → grant_row history g ≡ Some row → is_cancelled row.state ≡ false)
    → grants (behind history t (acts.GrantContinued g word)) ≡ with_item (issued_with (next_draw history t word)) (grants history) g
grants_continued history t g word stands =
    grants_act history t (acts.GrantContinued g word) g (issued_with (next_draw history t word)) refl (λ j. refl)
    (λ m h. issued_itself history t g word m (stands (grant_so_far history (g, m)) (row_at history g m h)))

-- ---- rotating and revoking

rotated_itself : (history : List Entry) (t g : ℕ) (word : List ℕ) (m : GrantMade) → grant_so_far (behind history t (acts.TokenRotated g word)) (g, m) ≡ rotated_with (next_draw history t word) (grant_so_far history (g, m))
unfolding row_of
rotated_itself history t g word m =
    let act = acts.TokenRotated g word in
    let e : Entry = record { at = t; act = act } in
    row_parts history e g m (Some (next_draw history t word)) (unwrap_or (last (continuation_draws history g m)) m.draw) (unwrap_or (last (polls history g m)) m.draw.at) (grant_state history g m) false (last (draws (reference_word g) history))
    (last_drawn (access_word g) history t act word (access_draws history g m) (access_draws (history ++ e ∷ []) g m) (access-next history e g m) (own_word g word))
    (ap (λ (l : List Draw). unwrap_or (last l) m.draw) (continuation-next history e g m ∙ append-nil (continuation_draws history g m)))
    (ap (λ (l : List ℕ). unwrap_or (last l) m.draw.at) (polls_same history e g m refl))
    (state_same history e g m (record { no_cancelling = refl; no_continuing = refl; no_rejecting = refl; no_accepting = refl }))
    (fresh_token history t act g word refl)
    (ap (λ (l : List Draw). last l) (reference_same history e g refl))

pub grants_rotated : (history : List Entry) (t g : ℕ) (word : List ℕ) → grants (behind history t (acts.TokenRotated g word)) ≡ with_item (rotated_with (next_draw history t word)) (grants history) g
grants_rotated history t g word = grants_act history t (acts.TokenRotated g word) g (rotated_with (next_draw history t word)) refl (λ j. refl) (λ m h. rotated_itself history t g word m)

placed_before : (k n : ℕ) → k < 1 + n → nat_lt k (1 + n) ≡ true
placed_before k n h = grind (arith, nat_tests)

revokes : (history : List Entry) (t g : ℕ) (m : GrantMade) (access : Option Draw) → nth (grants_made history) g ≡ Some m → last (access_draws history g m) ≡ access
    → option_map_or (is_revoked (behind history t (acts.TokenRevoked g)) g) access false ≡ is_some (option_map access_text access)
revokes history t g m None there is = refl
revokes history t g m (Some draw) there is =
    revoked-next history (record { at = t; act = acts.TokenRevoked g }) g draw
    ∙ ap (λ b. is_revoked history g draw || (nat_lt draw.place (1 + length history) && b)) (itself g)
    ∙ ap (λ b. is_revoked history g draw || (b && true)) (placed_before draw.place (length history) (access_placed history g m draw there is))
    ∙ or_true (is_revoked history g draw)

-- a token that is there is revoked
abbrev pub revoked_row : GrantRow → GrantRow
revoked_row row = record row { revoked = is_some row.access }

revoked_itself : (history : List Entry) (t g : ℕ) (m : GrantMade) → nth (grants_made history) g ≡ Some m → grant_so_far (behind history t (acts.TokenRevoked g)) (g, m) ≡ revoked_row (grant_so_far history (g, m))
unfolding row_of
revoked_itself history t g m there =
    let act = acts.TokenRevoked g in
    let e : Entry = record { at = t; act = act } in
    row_parts history e g m (last (access_draws history g m)) (unwrap_or (last (continuation_draws history g m)) m.draw) (unwrap_or (last (polls history g m)) m.draw.at) (grant_state history g m) (is_some (grant_so_far history (g, m)).access) (last (draws (reference_word g) history))
    (ap (λ (l : List Draw). last l) (access-next history e g m ∙ append-nil (access_draws history g m)))
    (ap (λ (l : List Draw). unwrap_or (last l) m.draw) (continuation-next history e g m ∙ append-nil (continuation_draws history g m)))
    (ap (λ (l : List ℕ). unwrap_or (last l) m.draw.at) (polls_same history e g m refl))
    (state_same history e g m (record { no_cancelling = refl; no_continuing = refl; no_rejecting = refl; no_accepting = refl }))
    (revokes history t g m (last (access_draws history g m)) there refl)
    (ap (λ (l : List Draw). last l) (reference_same history e g refl))

pub grants_revoked : (history : List Entry) (t g : ℕ) → grants (behind history t (acts.TokenRevoked g)) ≡ with_item revoked_row (grants history) g
grants_revoked history t g = grants_act history t (acts.TokenRevoked g) g revoked_row refl (λ j. refl) (λ m h. revoked_itself history t g m h)

-- ---- asking

rows_same : (history : List Entry) (t : ℕ) (act : Act) → ((g : ℕ) → changes_grant g act ≡ false) → map (grant_so_far (behind history t act)) (numbered (grants_made history)) ≡ grants history
rows_same history t act none =
    map-same (grant_so_far (behind history t act)) (grant_so_far history) (numbered (grants_made history)) (λ (g, m). grant_stays history (record { at = t; act = act }) g m (apart_act t act g (none g)))

-- a grant that no entry names

abbrev wide : ℕ → Entry → Bool
wide g e = changes_grant g e.act

no_draws : (history : List Entry) (g : ℕ) (word : Act → Option (List ℕ)) → ((t : ℕ) (act : Act) → changes_grant g act ≡ false → word act ≡ None) → has_act (changes_grant g) history ≡ false → draws word history ≡ []
no_draws history g word none h =
    none_numbered (λ ((place, f) : ℕ × Entry). option_map (draw_at place f.at) (word f.act)) (wide g) 1 history (λ k f e. ap (option_map (draw_at k f.at)) (none f.at f.act e)) h

no_polls : (history : List Entry) (g : ℕ) → has_act (changes_grant g) history ≡ false → filter_map (λ (e : Entry). cond (is_polling g e.act) (Some e.at) None) history ≡ []
no_polls history g h =
    none_taken (λ (e : Entry). cond (is_polling g e.act) (Some e.at) None) (wide g) history (λ f e. ap (λ b. cond b (Some f.at) None) (apart_act f.at f.act g e).no_poll) h

first_access : (draw : Draw) (b : Bool) (xs : List Draw) → xs ≡ [] → last ((cond b (draw ∷ []) []) ++ xs) ≡ cond b (Some draw) None
first_access draw true xs h = ap (λ (l : List Draw). last (draw ∷ l)) h
first_access draw false xs h = ap (λ (l : List Draw). last l) h

first_state : (a b c d i : Bool) → a ≡ false → b ≡ false → c ≡ false → d ≡ false → state_by a i b c d ≡ cond i states.Issued states.Pending
unfolding state_by
first_state a b c d true p q r s = ap (λ x. cond x states.Cancelled states.Issued) p
first_state a b c d false p q r s = rw (p, q, r, s) refl

not_gone : (history : List Entry) (g t : ℕ) (word : List ℕ) (b : Bool) → option_map_or (is_revoked history g) (cond b (Some (next_draw history t word)) None) false ≡ false
not_gone history g t word true = not_revoked history g t word
not_gone history g t word false = refl

-- the row of a grant that was asked for: it is issued at once where no item waits for the provider
abbrev pub asked_with : Draw → List ℕ → List Item → Option Finish → GrantRow
asked_with draw client items finish =
    record {
      client = client;
      items = items;
      finish = finish;
      asked = draw.at;
      last = draw.at;
      issued = cond (is_immediate items) (Some draw.at) None;
      state = cond (is_immediate items) states.Issued states.Pending;
      access = cond (is_immediate items) (Some (access_text draw)) None;
      revoked = false;
      continuation = continuation_text draw;
      nonce = nonce_text draw;
      reference = None;
    }

fresh_where : (made : GrantMade) (b : Bool) → row_of made (cond b (Some made.draw) None) made.draw made.draw.at (cond b states.Issued states.Pending) false None
    ≡ (let row : GrantRow = record {
      client = made.client;
      items = made.items;
      finish = made.finish;
      asked = made.draw.at;
      last = made.draw.at;
      issued = cond b (Some made.draw.at) None;
      state = cond b states.Issued states.Pending;
      access = cond b (Some (access_text made.draw)) None;
      revoked = false;
      continuation = continuation_text made.draw;
      nonce = nonce_text made.draw;
      reference = None;
    } in row)
unfolding row_of
fresh_where made true = refl
fresh_where made false = refl

fresh_is : (history : List Entry) (g t : ℕ) (word client : List ℕ) (items : List Item) (finish : Option Finish) → has_act (changes_grant g) history ≡ false
    → (let made : GrantMade = record { draw = next_draw history t word; client = client; items = items; finish = finish } in grant_so_far history (g, made)) ≡ asked_with (next_draw history t word) client items finish
fresh_is history g t word client items finish h =
    let made : GrantMade = record { draw = next_draw history t word; client = client; items = items; finish = finish } in
    let i = is_immediate items in
    let accesses = no_draws history g (access_word g) (λ u act e. (apart_act u act g e).leaves.no_access) h in
    let continuations = no_draws history g (continuation_word g) (λ u act e. (apart_act u act g e).leaves.no_continuation) h in
    let references = no_draws history g (reference_word g) (λ u act e. (apart_act u act g e).no_reference) h in
    let access : last (access_draws history g made) ≡ cond i (Some made.draw) None = first_access made.draw i (draws (access_word g) history) accesses in
    row_is history g made
    ∙ same_row made (last (access_draws history g made)) (cond i (Some made.draw) None) (unwrap_or (last (continuation_draws history g made)) made.draw) made.draw
    (unwrap_or (last (polls history g made)) made.draw.at) made.draw.at (grant_state history g made) (cond i states.Issued states.Pending)
    (option_map_or (is_revoked history g) (last (access_draws history g made)) false) false (last (draws (reference_word g) history)) None
    access
    (ap (λ (l : List Draw). unwrap_or (last (made.draw ∷ l)) made.draw) continuations)
    (ap (λ (l : List ℕ). unwrap_or (last (made.draw.at ∷ l)) made.draw.at) (no_polls history g h))
    (state_was history g made
    ∙ first_state (has_act (is_cancelling g) history) (has_act (is_continuing g) history) (has_act (is_rejecting g) history) (has_act (is_accepting g) history) i
    (any_narrow (λ (e : Entry). is_cancelling g e.act) (wide g) history (λ f e. (apart_act f.at f.act g e).stands.no_cancelling) h)
    (any_narrow (λ (e : Entry). is_continuing g e.act) (wide g) history (λ f e. (apart_act f.at f.act g e).stands.no_continuing) h)
    (any_narrow (λ (e : Entry). is_rejecting g e.act) (wide g) history (λ f e. (apart_act f.at f.act g e).stands.no_rejecting) h)
    (any_narrow (λ (e : Entry). is_accepting g e.act) (wide g) history (λ f e. (apart_act f.at f.act g e).stands.no_accepting) h))
    (ap (λ (o : Option Draw). option_map_or (is_revoked history g) o false) access ∙ not_gone history g t word i)
    (ap (λ (l : List Draw). last l) references)
    ∙ fresh_where made i

-- where no entry names the number that a new grant gets
pub grants_asked : (history : List Entry) (t : ℕ) (client : List ℕ) (items : List Item) (finish : Option Finish) (word : List ℕ) → has_act (changes_grant (1 + length (grants_made history))) history ≡ false
    → grants (behind history t (acts.GrantAsked client items finish word)) ≡ grants history ++ asked_with (next_draw history t word) client items finish ∷ []
grants_asked history t client items finish word unnamed =
    let act = acts.GrantAsked client items finish word in
    let e : Entry = record { at = t; act = act } in
    let made : GrantMade = record { draw = next_draw history t word; client = client; items = items; finish = finish } in
    let n = 1 + length (grants_made history) in
    ap (λ (xs : List GrantMade). map (grant_so_far (history ++ e ∷ [])) (numbered xs)) (grants_made-next history e)
    ∙ ap (map (grant_so_far (history ++ e ∷ []))) (numbered-next (grants_made history) made)
    ∙ map-append (grant_so_far (history ++ e ∷ [])) (numbered (grants_made history)) ((n, made) ∷ [])
    ∙ ap (λ (l : List GrantRow). l ++ grant_so_far (history ++ e ∷ []) (n, made) ∷ []) (rows_same history t act (λ g. refl))
    ∙ ap (λ (r : GrantRow). grants history ++ r ∷ []) (grant_stays history e n made (apart_act t act n refl) ∙ fresh_is history n t word client items finish unnamed)
