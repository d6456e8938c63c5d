-- Grants behind one more entry: one that it does not name stays.
use Rattle.std.proofs.Common.{◌≡◌, ℕ, ◌+◌, Bool, true, false, cond, ◌&&◌, ◌||◌, List, [], ◌∷◌, ◌++◌, length, refl, ◌∙◌, sym, ap, subst, arith, Some, None, Option, append-nil, map}
use Rattle.std.specs.Prelude.{◌==◌, nat_lt, unwrap_or}
use Rattle.std.specs.Option.{option_map, option_map_or, option_to_list}
use Rattle.std.proofs.lemmas.Bool.Decides.{nat_tests}
use Rattle.op_model.specs.History.{nth, numbered, last, with_item}
use Rattle.op_model.specs.Grants.{Draw, GrantMade, grants_made, grant_asked, grants, grant_row, grant_so_far, grant_state, draws, draw_at, access_draws, continuation_draws, access_word, continuation_word, reference_word, access_text, continuation_text, nonce_text, reference_text, polls, has_act, is_immediate, is_accepting, is_rejecting, is_continuing, is_cancelling, is_polling, is_revoking, is_revoked}
use Rattle.op_model.specs.declared.act.Act.{Act}
use Rattle.op_model.specs.declared.act.Act.TheVariants as acts
use Rattle.op_model.specs.declared.act.Entry.{Entry}
use Rattle.op_model.specs.declared.row.GrantRow.{GrantRow}
use Rattle.op_model.specs.declared.row.GrantState.{GrantState}
use Rattle.op_model.specs.declared.row.GrantState.TheVariants as states
use Rattle.op_model.proofs.Next.{grants_made-next, draws-next}
use Rattle.op_model.proofs.Numbered.{nth-numbered, rows-at, map-same, swapped, itself}
use Rattle.op_model.proofs.GrantParts.{access-next, continuation-next, act-next, revoked-next, polls-next, drawn_by}

-- an act changes the row of grant g: all behind its asking do
abbrev pub changes_grant : ℕ → Act → Bool
changes_grant g (acts.GrantAccepted grant word) = grant == g
changes_grant g (acts.GrantRejected grant word) = grant == g
changes_grant g (acts.GrantPolled grant) = grant == g
changes_grant g (acts.GrantContinued grant word) = grant == g
changes_grant g (acts.GrantCancelled grant) = grant == g
changes_grant g (acts.TokenRotated grant word) = grant == g
changes_grant g (acts.TokenRevoked grant) = grant == g
changes_grant g _ = false

-- ---- a row of its parts

unfoldable pub row_of : GrantMade → Option Draw → Draw → ℕ → GrantState → Bool → Option Draw → GrantRow
row_of made access continuation moment state revoked reference = record {
  client = made.client;
  items = made.items;
  finish = made.finish;
  asked = made.draw.at;
  last = moment;
  issued = option_map (λ draw. draw.at) access;
  state = state;
  access = option_map access_text access;
  revoked = revoked;
  continuation = continuation_text continuation;
  nonce = nonce_text made.draw;
  reference = option_map reference_text reference;
}

pub row_is : (history : List Entry) (g : ℕ) (made : GrantMade) → grant_so_far history (g, made)
    ≡ row_of made (last (access_draws history g made)) (unwrap_or (last (continuation_draws history g made)) made.draw) (unwrap_or (last (polls history g made)) made.draw.at) (grant_state history g made)
    (option_map_or (is_revoked history g) (last (access_draws history g made)) false) (last (draws (reference_word g) history))
unfolding row_of
row_is history g made = refl

pub same_row : (made : GrantMade) (a a' : Option Draw) (c c' : Draw) (m m' : ℕ) (s s' : GrantState) (r r' : Bool) (f f' : Option Draw) → a ≡ a' → c ≡ c' → m ≡ m' → s ≡ s' → r ≡ r' → f ≡ f' → row_of made a c m s r f ≡ row_of made a' c' m' s' r' f'
same_row made a a' c c' m m' s s' r r' f f' ea ec em es er ef = cc

-- ---- what an entry leaves

pub or_false : (b : Bool) → (b || false) ≡ b
or_false true = refl
or_false false = refl

pub and_false : (b : Bool) → (b && false) ≡ false
and_false true = refl
and_false false = refl

pub no_draw : (word : Act → Option (List ℕ)) (history : List Entry) (e : Entry) (xs ys : List Draw) → ys ≡ xs ++ drawn_by word history e → word e.act ≡ None → ys ≡ xs
no_draw word history e xs ys more none = more ∙ ap (λ (o : Option (List ℕ)). xs ++ option_to_list (option_map (draw_at (1 + length history) e.at) o)) none ∙ append-nil xs

-- the entry says nothing of grant g but perhaps its state, its polls and its reference
pub record LeavesTokens (e : Entry) (g : ℕ) : Type 0 where
  pub no_access : access_word g e.act ≡ None
  pub no_continuation : continuation_word g e.act ≡ None
  pub no_revoking : is_revoking g e.act ≡ false

pub access_same : (history : List Entry) (e : Entry) (g : ℕ) (made : GrantMade) → LeavesTokens e g → access_draws (history ++ e ∷ []) g made ≡ access_draws history g made
access_same history e g made leaves = no_draw (access_word g) history e (access_draws history g made) (access_draws (history ++ e ∷ []) g made) (access-next history e g made) leaves.no_access

pub continuation_same : (history : List Entry) (e : Entry) (g : ℕ) (made : GrantMade) → LeavesTokens e g → continuation_draws (history ++ e ∷ []) g made ≡ continuation_draws history g made
continuation_same history e g made leaves = no_draw (continuation_word g) history e (continuation_draws history g made) (continuation_draws (history ++ e ∷ []) g made) (continuation-next history e g made) leaves.no_continuation

pub revoked_where : (history : List Entry) (e : Entry) (g : ℕ) (access : Option Draw) → LeavesTokens e g → option_map_or (is_revoked (history ++ e ∷ []) g) access false ≡ option_map_or (is_revoked history g) access false
revoked_where history e g None leaves = refl
revoked_where history e g (Some draw) leaves =
    revoked-next history e g draw
    ∙ ap (λ b. is_revoked history g draw || (nat_lt draw.place (1 + length history) && b)) leaves.no_revoking
    ∙ ap (λ b. is_revoked history g draw || b) (and_false (nat_lt draw.place (1 + length history)))
    ∙ or_false (is_revoked history g draw)

-- a row behind an entry that leaves the tokens
pub row_next : (history : List Entry) (e : Entry) (g : ℕ) (made : GrantMade) (moment : ℕ) (state : GrantState) (reference : Option Draw) → LeavesTokens e g → unwrap_or (last (polls (history ++ e ∷ []) g made)) made.draw.at ≡ moment → grant_state (history ++ e ∷ []) g made ≡ state → last (draws (reference_word g) (history ++ e ∷ [])) ≡ reference
    → grant_so_far (history ++ e ∷ []) (g, made)
    ≡ row_of made (last (access_draws history g made)) (unwrap_or (last (continuation_draws history g made)) made.draw) moment state (option_map_or (is_revoked history g) (last (access_draws history g made)) false) reference
row_next history e g made moment state reference leaves polled stands referred =
    let access = ap (λ (l : List Draw). last l) (access_same history e g made leaves) in
    row_is (history ++ e ∷ []) g made
    ∙ same_row made (last (access_draws (history ++ e ∷ []) g made)) (last (access_draws history g made)) (unwrap_or (last (continuation_draws (history ++ e ∷ []) g made)) made.draw) (unwrap_or (last (continuation_draws history g made)) made.draw)
    (unwrap_or (last (polls (history ++ e ∷ []) g made)) made.draw.at) moment (grant_state (history ++ e ∷ []) g made) state
    (option_map_or (is_revoked (history ++ e ∷ []) g) (last (access_draws (history ++ e ∷ []) g made)) false) (option_map_or (is_revoked history g) (last (access_draws history g made)) false)
    (last (draws (reference_word g) (history ++ e ∷ []))) reference
    access (ap (λ (l : List Draw). unwrap_or (last l) made.draw) (continuation_same history e g made leaves)) polled stands
    (revoked_where history e g (last (access_draws (history ++ e ∷ []) g made)) leaves ∙ ap (λ (o : Option Draw). option_map_or (is_revoked history g) o false) access) referred

pub polls_same : (history : List Entry) (e : Entry) (g : ℕ) (made : GrantMade) → is_polling g e.act ≡ false → polls (history ++ e ∷ []) g made ≡ polls history g made
polls_same history e g made none = polls-next history e g made ∙ ap (λ b. polls history g made ++ option_to_list (cond b (Some e.at) None)) none ∙ append-nil (polls history g made)

pub reference_same : (history : List Entry) (e : Entry) (g : ℕ) → reference_word g e.act ≡ None → draws (reference_word g) (history ++ e ∷ []) ≡ draws (reference_word g) history
reference_same history e g none = no_draw (reference_word g) history e (draws (reference_word g) history) (draws (reference_word g) (history ++ e ∷ [])) (draws-next (reference_word g) history e) none

unfoldable pub state_by : Bool → Bool → Bool → Bool → Bool → GrantState
state_by cancelled immediate continued rejected accepted = cond cancelled states.Cancelled (cond (immediate || continued) states.Issued (cond rejected states.Rejected (cond accepted states.Accepted states.Pending)))

pub state_next : (history : List Entry) (e : Entry) (g : ℕ) (made : GrantMade) → grant_state (history ++ e ∷ []) g made
    ≡ state_by (has_act (is_cancelling g) history || is_cancelling g e.act) (is_immediate made.items) (has_act (is_continuing g) history || is_continuing g e.act) (has_act (is_rejecting g) history || is_rejecting g e.act) (has_act (is_accepting g) history || is_accepting g e.act)
unfolding state_by
state_next history e g made = simp (act-next (is_cancelling g) history e, act-next (is_continuing g) history e, act-next (is_rejecting g) history e, act-next (is_accepting g) history e) refl

pub state_was : (history : List Entry) (g : ℕ) (made : GrantMade) → grant_state history g made
    ≡ state_by (has_act (is_cancelling g) history) (is_immediate made.items) (has_act (is_continuing g) history) (has_act (is_rejecting g) history) (has_act (is_accepting g) history)
unfolding state_by
state_was history g made = refl

-- ---- a grant that the entry does not name

pub record LeavesState (e : Entry) (g : ℕ) : Type 0 where
  pub no_cancelling : is_cancelling g e.act ≡ false
  pub no_continuing : is_continuing g e.act ≡ false
  pub no_rejecting : is_rejecting g e.act ≡ false
  pub no_accepting : is_accepting g e.act ≡ false

pub record IsApart (e : Entry) (g : ℕ) : Type 0 where
  pub leaves : LeavesTokens e g
  pub stands : LeavesState e g
  pub no_reference : reference_word g e.act ≡ None
  pub no_poll : is_polling g e.act ≡ false

pub same_state : (a a' b b' c c' d d' i : Bool) → a ≡ a' → b ≡ b' → c ≡ c' → d ≡ d' → state_by a i b c d ≡ state_by a' i b' c' d'
same_state a a' b b' c c' d d' i p q r s = cc

pub state_same : (history : List Entry) (e : Entry) (g : ℕ) (made : GrantMade) → LeavesState e g → grant_state (history ++ e ∷ []) g made ≡ grant_state history g made
state_same history e g made apart =
    let a = ap (λ b. has_act (is_cancelling g) history || b) apart.no_cancelling ∙ or_false (has_act (is_cancelling g) history) in
    let b = ap (λ b. has_act (is_continuing g) history || b) apart.no_continuing ∙ or_false (has_act (is_continuing g) history) in
    let c = ap (λ b. has_act (is_rejecting g) history || b) apart.no_rejecting ∙ or_false (has_act (is_rejecting g) history) in
    let d = ap (λ b. has_act (is_accepting g) history || b) apart.no_accepting ∙ or_false (has_act (is_accepting g) history) in
    state_next history e g made ∙ same_state _ _ _ _ _ _ _ _ (is_immediate made.items) a b c d ∙ sym (state_was history g made)

pub grant_stays : (history : List Entry) (e : Entry) (g : ℕ) (made : GrantMade) → IsApart e g → grant_so_far (history ++ e ∷ []) (g, made) ≡ grant_so_far history (g, made)
grant_stays history e g made apart =
    row_next history e g made (unwrap_or (last (polls history g made)) made.draw.at) (grant_state history g made) (last (draws (reference_word g) history)) apart.leaves
    (ap (λ (l : List ℕ). unwrap_or (last l) made.draw.at) (polls_same history e g made apart.no_poll))
    (state_same history e g made apart.stands)
    (ap (λ (l : List Draw). last l) (reference_same history e g apart.no_reference))
    ∙ sym (row_is history g made)

-- ---- an act that does not name the grant

pub apart_act : (t : ℕ) (act : Act) (g : ℕ) → changes_grant g act ≡ false → IsApart (record { at = t; act = act }) g
apart_act t (acts.GrantAccepted grant word) g h = record {
  leaves = record { no_access = refl; no_continuation = refl; no_revoking = refl };
  stands = record { no_cancelling = refl; no_continuing = refl; no_rejecting = refl; no_accepting = h };
  no_reference = ap (λ b. cond b (Some word) None) h;
  no_poll = refl;
}
apart_act t (acts.GrantRejected grant word) g h = record {
  leaves = record { no_access = refl; no_continuation = refl; no_revoking = refl };
  stands = record { no_cancelling = refl; no_continuing = refl; no_rejecting = h; no_accepting = refl };
  no_reference = ap (λ b. cond b (Some word) None) h;
  no_poll = refl;
}
apart_act t (acts.GrantPolled grant) g h = record {
  leaves = record { no_access = refl; no_continuation = refl; no_revoking = refl };
  stands = record { no_cancelling = refl; no_continuing = refl; no_rejecting = refl; no_accepting = refl };
  no_reference = refl;
  no_poll = h;
}
apart_act t (acts.GrantContinued grant word) g h = record {
  leaves = record { no_access = ap (λ b. cond b (Some word) None) h; no_continuation = ap (λ b. cond b (Some word) None) h; no_revoking = refl };
  stands = record { no_cancelling = refl; no_continuing = h; no_rejecting = refl; no_accepting = refl };
  no_reference = refl;
  no_poll = refl;
}
apart_act t (acts.GrantCancelled grant) g h = record {
  leaves = record { no_access = refl; no_continuation = refl; no_revoking = refl };
  stands = record { no_cancelling = h; no_continuing = refl; no_rejecting = refl; no_accepting = refl };
  no_reference = refl;
  no_poll = refl;
}
apart_act t (acts.TokenRotated grant word) g h = record {
  leaves = record { no_access = ap (λ b. cond b (Some word) None) h; no_continuation = refl; no_revoking = refl };
  stands = record { no_cancelling = refl; no_continuing = refl; no_rejecting = refl; no_accepting = refl };
  no_reference = refl;
  no_poll = refl;
}
apart_act t (acts.TokenRevoked grant) g h = record {
  leaves = record { no_access = refl; no_continuation = refl; no_revoking = h };
  stands = record { no_cancelling = refl; no_continuing = refl; no_rejecting = refl; no_accepting = refl };
  no_reference = refl;
  no_poll = refl;
}
apart_act t _ g h = record {
  leaves = record { no_access = refl; no_continuation = refl; no_revoking = refl };
  stands = record { no_cancelling = refl; no_continuing = refl; no_rejecting = refl; no_accepting = refl };
  no_reference = refl;
  no_poll = refl;
}

-- ---- all grants behind an entry that names one

-- the row of a grant that was made
pub row_at : (history : List Entry) (g : ℕ) (m : GrantMade) → nth (grants_made history) g ≡ Some m → grant_row history g ≡ Some (grant_so_far history (g, m))
row_at history g m h = nth-numbered (grant_so_far history) (grants_made history) g ∙ ap (option_map (λ (x : GrantMade). grant_so_far history (g, x))) h

pub row_by : (history : List Entry) (e : Entry) (g k : ℕ) (m : GrantMade) (change : GrantRow → GrantRow) (b : Bool) → (k == g) ≡ b → nth (grants_made history) k ≡ Some m → ((j : ℕ) → (j == g) ≡ false → IsApart e j)
    → ((x : GrantMade) → nth (grants_made history) g ≡ Some x → grant_so_far (history ++ e ∷ []) (g, x) ≡ change (grant_so_far history (g, x)))
    → grant_so_far (history ++ e ∷ []) (k, m) ≡ cond b (change (grant_so_far history (k, m))) (grant_so_far history (k, m))
row_by history e g k m change true is there others itself =
    let same : g ≡ k = grind (arith, nat_tests) in
    subst (λ (j : ℕ). nth (grants_made history) j ≡ Some m → grant_so_far (history ++ e ∷ []) (j, m) ≡ change (grant_so_far history (j, m))) same (itself m) there
row_by history e g k m change false is there others itself = grant_stays history e k m (others k is)

pub grants_made_stay : (history : List Entry) (e : Entry) → grant_asked (1 + length history) e.at e.act ≡ None → grants_made (history ++ e ∷ []) ≡ grants_made history
grants_made_stay history e none =
    grants_made-next history e ∙ ap (λ (o : Option GrantMade). grants_made history ++ option_to_list o) none ∙ append-nil (grants_made history)

pub grants_step : (history : List Entry) (e : Entry) (g : ℕ) (change : GrantRow → GrantRow) → grant_asked (1 + length history) e.at e.act ≡ None → ((j : ℕ) → (j == g) ≡ false → IsApart e j)
    → ((m : GrantMade) → nth (grants_made history) g ≡ Some m → grant_so_far (history ++ e ∷ []) (g, m) ≡ change (grant_so_far history (g, m)))
    → grants (history ++ e ∷ []) ≡ with_item change (grants history) g
grants_step history e g change none others itself =
    ap (λ (xs : List GrantMade). map (grant_so_far (history ++ e ∷ [])) (numbered xs)) (grants_made_stay history e none)
    ∙ rows-at (grant_so_far (history ++ e ∷ [])) (grant_so_far history) change g (grants_made history) (λ k m h. row_by history e g k m change (k == g) refl h others itself)

-- an act that names grant g alone
pub grants_act : (history : List Entry) (t : ℕ) (act : Act) (g : ℕ) (change : GrantRow → GrantRow) → grant_asked (1 + length history) t act ≡ None → ((j : ℕ) → changes_grant j act ≡ (g == j))
    → ((m : GrantMade) → nth (grants_made history) g ≡ Some m → grant_so_far (history ++ record { at = t; act = act } ∷ []) (g, m) ≡ change (grant_so_far history (g, m)))
    → grants (history ++ record { at = t; act = act } ∷ []) ≡ with_item change (grants history) g
grants_act history t act g change none names own =
    grants_step history (record { at = t; act = act }) g change none (λ j h. apart_act t act j (names j ∙ swapped j g h)) own

-- an entry that asks for no grant and changes none
pub grants_stay : (history : List Entry) (e : Entry) → grant_asked (1 + length history) e.at e.act ≡ None → ((g : ℕ) → changes_grant g e.act ≡ false) → grants (history ++ e ∷ []) ≡ grants history
grants_stay history e none each =
    ap (λ (xs : List GrantMade). map (grant_so_far (history ++ e ∷ [])) (numbered xs)) (grants_made_stay history e none)
    ∙ map-same (grant_so_far (history ++ e ∷ [])) (grant_so_far history) (numbered (grants_made history)) (λ (g, m). grant_stays history e g m (apart_act e.at e.act g (each g)))
