-- Tokens that ended are gone.
use Rattle.std.proofs.Common.{◌≡◌, ◌≢◌, ℕ, suc, ◌+◌, ◌^◌, ◌<◌, Bool, true, false, cond, List, [], ◌∷◌, ◌++◌, length, map, get_or, refl, sym, ap, subst, ◌∙◌, arith, add-zero, IsTrue, Ok, Err, ⊎_elim, ◌⊎◌, inl, inr}
use Rattle.std.specs.Prelude.{Some, None, All, ◌||◌, ◌==◌, slice_get}
use Rattle.std.specs.List.{position_from}
use Rattle.std.specs.Option.{option_map, option_map_or}
use Rattle.std.specs.declared.option.Option.{Option}
use Rattle.std.specs.declared.result.Result.{Result}
use Rattle.std.proofs.lemmas.Option.{slice_get-get_or}
use Rattle.op_names.specs.Secrets.{secret_text, IsDrawn}
use Rattle.op_names.specs.declared.Letter.{Letter}
use Rattle.op_names.specs.declared.Letter.TheVariants.{Access, Continuation, Interaction}
use Rattle.op_names.proofs.Choices.{same_bytes}
use Rattle.op_model.specs.History.{nth, with_item, changed_at, number_of}
use Rattle.op_model.specs.Grants.{is_immediate, current_token, live_token, is_cancelled, is_secret}
use Rattle.op_model.specs.GrantAnswers.{is_pending}
use Rattle.op_model.specs.declared.row.GrantRow.{GrantRow}
use Rattle.op_model.specs.declared.row.GrantState.{GrantState}
use Rattle.op_model.specs.declared.row.GrantState.TheVariants as states
use Rattle.op_grant.specs.Value.{GrantsValue, no_grants, has_row, cap_in, spent_in}
use Rattle.op_grant.specs.Places.{secrets_of, IsDrawnBefore, IsNewPlace}
use Rattle.op_grant.specs.Rows.{at_row, asked_row, decide_answer, decided, proceeded_row, cancelled, rotated, revoked, grant_of_live}
use Rattle.op_grant.specs.declared.fault.GrantFault.{GrantFault}
use Rattle.op_grant.specs.declared.fault.GrantFault.TheVariants as faults
use Rattle.op_grant.specs.declared.fault.Proceeded.{Proceeded}
use Rattle.op_grant.specs.declared.fault.Proceeded.TheVariants as answers
use Rattle.op_grant.specs.Runs.{Drawing, IsDrawing, Call, CanCall, AreCalls, after_call, after_calls, Ends}
use Rattle.op_grant.specs.Runs.Call.{Requested, Decided, Continued, Cancelled, Rotated, Revoked, Reserved, Spent, GivenBack}
use Rattle.op_grant.proofs.Finding.{current_access, live_current, live_is, is_live, false_where}
use Rattle.op_grant.proofs.Indexing.{number_cases, access_before}
use Rattle.op_grant.proofs.Numbered.{nth-with_item, nth-changed, nth-other, nth-last, nth_either, nth-map, of_map, number_of_none, number_of_only}
use Rattle.op_grant.proofs.SecretLaw.{HaveSecrets, not_drawn, new_at, reference_before, continuation_before, secrets_calls, no_secrets}
use Rattle.op_grant.proofs.SpendingLaw.{there_of, rows_stay}

some_is : {X : Type 0} (x y : X) → Some x ≡ Some y → x ≡ y
some_is x y h = cc

-- a text that is no grant's current token, and will not be drawn again
pub record IsGone (text : List ℕ) (rows : List GrantRow) : Type 0 where
  pub never : (n : ℕ) (row : GrantRow) → nth rows n ≡ Some row → current_token row ≡ Some text → ⊥
  pub passed : (place : ℕ) → IsNewPlace place rows → IsDrawnBefore place text

-- ---- new places

pub new_from : (place : ℕ) (rows : List GrantRow) → ((n : ℕ) (row : GrantRow) → nth rows n ≡ Some row → All (IsDrawnBefore place) (secrets_of row)) → IsNewPlace place rows
new_from place rows each k d h = each (suc k) (get_or rows k d) (slice_get-get_or rows k d h)

kept_step : (f : GrantRow → GrantRow) (b : Bool) (place : ℕ) (row : GrantRow) → secrets_of (f row) ≡ secrets_of row → All (IsDrawnBefore place) (secrets_of (cond b (f row) row)) → All (IsDrawnBefore place) (secrets_of row)
kept_step f true place row same all = subst (All (IsDrawnBefore place)) same all
kept_step f false place row same all = all

-- a place that is new behind a change without a draw was new before
new_before : (f : GrantRow → GrantRow) (rows : List GrantRow) (m place : ℕ) → ((r : GrantRow) → secrets_of (f r) ≡ secrets_of r) → IsNewPlace place (with_item f rows m) → IsNewPlace place rows
new_before f rows m place same new =
    new_from place rows (λ n row there.
    kept_step f (n == m) place row (same row)
    (new_at place (with_item f rows m) n (changed_at f m (n, row)) new (nth-with_item f rows m n ∙ ap (option_map (λ x. changed_at f m (n, x))) there)))

-- a place that is new behind a draw lies behind the draw
drawn_place : (letter : Letter) (drawing : Drawing) (place : ℕ) → IsDrawn drawing.word → drawing.place < 2 ^ 64 → IsDrawnBefore place (secret_text letter drawing.word drawing.place) → drawing.place < place
drawn_place letter drawing place word small before = before letter drawing.word drawing.place word small refl

later : (place next : ℕ) (text : List ℕ) → IsDrawnBefore place text → place < next → IsDrawnBefore next text
later place next text before le letter word drawn d s is = let below = before letter word drawn d s is in omega (arith, below, le)

-- ---- current tokens behind a change

-- the changed row, or another that is as it was
row_cases : (f : GrantRow → GrantRow) (rows : List GrantRow) (m n : ℕ) (row : GrantRow) → nth (with_item f rows m) n ≡ Some row
    → ((old : GrantRow) × (nth rows m ≡ Some old) × (f old ≡ row) × (n ≡ m)) ⊎ ((nth rows n ≡ Some row) × (n ≢ m))
row_cases f rows m n row h =
    ⊎_elim
    (λ same.
    let here = ap (nth (with_item f rows m)) (sym same) ∙ h in
    let old = of_map (λ x. changed_at f m (m, x)) (nth rows m) row (sym (nth-with_item f rows m m) ∙ here) in
    let is : f old.0 ≡ row = some_is (f old.0) row (sym (nth-changed f rows m old.0 old.1) ∙ here) in
    inl (old.0, old.1, is, same))
    (λ apart. inr (sym (nth-other f rows m n apart) ∙ h, apart)) (number_cases n m)

never_changed : (text : List ℕ) (f : GrantRow → GrantRow) (rows : List GrantRow) (m : ℕ) → ((n : ℕ) (row : GrantRow) → nth rows n ≡ Some row → current_token row ≡ Some text → ⊥)
    → ((old : GrantRow) → nth rows m ≡ Some old → current_token (f old) ≡ Some text → ⊥)
    → (n : ℕ) (row : GrantRow) → nth (with_item f rows m) n ≡ Some row → current_token row ≡ Some text → ⊥
never_changed text f rows m never new n row there current =
    ⊎_elim (λ c. new c.0 c.1 (ap current_token c.2 ∙ current)) (λ o. never n row o.0 current) (row_cases f rows m n row there)

-- a token that was just drawn is another
drawn_other : (row : GrantRow) (text : List ℕ) (drawing : Drawing) → row.access ≡ Some (secret_text Access drawing.word drawing.place) → IsDrawn drawing.word → drawing.place < 2 ^ 64 → IsDrawnBefore drawing.place text → current_token row ≡ Some text → ⊥
drawn_other row text drawing access word small before current =
    not_drawn drawing.place Access drawing.word text word small before
    (some_is (secret_text Access drawing.word drawing.place) text (sym access ∙ current_access row text current))

answer_at : {X : Type 0} (value : GrantsValue) (n : ℕ) (row : GrantRow) (answer : GrantRow → Result X GrantFault) (x : X) → nth value.rows n ≡ Some row → at_row answer value n ≡ Ok x → answer row ≡ Ok x
answer_at value n row answer x there is = sym (ap (λ o. option_map_or answer o (Err faults.Memory)) there) ∙ is

abbrev Decision : Type 0
Decision = Result (Unit {0}) GrantFault

pending_of : (b : Bool) (refused taken : Decision) → refused ≡ Err faults.NotPending → taken ≡ Ok tt → cond b taken refused ≡ taken → b ≡ true
pending_of true refused taken e f h = refl
pending_of false refused taken e f h = absurd (let end : refused ≡ Ok tt = h ∙ f in let g = sym e ∙ end in cc g)

pending_stays : (state : GrantState) → is_pending state ≡ true → is_cancelled state ≡ false
pending_stays states.Pending h = refl
pending_stays states.Accepted h = refl
pending_stays states.Rejected h = refl
pending_stays states.Issued h = refl
pending_stays states.Cancelled h = absurd (let e : false ≡ true = h in cc)

decided_state : (accept : Bool) → is_cancelled (cond accept states.Accepted states.Rejected) ≡ false
decided_state true = refl
decided_state false = refl

decided_current : (accept : Bool) (word : List ℕ) (place : ℕ) (row : GrantRow) → is_pending row.state ≡ true → current_token (decided accept word place row) ≡ current_token row
decided_current accept word place row pending =
    ap (λ b. cond (row.revoked || b) None row.access) (decided_state accept ∙ sym (pending_stays row.state pending))

or_true : (b : Bool) → (b || true) ≡ true
or_true true = refl
or_true false = refl

cancelled_current : (row : GrantRow) (text : List ℕ) → current_token (cancelled row) ≡ Some text → ⊥
cancelled_current row text h =
    absurd (let e : None ≡ Some text = sym (ap (λ b. cond b None row.access) (or_true row.revoked)) ∙ h in cc)

revoked_current : (row : GrantRow) (text : List ℕ) → current_token (revoked row) ≡ Some text → ⊥
revoked_current row text h = absurd (let e : None ≡ Some text = h in cc)

maybe_is : (b : Bool) (s text : List ℕ) → cond b (Some s) None ≡ Some text → s ≡ text
maybe_is true s text h = some_is s text h
maybe_is false s text h = absurd (let e : None ≡ Some text = h in cc)

-- ---- one call

gone_kept : (text : List ℕ) (f : GrantRow → GrantRow) (rows : List GrantRow) (m : ℕ) → ((r : GrantRow) → secrets_of (f r) ≡ secrets_of r)
    → ((old : GrantRow) → nth rows m ≡ Some old → current_token (f old) ≡ Some text → ⊥) → IsGone text rows → IsGone text (with_item f rows m)
gone_kept text f rows m same new h = record {
  never = never_changed text f rows m h.never new;
  passed = λ place p. h.passed place (new_before f rows m place same p);
}

-- a draw, of which the secret is one that the row has then
gone_drawn : (text : List ℕ) (f : GrantRow → GrantRow) (value : GrantsValue) (m : ℕ) (drawing : Drawing) (letter : Letter) → IsTrue (has_row value m) → IsDrawing value drawing
    → ((r : GrantRow) (place : ℕ) → All (IsDrawnBefore place) (secrets_of (f r)) → IsDrawnBefore place (secret_text letter drawing.word drawing.place))
    → ((old : GrantRow) → nth value.rows m ≡ Some old → current_token (f old) ≡ Some text → ⊥) → IsGone text value.rows → IsGone text (with_item f value.rows m)
gone_drawn text f value m drawing letter there drawn member new h =
    let old = there_of (nth value.rows m) there in
    record {
      never = never_changed text f value.rows m h.never new;
      passed = λ place p.
          let has = new_at place (with_item f value.rows m) m (f old.0) p (nth-changed f value.rows m old.0 old.1) in
          later drawing.place place text (h.passed drawing.place drawn.new) (drawn_place letter drawing place drawn.word drawn.small (member old.0 place has));
    }

proceeded_gone : (answer : Proceeded) (text : List ℕ) (value : GrantsValue) (m t : ℕ) (drawing : Drawing) → IsTrue (has_row value m) → IsDrawing value drawing → IsGone text value.rows → IsGone text (with_item (proceeded_row t drawing.word drawing.place answer) value.rows m)
proceeded_gone answers.Polled text value m t drawing there drawn h =
    gone_kept text (λ row. record row { last = t }) value.rows m (λ r. refl) (λ old o current. h.never m old o current) h
proceeded_gone answers.Issued text value m t drawing there drawn h =
    let f = proceeded_row t drawing.word drawing.place answers.Issued in
    gone_drawn text f value m drawing Continuation there drawn (λ r place all. continuation_before place (f r) all)
    (λ old o current. drawn_other (f old) text drawing refl drawn.word drawn.small (h.passed drawing.place drawn.new) current) h

pub gone_call : (text : List ℕ) (value : GrantsValue) (call : Call) → CanCall value call → IsGone text value.rows → IsGone text (after_call value call).rows
gone_call text value (Requested t drawing asked) can h =
    let row = asked_row t drawing.word drawing.place asked in
    let d = can.0 in
    let before = h.passed drawing.place d.new in
    record {
      never = λ n other there current.
          nth_either (λ k r. current_token r ≡ Some text → ⊥) value.rows row other n (λ k o c. h.never k other o c)
          (λ c. not_drawn drawing.place Access drawing.word text d.word d.small before (maybe_is (is_immediate asked.items) (secret_text Access drawing.word drawing.place) text (current_access row text c))) there current;
      passed = λ place p.
          let has = new_at place (value.rows ++ row ∷ []) (length value.rows + 1) row p (nth-last value.rows row (length value.rows + 1) refl) in
          later drawing.place place text before (drawn_place Continuation drawing place d.word d.small (continuation_before place row has));
    }
gone_call text value (Decided m accept drawing) can h =
    let f = decided accept drawing.word drawing.place in
    gone_drawn text f value m drawing Interaction can.0 can.1 (λ r place all. reference_before place (f r) (secret_text Interaction drawing.word drawing.place) all refl)
    (λ old o current. h.never m old o (sym (decided_current accept drawing.word drawing.place old (pending_of (is_pending old.state) (Err faults.NotPending) (Ok tt) refl refl (answer_at value m old decide_answer tt o can.2))) ∙ current)) h
gone_call text value (Continued m t token reference drawing answer) can h = proceeded_gone answer text value m t drawing can.0 can.1 h
gone_call text value (Cancelled m token) can h =
    gone_kept text cancelled value.rows m (λ r. refl) (λ old o current. cancelled_current old text current) h
gone_call text value (Rotated m t token drawing) can h =
    let f = rotated t drawing.word drawing.place in
    gone_drawn text f value m drawing Access can.0 can.1 (λ r place all. access_before place (f r) (secret_text Access drawing.word drawing.place) all refl)
    (λ old o current. drawn_other (f old) text drawing refl can.1.word can.1.small (h.passed drawing.place can.1.new) current) h
gone_call text value (Revoked m token) can h =
    gone_kept text revoked value.rows m (λ r. refl) (λ old o current. revoked_current old text current) h
gone_call text value (Reserved n j) can h = h
gone_call text value (Spent n j v) can h = subst (IsGone text) (sym (rows_stay (cap_in value n) value n j (spent_in value n j + v))) h
gone_call text value (GivenBack n j v) can h = h

pub gone_calls : (text : List ℕ) (value : GrantsValue) (calls : List Call) → AreCalls value calls → IsGone text value.rows → IsGone text (after_calls value calls).rows
gone_calls text value [] can h = h
gone_calls text value (call ∷ calls) can h = gone_calls text (after_call value call) calls can.1 (gone_call text value call can.0 h)

-- ---- the call that ends a token

-- the row of the token alone has it
only_row : (text : List ℕ) (rows : List GrantRow) (n k : ℕ) (row other : GrantRow) → HaveSecrets rows → nth rows n ≡ Some row → current_token row ≡ Some text → nth rows k ≡ Some other → current_token other ≡ Some text → k ≡ n
only_row text rows n k row other h there current o c =
    let access : (i : ℕ) (r : GrantRow) → nth rows i ≡ Some r → current_token r ≡ Some text → nth (map (λ x. x.access) rows) i ≡ Some (Some text) = λ i r e t.
    nth-map (λ x. x.access) rows i ∙ ap (option_map (λ x. x.access)) e ∙ ap (λ a. Some a) (current_access r text t) in
    h.access.one k n text (access k other o c) (access n row there current)

-- its access token lies before each new place
text_before : (text : List ℕ) (rows : List GrantRow) (n place : ℕ) (row : GrantRow) → nth rows n ≡ Some row → current_token row ≡ Some text → IsNewPlace place rows → IsDrawnBefore place text
text_before text rows n place row there current new =
    access_before place row text (new_at place rows n row new there) (current_access row text current)

ended_never : (text : List ℕ) (f : GrantRow → GrantRow) (rows : List GrantRow) (m n : ℕ) (row : GrantRow) → HaveSecrets rows → nth rows n ≡ Some row → current_token row ≡ Some text → m ≡ n
    → ((old : GrantRow) → current_token (f old) ≡ Some text → ⊥)
    → (k : ℕ) (other : GrantRow) → nth (with_item f rows m) k ≡ Some other → current_token other ≡ Some text → ⊥
ended_never text f rows m n row h there current same new k other o c =
    ⊎_elim (λ x. new x.0 (ap current_token x.2 ∙ c)) (λ y. y.1 (only_row text rows n k row other h there current y.0 c ∙ sym same)) (row_cases f rows m k other o)

pub ended : (text : List ℕ) (value : GrantsValue) (call : Call) (n : ℕ) (row : GrantRow) → HaveSecrets value.rows → CanCall value call → nth value.rows n ≡ Some row → current_token row ≡ Some text → Ends n call
    → IsGone text (after_call value call).rows
ended text value (Requested t drawing asked) n row h can there current ends = absurd ends
ended text value (Decided m accept drawing) n row h can there current ends = absurd ends
ended text value (Continued m t token reference drawing answer) n row h can there current ends = absurd ends
ended text value (Cancelled m token) n row h can there current ends = record {
  never = ended_never text cancelled value.rows m n row h there current ends (λ old c. cancelled_current old text c);
  passed = λ place p. text_before text value.rows n place row there current (new_before cancelled value.rows m place (λ r. refl) p);
}
ended text value (Rotated m t token drawing) n row h can there current ends =
    let f = rotated t drawing.word drawing.place in
    let before = text_before text value.rows n drawing.place row there current can.1.new in
    let old = there_of (nth value.rows m) can.0 in
    record {
      never = ended_never text f value.rows m n row h there current ends (λ o c. drawn_other (f o) text drawing refl can.1.word can.1.small before c);
      passed = λ place p.
          let has = new_at place (with_item f value.rows m) m (f old.0) p (nth-changed f value.rows m old.0 old.1) in
          later drawing.place place text before (drawn_place Access drawing place can.1.word can.1.small (access_before place (f old.0) (secret_text Access drawing.word drawing.place) has refl));
    }
ended text value (Revoked m token) n row h can there current ends = record {
  never = ended_never text revoked value.rows m n row h there current ends (λ old c. revoked_current old text c);
  passed = λ place p. text_before text value.rows n place row there current (new_before revoked value.rows m place (λ r. refl) p);
}
ended text value (Reserved m j) n row h can there current ends = absurd ends
ended text value (Spent m j v) n row h can there current ends = absurd ends
ended text value (GivenBack m j v) n row h can there current ends = absurd ends

-- ---- lists of calls

front_calls : (value : GrantsValue) (before behind : List Call) → AreCalls value (before ++ behind) → AreCalls value before × AreCalls (after_calls value before) behind
front_calls value [] behind can = (tt, can)
front_calls value (call ∷ before) behind can =
    let rest = front_calls (after_call value call) before behind can.1 in
    ((can.0, rest.0), rest.1)

calls_joined : (value : GrantsValue) (before behind : List Call) → after_calls value (before ++ behind) ≡ after_calls (after_calls value before) behind
calls_joined value [] behind = refl
calls_joined value (call ∷ before) behind = calls_joined (after_call value call) before behind

pub gone_nowhere : (text : List ℕ) (value : GrantsValue) (t : ℕ) → IsGone text value.rows → grant_of_live value t text ≡ None
gone_nowhere text value t h =
    number_of_none (is_live t text) value.rows (λ n row there. false_where (is_live t text row) (λ live. h.never n row there (live_current t row text (live_is t row text live))))

pub ended_is_gone : (before behind : List Call) (call : Call) (n t : ℕ) (row : GrantRow) (token : List ℕ) → AreCalls no_grants (before ++ call ∷ behind)
    → nth (after_calls no_grants before).rows n ≡ Some row → current_token row ≡ Some token → Ends n call
    → grant_of_live (after_calls no_grants (before ++ call ∷ behind)) t token ≡ None
ended_is_gone before behind call n t row token can there current ends =
    let parts = front_calls no_grants before (call ∷ behind) can in
    let value = after_calls no_grants before in
    let secrets = secrets_calls no_grants before parts.0 no_secrets in
    let gone = gone_calls token (after_call value call) behind parts.1.1 (ended token value call n row secrets parts.1.0 there current ends) in
    ap (λ v. grant_of_live v t token) (calls_joined no_grants before (call ∷ behind)) ∙ gone_nowhere token (after_calls (after_call value call) behind) t gone

-- ---- one live token

-- an item that passes, where its number was found
abbrev Passing : (GrantRow → Bool) → ℕ → List GrantRow → ℕ → Type 0
Passing test b xs n = (k : ℕ) × (x : GrantRow) × (slice_get xs k ≡ Some x) × (test x ≡ true) × (b + k ≡ n)

first_step : (c : Bool) (test : GrantRow → Bool) (b n : ℕ) (x : GrantRow) (xs : List GrantRow) → test x ≡ c → (position_from test (b + 1) xs ≡ Some n → Passing test (b + 1) xs n)
    → cond c (Some b) (position_from test (b + 1) xs) ≡ Some n → Passing test b (x ∷ xs) n
first_step true test b n x xs e rest h = (0, x, refl, e, add-zero b ∙ some_is b n h)
first_step false test b n x xs e rest h = let r = rest h in (suc r.0, r.1, r.2, r.3, omega (arith, r.4))

passing_from : (test : GrantRow → Bool) (b n : ℕ) (xs : List GrantRow) → position_from test b xs ≡ Some n → Passing test b xs n
passing_from test b n [] h = absurd (let e : None ≡ Some n = h in cc)
passing_from test b n (x ∷ xs) h = first_step (test x) test b n x xs refl (passing_from test (b + 1) n xs) h

pub number_found : (test : GrantRow → Bool) (xs : List GrantRow) (n : ℕ) → number_of test xs ≡ Some n → (x : GrantRow) × (nth xs n ≡ Some x) × (test x ≡ true)
number_found test xs n h =
    let r = passing_from test 1 n xs h in
    let number : suc r.0 ≡ n = omega (arith, r.4) in
    (r.1, ap (nth xs) (sym number) ∙ r.2, r.3)

pub one_live : (value : GrantsValue) (t n : ℕ) (token other : List ℕ) → grant_of_live value t token ≡ Some n → grant_of_live value t other ≡ Some n → token ≡ other
one_live value t n token other h g =
    let a = number_found (is_live t token) value.rows n h in
    let b = number_found (is_live t other) value.rows n g in
    let same : a.0 ≡ b.0 = some_is a.0 b.0 (sym a.1 ∙ b.1) in
    some_is token other (sym (live_is t a.0 token a.2) ∙ ap (live_token t) same ∙ live_is t b.0 other b.2)

-- ---- a live token is found

secret_itself : (o : Option (List ℕ)) (text : List ℕ) → o ≡ Some text → is_secret o text ≡ true
secret_itself o text is = ap (λ p. is_secret p text) is ∙ same_bytes text text refl

pub live_found : (calls : List Call) (n t : ℕ) (row : GrantRow) (token : List ℕ) → AreCalls no_grants calls → nth (after_calls no_grants calls).rows n ≡ Some row
    → live_token t row ≡ Some token → grant_of_live (after_calls no_grants calls) t token ≡ Some n
live_found calls n t row token can there live =
    let rows = (after_calls no_grants calls).rows in
    let secrets = secrets_calls no_grants calls can no_secrets in
    number_of_only (is_live t token) rows n row there (secret_itself (live_token t row) token live)
    (λ k other o l. only_row token rows n k row other secrets there (live_current t row token live) o (live_current t other token (live_is t other token l)))
