-- The secrets of grants, behind a list of calls.
use Rattle.std.proofs.Common.{◌≡◌, ◌≢◌, ℕ, zero, suc, ◌+◌, ◌^◌, ◌<◌, Bool, true, false, cond, List, [], ◌∷◌, ◌++◌, length, map, refl, sym, ap, subst, ◌∙◌, arith, IsTrue, ⊎_elim, ◌⊎◌, inl, inr}
use Rattle.std.specs.Prelude.{Some, None, All, is_some}
use Rattle.std.specs.Option.{option_map, option_to_list}
use Rattle.std.specs.declared.option.Option.{Option}
use Rattle.std.proofs.lemmas.List.{map-append}
use Rattle.op_names.specs.Secrets.{secret_text, IsDrawn}
use Rattle.op_names.specs.declared.Letter.{Letter}
use Rattle.op_names.specs.declared.Letter.TheVariants.{Access, Continuation, Nonce, Interaction}
use Rattle.op_model.specs.History.{nth, with_item}
use Rattle.op_model.specs.Grants.{is_immediate}
use Rattle.op_model.specs.declared.row.GrantRow.{GrantRow}
use Rattle.op_grant.specs.Value.{GrantsValue, no_grants, has_row, cap_in, spent_in}
use Rattle.op_grant.specs.Places.{secrets_of, IsDrawnBefore, IsNewPlace}
use Rattle.op_grant.specs.Rows.{asked_row, decided, proceeded_row, cancelled, rotated, revoked}
use Rattle.op_grant.specs.declared.fault.Proceeded.{Proceeded}
use Rattle.op_grant.specs.declared.fault.Proceeded.TheVariants as answers
use Rattle.op_grant.specs.Runs.{Drawing, IsDrawing, Call, CanCall, AreCalls, after_call, after_calls, AreApart, HaveOwnSecrets}
use Rattle.op_grant.specs.Runs.Call.{Requested, Decided, Continued, Cancelled, Rotated, Revoked, Reserved, Spent, GivenBack}
use Rattle.op_grant.proofs.TokenLists.{all_at}
use Rattle.op_grant.proofs.Indexing.{Texts, with_text, number_cases, access_before, row_at}
use Rattle.op_grant.proofs.Numbered.{nth-changed, nth-other, map-with_item, map-unchanged, nth_either, nth-map, of_map}
use Rattle.op_grant.proofs.SpendingLaw.{there_of, rows_stay}

some_is : {X : Type 0} (x y : X) → Some x ≡ Some y → x ≡ y
some_is x y h = cc

-- ---- texts of one letter, each of one grant

pub record IsSecretOf (letter : Letter) (text : List ℕ) : Type 0 where
  pub word : List ℕ
  pub place : ℕ
  pub drawn : IsDrawn word
  pub small : place < 2 ^ 64
  pub is : text ≡ secret_text letter word place

pub record AreOwn (letter : Letter) (texts : Texts) : Type 0 where
  pub secret : (n : ℕ) (text : List ℕ) → nth texts n ≡ Some (Some text) → IsSecretOf letter text
  pub one : (m n : ℕ) (text : List ℕ) → nth texts m ≡ Some (Some text) → nth texts n ≡ Some (Some text) → m ≡ n

abbrev pub AreBefore : ℕ → Texts → Type 0
AreBefore place texts = (n : ℕ) (text : List ℕ) → nth texts n ≡ Some (Some text) → IsDrawnBefore place text

-- a text that was drawn before a place is not the one that is drawn there
pub not_drawn : (place : ℕ) (letter : Letter) (word text : List ℕ) → IsDrawn word → place < 2 ^ 64 → IsDrawnBefore place text → secret_text letter word place ≡ text → ⊥
not_drawn place letter word text drawn small before is = absurd (omega (arith, before letter word place drawn small (sym is)))

nothing_there : {X : Type 0} (n : ℕ) (x : X) → nth [] n ≡ Some x → ⊥
nothing_there zero x h = absurd (let e : None ≡ Some x = h in cc)
nothing_there (suc i) x h = absurd (let e : None ≡ Some x = h in cc)

own_nothing : (letter : Letter) → AreOwn letter []
own_nothing letter = record {
  secret = λ n text h. absurd (nothing_there n (Some text) h);
  one = λ m n text h k. absurd (nothing_there m (Some text) h);
}

-- the new text of grant n, or one of before
new_or_old : (texts : Texts) (n m : ℕ) (new text : List ℕ) (last : Option (List ℕ)) → nth texts n ≡ Some last → nth (with_text texts n new) m ≡ Some (Some text)
    → ((m ≡ n) × (new ≡ text)) ⊎ ((m ≢ n) × (nth texts m ≡ Some (Some text)))
new_or_old texts n m new text last there h =
    ⊎_elim
    (λ same. inl (same, some_is new text (some_is (Some new) (Some text) (sym (nth-changed (λ _. Some new) texts n last there) ∙ ap (nth (with_text texts n new)) (sym same) ∙ h))))
    (λ apart. inr (apart, sym (nth-other (λ _. Some new) texts n m apart) ∙ h))
    (number_cases m n)

own_drawn : (letter : Letter) (texts : Texts) (n place : ℕ) (word : List ℕ) (last : Option (List ℕ)) → AreOwn letter texts → nth texts n ≡ Some last → AreBefore place texts → IsDrawn word → place < 2 ^ 64
    → AreOwn letter (with_text texts n (secret_text letter word place))
own_drawn letter texts n place word last h there before drawn small =
    let new = secret_text letter word place in
    record {
      secret = λ m text e. ⊎_elim
          (λ s. subst (IsSecretOf letter) s.1 (record { word = word; place = place; drawn = drawn; small = small; is = refl }))
          (λ o. h.secret m text o.1) (new_or_old texts n m new text last there e);
      one = λ m k text e f. ⊎_elim
          (λ s. ⊎_elim (λ t. s.0 ∙ sym t.0) (λ o. absurd (not_drawn place letter word text drawn small (before k text o.1) s.1)) (new_or_old texts n k new text last there f))
          (λ o. ⊎_elim (λ t. absurd (not_drawn place letter word text drawn small (before m text o.1) t.1)) (λ p. h.one m k text o.1 p.1) (new_or_old texts n k new text last there f))
          (new_or_old texts n m new text last there e);
    }

-- the last text, or one of before
last_or_old : (texts : Texts) (o : Option (List ℕ)) (m : ℕ) (text : List ℕ) → nth (texts ++ o ∷ []) m ≡ Some (Some text)
    → ((m ≡ length texts + 1) × (o ≡ Some text)) ⊎ (nth texts m ≡ Some (Some text))
last_or_old texts o m text h =
    nth_either (λ k z. ((k ≡ length texts + 1) × (o ≡ z)) ⊎ (nth texts k ≡ Some z)) texts o (Some text) m (λ k e. inr e) (inl (refl, refl)) h

own_none : (letter : Letter) (texts : Texts) → AreOwn letter texts → AreOwn letter (texts ++ None ∷ [])
own_none letter texts h =
    let old : (m : ℕ) (text : List ℕ) → nth (texts ++ None ∷ []) m ≡ Some (Some text) → nth texts m ≡ Some (Some text) = λ m text e.
    ⊎_elim (λ s. absurd (let f : None ≡ Some text = s.1 in cc)) (λ k. k) (last_or_old texts None m text e) in
    record {
      secret = λ m text e. h.secret m text (old m text e);
      one = λ m n text e f. h.one m n text (old m text e) (old n text f);
    }

own_new : (letter : Letter) (texts : Texts) (place : ℕ) (word : List ℕ) → AreOwn letter texts → AreBefore place texts → IsDrawn word → place < 2 ^ 64
    → AreOwn letter (texts ++ Some (secret_text letter word place) ∷ [])
own_new letter texts place word h before drawn small =
    let new = secret_text letter word place in
    record {
      secret = λ m text e. ⊎_elim
          (λ s. subst (IsSecretOf letter) (some_is new text s.1) (record { word = word; place = place; drawn = drawn; small = small; is = refl }))
          (λ o. h.secret m text o) (last_or_old texts (Some new) m text e);
      one = λ m k text e f. ⊎_elim
          (λ s. ⊎_elim (λ t. s.0 ∙ sym t.0) (λ o. absurd (not_drawn place letter word text drawn small (before k text o) (some_is new text s.1))) (last_or_old texts (Some new) k text f))
          (λ o. ⊎_elim (λ t. absurd (not_drawn place letter word text drawn small (before m text o) (some_is new text t.1))) (λ p. h.one m k text o p) (last_or_old texts (Some new) k text f))
          (last_or_old texts (Some new) m text e);
    }

own_maybe : (b : Bool) (letter : Letter) (texts : Texts) (place : ℕ) (word : List ℕ) → AreOwn letter texts → AreBefore place texts → IsDrawn word → place < 2 ^ 64
    → AreOwn letter (texts ++ cond b (Some (secret_text letter word place)) None ∷ [])
own_maybe true letter texts place word h before drawn small = own_new letter texts place word h before drawn small
own_maybe false letter texts place word h before drawn small = own_none letter texts h

-- ---- rows

own_same : (letter : Letter) (secret : GrantRow → Option (List ℕ)) (f : GrantRow → GrantRow) (rows : List GrantRow) (n : ℕ) → ((r : GrantRow) → secret (f r) ≡ secret r) → AreOwn letter (map secret rows) → AreOwn letter (map secret (with_item f rows n))
own_same letter secret f rows n keeps h = subst (AreOwn letter) (sym (map-unchanged secret f rows n keeps)) h

own_change : (letter : Letter) (secret : GrantRow → Option (List ℕ)) (f : GrantRow → GrantRow) (rows : List GrantRow) (n : ℕ) (drawing : Drawing) → ((r : GrantRow) → secret (f r) ≡ Some (secret_text letter drawing.word drawing.place))
    → IsTrue (is_some (nth rows n)) → IsDrawn drawing.word → drawing.place < 2 ^ 64 → AreBefore drawing.place (map secret rows) → AreOwn letter (map secret rows) → AreOwn letter (map secret (with_item f rows n))
own_change letter secret f rows n drawing draws there word small before h =
    let row = there_of (nth rows n) there in
    subst (AreOwn letter) (sym (map-with_item secret f (λ _. Some (secret_text letter drawing.word drawing.place)) rows n draws))
    (own_drawn letter (map secret rows) n drawing.place drawing.word (secret row.0) h (nth-map secret rows n ∙ ap (option_map secret) row.1) before word small)

pub record HaveSecrets (rows : List GrantRow) : Type 0 where
  pub access : AreOwn Access (map (λ row. row.access) rows)
  pub continuation : AreOwn Continuation (map (λ row. Some row.continuation) rows)
  pub nonce : AreOwn Nonce (map (λ row. Some row.nonce) rows)
  pub reference : AreOwn Interaction (map (λ row. row.reference) rows)

-- ---- what lies before a new place

listed : (access reference : Option (List ℕ)) (continuation nonce text : List ℕ) (place : ℕ) → All (IsDrawnBefore place) (continuation ∷ nonce ∷ (option_to_list access ++ option_to_list reference)) → reference ≡ Some text → IsDrawnBefore place text
listed None None continuation nonce text place all is = absurd (let e : None ≡ Some text = is in cc)
listed None (Some r) continuation nonce text place all is =
    subst (IsDrawnBefore place) (some_is r text is) (all_at (IsDrawnBefore place) (continuation ∷ nonce ∷ r ∷ []) 2 r all refl)
listed (Some a) None continuation nonce text place all is = absurd (let e : None ≡ Some text = is in cc)
listed (Some a) (Some r) continuation nonce text place all is =
    subst (IsDrawnBefore place) (some_is r text is) (all_at (IsDrawnBefore place) (continuation ∷ nonce ∷ a ∷ r ∷ []) 3 r all refl)

pub reference_before : (place : ℕ) (row : GrantRow) (text : List ℕ) → All (IsDrawnBefore place) (secrets_of row) → row.reference ≡ Some text → IsDrawnBefore place text
reference_before place row text all is = listed row.access row.reference row.continuation row.nonce text place all is

pub continuation_before : (place : ℕ) (row : GrantRow) → All (IsDrawnBefore place) (secrets_of row) → IsDrawnBefore place row.continuation
continuation_before place row all = all_at (IsDrawnBefore place) (secrets_of row) 0 row.continuation all refl

pub nonce_before : (place : ℕ) (row : GrantRow) → All (IsDrawnBefore place) (secrets_of row) → IsDrawnBefore place row.nonce
nonce_before place row all = all_at (IsDrawnBefore place) (secrets_of row) 1 row.nonce all refl

pub new_at : (place : ℕ) (rows : List GrantRow) (n : ℕ) (row : GrantRow) → IsNewPlace place rows → nth rows n ≡ Some row → All (IsDrawnBefore place) (secrets_of row)
new_at place rows n row new there = row_at (λ r. All (IsDrawnBefore place) (secrets_of r)) rows n row new there

before_all : (secret : GrantRow → Option (List ℕ)) (place : ℕ) (rows : List GrantRow) → ((row : GrantRow) (text : List ℕ) → All (IsDrawnBefore place) (secrets_of row) → secret row ≡ Some text → IsDrawnBefore place text) → IsNewPlace place rows → AreBefore place (map secret rows)
before_all secret place rows each new n text h =
    let row = of_map secret (nth rows n) (Some text) (sym (nth-map secret rows n) ∙ h) in
    each row.0 text (new_at place rows n row.0 new row.1) row.2

before_access : (place : ℕ) (rows : List GrantRow) → IsNewPlace place rows → AreBefore place (map (λ row. row.access) rows)
before_access place rows new = before_all (λ row. row.access) place rows (access_before place) new

before_continuation : (place : ℕ) (rows : List GrantRow) → IsNewPlace place rows → AreBefore place (map (λ row. Some row.continuation) rows)
before_continuation place rows new =
    before_all (λ row. Some row.continuation) place rows (λ row text all is. subst (IsDrawnBefore place) (some_is row.continuation text is) (continuation_before place row all)) new

before_nonce : (place : ℕ) (rows : List GrantRow) → IsNewPlace place rows → AreBefore place (map (λ row. Some row.nonce) rows)
before_nonce place rows new =
    before_all (λ row. Some row.nonce) place rows (λ row text all is. subst (IsDrawnBefore place) (some_is row.nonce text is) (nonce_before place row all)) new

before_reference : (place : ℕ) (rows : List GrantRow) → IsNewPlace place rows → AreBefore place (map (λ row. row.reference) rows)
before_reference place rows new = before_all (λ row. row.reference) place rows (reference_before place) new

-- ---- one call

secrets_same : (f : GrantRow → GrantRow) (rows : List GrantRow) (n : ℕ) → ((r : GrantRow) → (f r).access ≡ r.access) → ((r : GrantRow) → (f r).continuation ≡ r.continuation) → ((r : GrantRow) → (f r).nonce ≡ r.nonce) → ((r : GrantRow) → (f r).reference ≡ r.reference)
    → HaveSecrets rows → HaveSecrets (with_item f rows n)
secrets_same f rows n access continuation nonce reference h = record {
  access = own_same Access (λ row. row.access) f rows n access h.access;
  continuation = own_same Continuation (λ row. Some row.continuation) f rows n (λ r. ap (λ s. Some s) (continuation r)) h.continuation;
  nonce = own_same Nonce (λ row. Some row.nonce) f rows n (λ r. ap (λ s. Some s) (nonce r)) h.nonce;
  reference = own_same Interaction (λ row. row.reference) f rows n reference h.reference;
}

proceeded_secrets : (answer : Proceeded) (t : ℕ) (drawing : Drawing) (value : GrantsValue) (n : ℕ) → IsTrue (has_row value n) → IsDrawing value drawing → HaveSecrets value.rows → HaveSecrets (with_item (proceeded_row t drawing.word drawing.place answer) value.rows n)
proceeded_secrets answers.Polled t drawing value n there drawn h = secrets_same (λ row. record row { last = t }) value.rows n (λ r. refl) (λ r. refl) (λ r. refl) (λ r. refl) h
proceeded_secrets answers.Issued t drawing value n there drawn h =
    let f = proceeded_row t drawing.word drawing.place answers.Issued in
    let rows = value.rows in
    record {
      access = own_change Access (λ row. row.access) f rows n drawing (λ r. refl) there drawn.word drawn.small (before_access drawing.place rows drawn.new) h.access;
      continuation = own_change Continuation (λ row. Some row.continuation) f rows n drawing (λ r. refl) there drawn.word drawn.small (before_continuation drawing.place rows drawn.new) h.continuation;
      nonce = own_same Nonce (λ row. Some row.nonce) f rows n (λ r. refl) h.nonce;
      reference = own_same Interaction (λ row. row.reference) f rows n (λ r. refl) h.reference;
    }

own_append : (letter : Letter) (secret : GrantRow → Option (List ℕ)) (rows : List GrantRow) (row : GrantRow) → AreOwn letter (map secret rows ++ secret row ∷ []) → AreOwn letter (map secret (rows ++ row ∷ []))
own_append letter secret rows row h = subst (AreOwn letter) (sym (map-append secret rows (row ∷ []))) h

pub secrets_call : (value : GrantsValue) (call : Call) → CanCall value call → HaveSecrets value.rows → HaveSecrets (after_call value call).rows
secrets_call value (Requested t drawing asked) can h =
    let row = asked_row t drawing.word drawing.place asked in
    let rows = value.rows in
    let d = can.0 in
    record {
      access = own_append Access (λ r. r.access) rows row (own_maybe (is_immediate asked.items) Access (map (λ r. r.access) rows) drawing.place drawing.word h.access (before_access drawing.place rows d.new) d.word d.small);
      continuation = own_append Continuation (λ r. Some r.continuation) rows row (own_new Continuation (map (λ r. Some r.continuation) rows) drawing.place drawing.word h.continuation (before_continuation drawing.place rows d.new) d.word d.small);
      nonce = own_append Nonce (λ r. Some r.nonce) rows row (own_new Nonce (map (λ r. Some r.nonce) rows) drawing.place drawing.word h.nonce (before_nonce drawing.place rows d.new) d.word d.small);
      reference = own_append Interaction (λ r. r.reference) rows row (own_none Interaction (map (λ r. r.reference) rows) h.reference);
    }
secrets_call value (Decided n accept drawing) can h =
    let f = decided accept drawing.word drawing.place in
    let rows = value.rows in
    let d = can.1 in
    record {
      access = own_same Access (λ row. row.access) f rows n (λ r. refl) h.access;
      continuation = own_same Continuation (λ row. Some row.continuation) f rows n (λ r. refl) h.continuation;
      nonce = own_same Nonce (λ row. Some row.nonce) f rows n (λ r. refl) h.nonce;
      reference = own_change Interaction (λ row. row.reference) f rows n drawing (λ r. refl) can.0 d.word d.small (before_reference drawing.place rows d.new) h.reference;
    }
secrets_call value (Continued n t token reference drawing answer) can h = proceeded_secrets answer t drawing value n can.0 can.1 h
secrets_call value (Cancelled n token) can h = secrets_same cancelled value.rows n (λ r. refl) (λ r. refl) (λ r. refl) (λ r. refl) h
secrets_call value (Rotated n t token drawing) can h =
    let f = rotated t drawing.word drawing.place in
    let rows = value.rows in
    let d = can.1 in
    record {
      access = own_change Access (λ row. row.access) f rows n drawing (λ r. refl) can.0 d.word d.small (before_access drawing.place rows d.new) h.access;
      continuation = own_same Continuation (λ row. Some row.continuation) f rows n (λ r. refl) h.continuation;
      nonce = own_same Nonce (λ row. Some row.nonce) f rows n (λ r. refl) h.nonce;
      reference = own_same Interaction (λ row. row.reference) f rows n (λ r. refl) h.reference;
    }
secrets_call value (Revoked n token) can h = secrets_same revoked value.rows n (λ r. refl) (λ r. refl) (λ r. refl) (λ r. refl) h
secrets_call value (Reserved n j) can h = h
secrets_call value (Spent n j v) can h = subst HaveSecrets (sym (rows_stay (cap_in value n) value n j (spent_in value n j + v))) h
secrets_call value (GivenBack n j v) can h = h

-- ---- a list of calls

pub secrets_calls : (value : GrantsValue) (calls : List Call) → AreCalls value calls → HaveSecrets value.rows → HaveSecrets (after_calls value calls).rows
secrets_calls value [] can h = h
secrets_calls value (call ∷ calls) can h = secrets_calls (after_call value call) calls can.1 (secrets_call value call can.0 h)

pub no_secrets : HaveSecrets no_grants.rows
no_secrets = record { access = own_nothing Access; continuation = own_nothing Continuation; nonce = own_nothing Nonce; reference = own_nothing Interaction }

apart_of : (letter : Letter) (secret : GrantRow → Option (List ℕ)) (rows : List GrantRow) → AreOwn letter (map secret rows) → AreApart secret rows
apart_of letter secret rows h m n a b text x y p q =
    h.one m n text (nth-map secret rows m ∙ ap (option_map secret) x ∙ ap (λ o. Some o) p) (nth-map secret rows n ∙ ap (option_map secret) y ∙ ap (λ o. Some o) q)

pub own_secrets : (rows : List GrantRow) → HaveSecrets rows → HaveOwnSecrets rows
own_secrets rows h = record {
  access = apart_of Access (λ row. row.access) rows h.access;
  continuation = apart_of Continuation (λ row. Some row.continuation) rows h.continuation;
  nonce = apart_of Nonce (λ row. Some row.nonce) rows h.nonce;
  reference = apart_of Interaction (λ row. row.reference) rows h.reference;
}
