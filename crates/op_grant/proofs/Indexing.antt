-- What calls leave of the index of access tokens.
use Rattle.std.proofs.Common.{◌≡◌, ◌≢◌, ℕ, zero, suc, ◌+◌, ◌<◌, ◌≤◌, Bool, true, false, cond, List, [], ◌∷◌, ◌++◌, length, get_or, refl, sym, ap, subst, ◌∙◌, arith, length-append, IsTrue, ⊎_elim, ◌⊎◌, inl, inr}
use Rattle.std.specs.Prelude.{Some, None, ◌==◌, not, ◌&&◌, slice_get, All, MatchOption}
use Rattle.std.specs.List.{list_all}
use Rattle.std.specs.Option.{option_map, is_some, option_to_list}
use Rattle.std.specs.declared.option.Option.{Option}
use Rattle.std.proofs.lemmas.Bool.Decides.{nat_tests}
use Rattle.std.proofs.lemmas.List.Elements.{All-append, All-filter, filter_passes}
use Rattle.std.proofs.lemmas.List.{length-map, map-append}
use Rattle.std.proofs.lemmas.List.Sums.{count_by-le-length, sum_by-append}
use Rattle.op_names.specs.declared.Letter.TheVariants.{Access}
use Rattle.op_names.proofs.SecretTexts.{same_place}
use Rattle.op_model.specs.History.{nth, with_item}
use Rattle.op_model.specs.declared.row.GrantRow.{GrantRow}
use Rattle.op_grant.specs.declared.tokens.Token.{Token}
use Rattle.op_grant.specs.Tokens.{TokensValue, grant_at, left}
use Rattle.op_grant.specs.Limits.{are_readable}
use Rattle.op_grant.specs.Places.{secrets_of, IsDrawnBefore, IsNewPlace}
use Rattle.op_grant.specs.Indexed.{accesses, asked_items, IsDrawnAt, IsFound, IsHeld, AreIndexed, IsKept}
use Rattle.op_grant.proofs.TokenLists.{within_of_get, all_at, grant_at-append, grant_at-last, grant_at-left, fewer_without}
use Rattle.op_grant.proofs.Numbered.{nth-changed, nth-other, map-with_item, map-unchanged, length-with_item, sum_by-with_item, nth-append, nth-last, nth_either, nth-map, of_map}

some_is : {X : Type 0} (x y : X) → Some x ≡ Some y → x ≡ y
some_is x y h = cc

-- one place is drawn once
pub one_place : (p q : ℕ) (text : List ℕ) → IsDrawnAt p text → IsDrawnAt q text → p ≡ q
one_place p q text a b = same_place text Access Access a.word b.word p q a.drawn b.drawn a.small b.small a.is b.is

pub number_cases : (m n : ℕ) → (m ≡ n) ⊎ (m ≢ n)
number_cases zero zero = inl refl
number_cases zero (suc n) = inr (λ e. absurd (omega (arith, e)))
number_cases (suc m) zero = inr (λ e. absurd (omega (arith, e)))
number_cases (suc m) (suc n) = ⊎_elim (λ e. inl (ap suc e)) (λ d. inr (λ e. d (omega (arith, e)))) (number_cases m n)

abbrev pub Texts : Type 0
Texts = List (Option (List ℕ))

-- ---- a token in the stead of its grant's last one

-- the texts with that of grant n
abbrev pub with_text : Texts → ℕ → List ℕ → Texts
with_text texts n text = with_item (λ _. Some text) texts n

held_other : (texts : Texts) (n : ℕ) (text : List ℕ) (t : Token) → t.grant ≢ n → IsHeld texts t → IsHeld (with_text texts n text) t
held_other texts n text t apart h =
    record { text = h.text; there = nth-other (λ _. Some text) texts n t.grant apart ∙ h.there; drawn = h.drawn }

held_new : (texts : Texts) (n place : ℕ) (text : List ℕ) (last : Option (List ℕ)) → nth texts n ≡ Some last → IsDrawnAt place text → IsHeld (with_text texts n text) (record { place = place; grant = n })
held_new texts n place text last h drawn =
    record { text = text; there = nth-changed (λ _. Some text) texts n last h; drawn = drawn }

none_some : (texts : Texts) (n : ℕ) (s : List ℕ) → nth texts n ≡ Some None → nth texts n ≡ Some (Some s) → ⊥
none_some texts n s h e =
    let same : None ≡ Some s = some_is None (Some s) (sym h ∙ e) in
    cc

-- all that is so of each item
all_items : {X : Type 0} (P Q : X → Type 0) (xs : List X) → ((x : X) → P x → Q x) → All P xs → All Q xs
all_items P Q xs each all k d h = each (get_or xs k d) (all k d h)

all_both : {X : Type 0} (P Q R : X → Type 0) (xs : List X) → ((x : X) → P x → Q x → R x) → All P xs → All Q xs → All R xs
all_both P Q R xs each p q k d h = each (get_or xs k d) (p k d h) (q k d h)

one_item : {X : Type 0} (P : X → Type 0) (x : X) → P x → All P (x ∷ [])
one_item P x h zero d within = h
one_item P x h (suc k) d within = absurd (omega (arith, within))

abbrev token : ℕ → ℕ → Token
token place n = record { place = place; grant = n }

-- what is found of the new texts, where all others are found as before
found_step : (texts : Texts) (tokens : List Token) (n place m : ℕ) (text s : List ℕ) (last : Option (List ℕ)) → nth texts n ≡ Some last → IsDrawnAt place text
    → grant_at tokens place ≡ Some n
    → (m ≢ n → nth texts m ≡ Some (Some s) → IsFound tokens m s)
    → (m ≡ n) ⊎ (m ≢ n) → nth (with_text texts n text) m ≡ Some (Some s) → IsFound tokens m s
found_step texts tokens n place m text s last there drawn at others (inl same) h =
    let here : nth (with_text texts n text) m ≡ Some (Some text) = ap (nth (with_text texts n text)) same ∙ nth-changed (λ _. Some text) texts n last there in
    let is : text ≡ s = some_is text s (some_is (Some text) (Some s) (sym here ∙ h)) in
    record { place = place; drawn = subst (IsDrawnAt place) is drawn; at = at ∙ ap (λ k. Some k) (sym same) }
found_step texts tokens n place m text s last there drawn at others (inr apart) h =
    others apart (sym (nth-other (λ _. Some text) texts n m apart) ∙ h)

abbrev weight : Option (List ℕ) → ℕ
weight o = cond (is_some o) 1 0

-- a grant that had no token
issued_first : (old new : TokensValue) (texts : Texts) (n place : ℕ) (text : List ℕ) → AreIndexed old texts → nth texts n ≡ Some None → IsDrawnAt place text
    → All (λ t. t.place < place) old.tokens → new.tokens ≡ old.tokens ++ token place n ∷ [] → new.room + length new.tokens ≡ old.room + length old.tokens
    → AreIndexed new (with_text texts n text)
issued_first old new texts n place text h there drawn behind is room =
    let count = sum_by-with_item weight (λ _. Some text) texts n None there in
    let longer = length-append old.tokens (token place n ∷ []) in
    let size = ap length is in
    let last = grant_at-last old.tokens (token place n) behind in
    record {
      found = λ m s e. subst (λ ts. IsFound ts m s) (sym is)
          (found_step texts (old.tokens ++ token place n ∷ []) n place m text s None there drawn last
          (λ apart g. let f = h.found m s g in record { place = f.place; drawn = f.drawn; at = grant_at-append old.tokens (token place n) f.place m f.at })
          (number_cases m n) e);
      held = subst (All (IsHeld (with_text texts n text))) (sym is)
          (All-append (IsHeld (with_text texts n text)) old.tokens (token place n ∷ [])
          (all_items (IsHeld texts) (IsHeld (with_text texts n text)) old.tokens
          (λ t k. held_other texts n text t (λ e. none_some texts n k.text there (ap (nth texts) (sym e) ∙ k.there)) k) h.held)
          (one_item (IsHeld (with_text texts n text)) (token place n) (held_new texts n place text None there drawn)));
      few = omega (arith, count, longer, size, h.few);
      room = omega (arith, length-with_item (λ _. Some text) texts n, room, h.room);
    }

place_apart : (t : Token) (place : ℕ) → not (t.place == place) ≡ true → t.place ≢ place
place_apart t place h e = absurd (let same : (t.place == place) ≡ true = grind (arith, nat_tests) in let f : not true ≡ true = ap not (sym same) ∙ h in let g : false ≡ true = f in cc)

-- a grant that had one
issued_again : (old new : TokensValue) (texts : Texts) (n place : ℕ) (text past : List ℕ) (f : IsFound old.tokens n past) → AreIndexed old texts → nth texts n ≡ Some (Some past) → IsDrawnAt place text
    → All (λ t. t.place < place) old.tokens → new.tokens ≡ left f.place old.tokens ++ token place n ∷ [] → new.room + length new.tokens ≡ old.room + length old.tokens
    → AreIndexed new (with_text texts n text)
issued_again old new texts n place text past f h there drawn behind is room =
    let count = sum_by-with_item weight (λ _. Some text) texts n (Some past) there in
    let kept = left f.place old.tokens in
    let longer = length-append kept (token place n ∷ []) in
    let size = ap length is in
    let fewer = fewer_without f.place n old.tokens f.at in
    let last = grant_at-last kept (token place n) (All-filter (λ t. not (t.place == f.place)) (λ t. t.place < place) old.tokens behind) in
    record {
      found = λ m s e. subst (λ ts. IsFound ts m s) (sym is)
          (found_step texts (kept ++ token place n ∷ []) n place m text s (Some past) there drawn last
          (λ apart g. let k = h.found m s g in
          let elsewhere : k.place ≢ f.place = λ q. apart (some_is m n (sym k.at ∙ ap (grant_at old.tokens) q ∙ f.at)) in
          record { place = k.place; drawn = k.drawn; at = grant_at-append kept (token place n) k.place m (grant_at-left f.place k.place old.tokens elsewhere ∙ k.at) })
          (number_cases m n) e);
      held = subst (All (IsHeld (with_text texts n text))) (sym is)
          (All-append (IsHeld (with_text texts n text)) kept (token place n ∷ [])
          (all_both (λ t. not (t.place == f.place) ≡ true) (IsHeld texts) (IsHeld (with_text texts n text)) kept
          (λ t passes k. held_other texts n text t
          (λ e. place_apart t f.place passes (one_place t.place f.place k.text k.drawn (subst (IsDrawnAt f.place) (some_is past k.text (some_is (Some past) (Some k.text) (sym there ∙ ap (nth texts) (sym e) ∙ k.there))) f.drawn))) k)
          (filter_passes (λ t. not (t.place == f.place)) old.tokens) (All-filter (λ t. not (t.place == f.place)) (IsHeld texts) old.tokens h.held))
          (one_item (IsHeld (with_text texts n text)) (token place n) (held_new texts n place text (Some past) there drawn)));
      few = omega (arith, count, longer, size, fewer, h.few);
      room = omega (arith, length-with_item (λ _. Some text) texts n, room, h.room);
    }

-- what the index is told of a new token
abbrev pub Replaces : TokensValue → TokensValue → Option (List ℕ) → Token → Type 0
Replaces old new last t =
    MatchOption last (new.tokens ≡ old.tokens ++ t ∷ []) (λ text. (place : ℕ) → IsDrawnAt place text → new.tokens ≡ left place old.tokens ++ t ∷ [])

abbrev pub TakesAway : TokensValue → TokensValue → Option (List ℕ) → Type 0
TakesAway old new last =
    MatchOption last (new.tokens ≡ old.tokens) (λ text. (place : ℕ) → IsDrawnAt place text → new.tokens ≡ left place old.tokens)

-- behind a token that is taken away there is room
pub room_left : (old new : TokensValue) (last : Option (List ℕ)) (n : ℕ) → MatchOption last (0 < old.room) (IsFound old.tokens n) → TakesAway old new last → new.room + length new.tokens ≡ old.room + length old.tokens → 0 < new.room
room_left old new None n h takes room = omega (arith, h, room, ap length takes)
room_left old new (Some text) n h takes room =
    omega (arith, room, ap length (takes h.place h.drawn), fewer_without h.place n old.tokens h.at)

pub behind_left : (old new : TokensValue) (last : Option (List ℕ)) (n place : ℕ) → MatchOption last (0 < old.room) (IsFound old.tokens n) → TakesAway old new last → All (λ t. t.place < place) old.tokens → All (λ t. t.place < place) new.tokens
behind_left old new None n place h takes behind = subst (All (λ t. t.place < place)) (sym takes) behind
behind_left old new (Some text) n place h takes behind =
    subst (All (λ t. t.place < place)) (sym (takes h.place h.drawn)) (All-filter (λ t. not (t.place == h.place)) (λ t. t.place < place) old.tokens behind)

-- ---- a new token of a grant

pub issued : (old new : TokensValue) (texts : Texts) (n place : ℕ) (text : List ℕ) (last : Option (List ℕ)) → AreIndexed old texts → nth texts n ≡ Some last → IsDrawnAt place text
    → All (λ t. t.place < place) old.tokens → Replaces old new last (token place n) → new.room + length new.tokens ≡ old.room + length old.tokens
    → AreIndexed new (with_text texts n text)
issued old new texts n place text None h there drawn behind replaces room = issued_first old new texts n place text h there drawn behind replaces room
issued old new texts n place text (Some past) h there drawn behind replaces room =
    let f = h.found n past there in
    issued_again old new texts n place text past f h there drawn behind (replaces f.place f.drawn) room

-- a grant has a token that is found, or leaves room for one
pub room_or_found : (tokens : TokensValue) (texts : Texts) (n : ℕ) (last : Option (List ℕ)) → AreIndexed tokens texts → nth texts n ≡ Some last → MatchOption last (0 < tokens.room) (IsFound tokens.tokens n)
room_or_found tokens texts n None h there =
    let more = sum_by-with_item weight (λ _. Some []) texts n None there in
    let few = count_by-le-length is_some (with_text texts n []) in
    omega (arith, h.few, h.room, more, few, length-with_item (λ _. Some []) texts n)
room_or_found tokens texts n (Some text) h there = h.found n text there

-- ---- a new place

pub access_before : (place : ℕ) (row : GrantRow) (text : List ℕ) → All (IsDrawnBefore place) (secrets_of row) → row.access ≡ Some text → IsDrawnBefore place text
access_before place row text all is =
    let listed : secrets_of row ≡ row.continuation ∷ row.nonce ∷ (option_to_list (Some text) ++ option_to_list row.reference) =
    ap (λ o. row.continuation ∷ row.nonce ∷ (option_to_list o ++ option_to_list row.reference)) is in
    all_at (IsDrawnBefore place) (row.continuation ∷ row.nonce ∷ (option_to_list (Some text) ++ option_to_list row.reference)) 2 text (subst (All (IsDrawnBefore place)) listed all) refl

pub row_at : {X : Type 0} (P : X → Type 0) (xs : List X) (n : ℕ) (x : X) → All P xs → nth xs n ≡ Some x → P x
row_at P xs zero x all h = absurd (let e : None ≡ Some x = h in cc)
row_at P xs (suc i) x all h = all_at P xs i x all h

-- a new place lies behind those of the index
pub behind_all : (tokens : TokensValue) (rows : List GrantRow) (place : ℕ) → AreIndexed tokens (accesses rows) → IsNewPlace place rows → All (λ t. t.place < place) tokens.tokens
behind_all tokens rows place h new =
    all_items (IsHeld (accesses rows)) (λ t. t.place < place) tokens.tokens
    (λ t k.
    let row = of_map (λ r. r.access) (nth rows t.grant) (Some k.text) (sym (nth-map (λ r. r.access) rows t.grant) ∙ k.there) in
    access_before place row.0 k.text (row_at (λ r. All (IsDrawnBefore place) (secrets_of r)) rows t.grant row.0 new row.1) row.2 Access k.drawn.word t.place k.drawn.drawn k.drawn.small k.drawn.is) h.held

-- ---- rows

-- a change that leaves the access token and the items
pub kept_changed : (tokens : TokensValue) (rows : List GrantRow) (f : GrantRow → GrantRow) (n : ℕ) → ((r : GrantRow) → (f r).access ≡ r.access) → ((r : GrantRow) → (f r).items ≡ r.items)
    → IsKept tokens rows → IsKept tokens (with_item f rows n)
kept_changed tokens rows f n access items h =
    record {
      indexed = subst (AreIndexed tokens) (sym (map-unchanged (λ r. r.access) f rows n access)) h.indexed;
      readable = subst (λ xs. IsTrue (list_all are_readable xs)) (sym (map-unchanged (λ r. r.items) f rows n items)) h.readable;
    }

-- a change that draws the access token
pub kept_issued : (old new : TokensValue) (rows : List GrantRow) (f : GrantRow → GrantRow) (n place : ℕ) (text : List ℕ) (row : GrantRow) → ((r : GrantRow) → (f r).access ≡ Some text) → ((r : GrantRow) → (f r).items ≡ r.items)
    → IsKept old rows → nth rows n ≡ Some row → IsDrawnAt place text → IsNewPlace place rows → Replaces old new row.access (token place n) → new.room + length new.tokens ≡ old.room + length old.tokens
    → IsKept new (with_item f rows n)
kept_issued old new rows f n place text row access items h there drawn behind replaces room =
    let texts = map-with_item (λ r. r.access) f (λ _. Some text) rows n access in
    let at : nth (accesses rows) n ≡ Some row.access = nth-map (λ r. r.access) rows n ∙ ap (option_map (λ r. r.access)) there in
    record {
      indexed = subst (AreIndexed new) (sym texts)
          (issued old new (accesses rows) n place text row.access h.indexed at drawn (behind_all old rows place h.indexed behind) replaces room);
      readable = subst (λ xs. IsTrue (list_all are_readable xs)) (sym (map-unchanged (λ r. r.items) f rows n items)) h.readable;
    }

-- ---- one more grant

-- the other texts, with one more
held_append : (texts : Texts) (o : Option (List ℕ)) (t : Token) → IsHeld texts t → IsHeld (texts ++ o ∷ []) t
held_append texts o t h =
    record { text = h.text; there = nth-append texts (o ∷ []) t.grant (Some h.text) h.there; drawn = h.drawn }

asked_pending : (old new : TokensValue) (texts : Texts) → AreIndexed old texts → new.tokens ≡ old.tokens → length texts + 1 ≤ new.room + length new.tokens → AreIndexed new (texts ++ None ∷ [])
asked_pending old new texts h is room =
    record {
      found = λ n s e. subst (λ ts. IsFound ts n s) (sym is)
          (nth_either (λ m o. o ≡ Some s → IsFound old.tokens m s) texts None (Some s) n (λ m f g. h.found m s f) (λ g. absurd (cc g)) e refl);
      held = subst (All (IsHeld (texts ++ None ∷ []))) (sym is) (all_items (IsHeld texts) (IsHeld (texts ++ None ∷ [])) old.tokens (held_append texts None) h.held);
      few = omega (arith, ap length is, sum_by-append weight texts (None ∷ []), h.few);
      room = omega (arith, length-append texts (None ∷ []), room);
    }

asked_issued : (old new : TokensValue) (texts : Texts) (place : ℕ) (text : List ℕ) → AreIndexed old texts → IsDrawnAt place text → All (λ t. t.place < place) old.tokens
    → new.tokens ≡ old.tokens ++ token place (length texts + 1) ∷ [] → length texts + 1 ≤ new.room + length new.tokens → AreIndexed new (texts ++ Some text ∷ [])
asked_issued old new texts place text h drawn behind is room =
    let n = length texts + 1 in
    let tokens = old.tokens ++ token place n ∷ [] in
    let last = grant_at-last old.tokens (token place n) behind in
    let mine : IsFound tokens n text = record { place = place; drawn = drawn; at = last } in
    let here : IsHeld (texts ++ Some text ∷ []) (token place n) = record { text = text; there = nth-last texts (Some text) n refl; drawn = drawn } in
    record {
      found = λ m s e. subst (λ ts. IsFound ts m s) (sym is)
          (nth_either (λ k o. o ≡ Some s → IsFound tokens k s) texts (Some text) (Some s) m
          (λ k f g. let other = h.found k s f in record { place = other.place; drawn = other.drawn; at = grant_at-append old.tokens (token place n) other.place k other.at })
          (λ g. subst (IsFound tokens n) (some_is text s g) mine) e refl);
      held = subst (All (IsHeld (texts ++ Some text ∷ []))) (sym is)
          (All-append (IsHeld (texts ++ Some text ∷ [])) old.tokens (token place n ∷ [])
          (all_items (IsHeld texts) (IsHeld (texts ++ Some text ∷ [])) old.tokens (held_append texts (Some text)) h.held)
          (one_item (IsHeld (texts ++ Some text ∷ [])) (token place n) here));
      few = omega (arith, ap length is, length-append old.tokens (token place n ∷ []), sum_by-append weight texts (Some text ∷ []), h.few);
      room = omega (arith, length-append texts (Some text ∷ []), room);
    }

and_true : (p q : Bool) → p ≡ true → q ≡ true → (p && q) ≡ true
and_true true q h k = k
and_true false q h k = absurd (let e : false ≡ true = h in cc)

both_of : (p q : Bool) → (p && q) ≡ true → (p ≡ true) × (q ≡ true)
both_of true q h = (refl, h)
both_of false q h = absurd (let e : false ≡ true = h in cc)

readable_append : (rows : List GrantRow) (row : GrantRow) → IsTrue (list_all are_readable (asked_items rows)) → IsTrue (are_readable row.items) → IsTrue (list_all are_readable (asked_items (rows ++ row ∷ [])))
readable_append [] row h r = and_true (are_readable row.items) true r refl
readable_append (x ∷ xs) row h r =
    let parts = both_of (are_readable x.items) (list_all are_readable (asked_items xs)) h in
    and_true (are_readable x.items) (list_all are_readable (asked_items (xs ++ row ∷ []))) parts.0 (readable_append xs row parts.1 r)

pub kept_pending : (old new : TokensValue) (rows : List GrantRow) (row : GrantRow) → IsKept old rows → row.access ≡ None → IsTrue (are_readable row.items)
    → new.tokens ≡ old.tokens → length rows + 1 ≤ new.room + length new.tokens → IsKept new (rows ++ row ∷ [])
kept_pending old new rows row h none items is room =
    let texts : accesses (rows ++ row ∷ []) ≡ accesses rows ++ None ∷ [] = map-append (λ r. r.access) rows (row ∷ []) ∙ ap (λ o. accesses rows ++ o ∷ []) none in
    record {
      indexed = subst (AreIndexed new) (sym texts) (asked_pending old new (accesses rows) h.indexed is (omega (arith, room, length-map rows (λ r. r.access))));
      readable = readable_append rows row h.readable items;
    }

pub kept_immediate : (old new : TokensValue) (rows : List GrantRow) (row : GrantRow) (place : ℕ) (text : List ℕ) → IsKept old rows → row.access ≡ Some text → IsDrawnAt place text → IsTrue (are_readable row.items)
    → IsNewPlace place rows → new.tokens ≡ old.tokens ++ token place (length rows + 1) ∷ [] → length rows + 1 ≤ new.room + length new.tokens → IsKept new (rows ++ row ∷ [])
kept_immediate old new rows row place text h some drawn items behind is room =
    let size : length (accesses rows) ≡ length rows = length-map rows (λ r. r.access) in
    let texts : accesses (rows ++ row ∷ []) ≡ accesses rows ++ Some text ∷ [] = map-append (λ r. r.access) rows (row ∷ []) ∙ ap (λ o. accesses rows ++ o ∷ []) some in
    record {
      indexed = subst (AreIndexed new) (sym texts)
          (asked_issued old new (accesses rows) place text h.indexed drawn (behind_all old rows place h.indexed behind)
          (is ∙ ap (λ k. old.tokens ++ token place (k + 1) ∷ []) (sym size)) (omega (arith, room, size)));
      readable = readable_append rows row h.readable items;
    }

-- there are at most as many tokens as grants
pub fewer_tokens : (tokens : TokensValue) (rows : List GrantRow) → IsKept tokens rows → length tokens.tokens ≤ length rows
fewer_tokens tokens rows h =
    omega (arith, h.indexed.few, count_by-le-length is_some (accesses rows), length-map rows (λ r. r.access))

readable_at : (rows : List GrantRow) (i : ℕ) (row : GrantRow) → IsTrue (list_all are_readable (asked_items rows)) → slice_get rows i ≡ Some row → IsTrue (are_readable row.items)
readable_at [] i row h there = absurd (let e : None ≡ Some row = there in cc)
readable_at (x ∷ xs) zero row h there =
    let same : x ≡ row = cc in
    subst (λ r. IsTrue (are_readable r.items)) same (both_of (are_readable x.items) (list_all are_readable (asked_items xs)) h).0
readable_at (x ∷ xs) (suc i) row h there = readable_at xs i row (both_of (are_readable x.items) (list_all are_readable (asked_items xs)) h).1 there

pub readable_row : (rows : List GrantRow) (n : ℕ) (row : GrantRow) → IsTrue (list_all are_readable (asked_items rows)) → nth rows n ≡ Some row → IsTrue (are_readable row.items)
readable_row rows zero row h there = absurd (let e : None ≡ Some row = there in cc)
readable_row rows (suc i) row h there = readable_at rows i row h there

-- a number that is there is at most the length
pub number_within : {X : Type 0} (xs : List X) (n : ℕ) (x : X) → nth xs n ≡ Some x → n ≤ length xs
number_within xs zero x h = omega arith
number_within xs (suc i) x h = let within = within_of_get xs i x h in omega (arith, within)
