-- No secret of the grants of a history was drawn at the place of the next entry.
use Rattle.std.proofs.Common.{◌≡◌, ℕ, suc, ◌+◌, ◌<◌, ◌≤◌, ◌^◌, Bool, true, false, cond, List, [], ◌∷◌, ◌++◌, length, map, refl, subst, arith, Some, None, Option}
use Rattle.std.proofs.lemmas.List.Elements.{All-nil, All-cons, All-append}
use Rattle.std.specs.Prelude.{All, unwrap_or}
use Rattle.std.specs.List.{AllByRecursion, enumerate_from, filter_map, cons_option}
use Rattle.std.specs.Option.{option_map, option_to_list}
use Rattle.op_names.specs.Secrets.{secret_text, IsDrawn}
use Rattle.op_names.specs.declared.Letter.{Letter}
use Rattle.op_names.specs.declared.Letter.TheVariants as letters
use Rattle.op_names.proofs.SecretTexts.{same_place}
use Rattle.op_model.specs.History.{last}
use Rattle.op_model.specs.Grants.{Draw, GrantMade, grants_made, grant_asked, grant_so_far, draws, draw_at, access_draws, continuation_draws, access_word, continuation_word, reference_word, is_immediate}
use Rattle.op_model.specs.Legal.{word_of}
use Rattle.op_model.specs.declared.act.Act.{Act}
use Rattle.op_model.specs.declared.act.Act.TheVariants as acts
use Rattle.op_model.specs.declared.act.Entry.{Entry}
use Rattle.op_model.specs.declared.row.GrantRow.{GrantRow}
use Rattle.op_grant.specs.Places.{secrets_of, IsDrawnBefore, IsNewPlace}
use Rattle.op_granting.specs.Models.{next_place}
use Rattle.op_granting.specs.Drawn.{draws_word, WordsAreDrawn, PlacesAreNew}
use Rattle.op_model.proofs.Numbered.{all-append, last_in}

-- a draw of a word of sixteen bytes, below a place
record IsGood (c : ℕ) (draw : Draw) : Type 0 where
  word : IsDrawn draw.word
  place : draw.place < c

before : (c : ℕ) (letter : Letter) (draw : Draw) → c ≤ 2 ^ 64 → IsGood c draw → IsDrawnBefore c (secret_text letter draw.word draw.place)
before c letter draw low good other word place drawn small is =
    let least = good.place in
    let same : draw.place ≡ place = same_place (secret_text letter draw.word draw.place) letter other draw.word word draw.place place good.word drawn (omega (arith, low, least)) small refl is in
    omega (arith, same, least)

-- ---- draws are good

taken_all : {X : Type 0} (P : X → Type 0) (o : Option X) (xs : List X) → ((x : X) → o ≡ Some x → P x) → AllByRecursion P xs → AllByRecursion P (cons_option o xs)
taken_all P None xs own rest = rest
taken_all P (Some x) xs own rest = (own x refl, rest)

taken_good : {X : Type 0} (draw_of : X → Draw) (take_of : ℕ × Entry → Option X) (b c : ℕ) (xs : List Entry) → b + length xs ≤ c → ((k : ℕ) (e : Entry) (x : X) → k < c → (draws_word e.act ≡ true → IsDrawn (word_of e.act)) → take_of (k, e) ≡ Some x → IsGood c (draw_of x))
    → WordsAreDrawn xs → AllByRecursion (λ x. IsGood c (draw_of x)) (filter_map take_of (enumerate_from b xs))
taken_good draw_of take_of b c [] le own words = tt
taken_good draw_of take_of b c (e ∷ es) le own words =
    let lengths : length (e ∷ es) ≡ suc (length es) = refl in
    taken_all (λ x. IsGood c (draw_of x)) (take_of (b, e)) (filter_map take_of (enumerate_from (b + 1) es)) (λ x h. own b e x (omega (arith, le, lengths)) words.0 h)
    (taken_good draw_of take_of (b + 1) c es (omega (arith, le, lengths)) own words.1)

drawn_good : (k t c : ℕ) (o : Option (List ℕ)) (draw : Draw) → k < c → ((word : List ℕ) → o ≡ Some word → IsDrawn word) → option_map (draw_at k t) o ≡ Some draw → IsGood c draw
drawn_good k t c None draw below words h = absurd (let e : None ≡ Some draw = h in cc)
drawn_good k t c (Some word) draw below words h =
    let e : draw_at k t word ≡ draw = cc in subst (IsGood c) e (record { word = words word refl; place = below })

draws_good : (word : Act → Option (List ℕ)) (history : List Entry) → ((act : Act) (text : List ℕ) → word act ≡ Some text → (draws_word act ≡ true → IsDrawn (word_of act)) → IsDrawn text) → WordsAreDrawn history → AllByRecursion (IsGood (next_place history)) (draws word history)
draws_good word history own words =
    taken_good (λ (d : Draw). d) (λ ((place, e) : ℕ × Entry). option_map (draw_at place e.at) (word e.act)) 1 (next_place history) history (omega arith)
    (λ k e d below drawn h. drawn_good k e.at (next_place history) (word e.act) d below (λ text is. own e.act text is drawn) h) words

by_test : (b : Bool) (word text : List ℕ) → cond b (Some word) None ≡ Some text → IsDrawn word → IsDrawn text
by_test true word text h drawn = let e : word ≡ text = cc in subst IsDrawn e drawn
by_test false word text h drawn = absurd (let e : None ≡ Some text = h in cc)

not_there : (text : List ℕ) → None ≡ Some text → IsDrawn text
not_there text h = absurd (let e : None ≡ Some text = h in cc)

access_own : (g : ℕ) (act : Act) (text : List ℕ) → access_word g act ≡ Some text → (draws_word act ≡ true → IsDrawn (word_of act)) → IsDrawn text
access_own g (acts.GrantContinued n word) text h drawn = by_test _ word text h (drawn refl)
access_own g (acts.TokenRotated n word) text h drawn = by_test _ word text h (drawn refl)
access_own g _ text h drawn = not_there text h

continuation_own : (g : ℕ) (act : Act) (text : List ℕ) → continuation_word g act ≡ Some text → (draws_word act ≡ true → IsDrawn (word_of act)) → IsDrawn text
continuation_own g (acts.GrantContinued n word) text h drawn = by_test _ word text h (drawn refl)
continuation_own g _ text h drawn = not_there text h

reference_own : (g : ℕ) (act : Act) (text : List ℕ) → reference_word g act ≡ Some text → (draws_word act ≡ true → IsDrawn (word_of act)) → IsDrawn text
reference_own g (acts.GrantAccepted n word) text h drawn = by_test _ word text h (drawn refl)
reference_own g (acts.GrantRejected n word) text h drawn = by_test _ word text h (drawn refl)
reference_own g _ text h drawn = not_there text h

asked_good : (k t c : ℕ) (act : Act) (m : GrantMade) → k < c → (draws_word act ≡ true → IsDrawn (word_of act)) → grant_asked k t act ≡ Some m → IsGood c m.draw
asked_good k t c (acts.GrantAsked client items finish word) m below drawn h =
    let made : GrantMade = record { draw = draw_at k t word; client = client; items = items; finish = finish } in
    let e : made ≡ m = cc in subst (λ (x : GrantMade). IsGood c x.draw) e (record { word = drawn refl; place = below })
asked_good k t c _ m below drawn h = absurd (let e : None ≡ Some m = h in cc)

-- ---- the secrets of a row

by_last : (c : ℕ) (letter : Letter) (o : Option Draw) → c ≤ 2 ^ 64 → ((d : Draw) → o ≡ Some d → IsGood c d) → All (IsDrawnBefore c) (option_to_list (option_map (λ (d : Draw). secret_text letter d.word d.place) o))
by_last c letter None low good = All-nil (IsDrawnBefore c)
by_last c letter (Some d) low good = All-cons (IsDrawnBefore c) (secret_text letter d.word d.place) [] (before c letter d low (good d refl)) (All-nil (IsDrawnBefore c))

or_first : (c : ℕ) (first : Draw) (o : Option Draw) → IsGood c first → ((d : Draw) → o ≡ Some d → IsGood c d) → IsGood c (unwrap_or o first)
or_first c first None own good = own
or_first c first (Some d) own good = good d refl

first_good : (c : ℕ) (draw : Draw) (b : Bool) → IsGood c draw → AllByRecursion (IsGood c) (cond b (draw ∷ []) [])
first_good c draw true h = (h, tt)
first_good c draw false h = tt

row_good : (history : List Entry) (g : ℕ) (m : GrantMade) → next_place history ≤ 2 ^ 64 → WordsAreDrawn history → IsGood (next_place history) m.draw → All (IsDrawnBefore (next_place history)) (secrets_of (grant_so_far history (g, m)))
row_good history g m low words own =
    let c = next_place history in
    let P = IsDrawnBefore c in
    let row = grant_so_far history (g, m) in
    let accesses : AllByRecursion (IsGood c) (access_draws history g m) = all-append (IsGood c) (cond (is_immediate m.items) (m.draw ∷ []) []) (draws (access_word g) history) (first_good c m.draw (is_immediate m.items) own) (draws_good (access_word g) history (access_own g) words) in
    let continuations : AllByRecursion (IsGood c) (continuation_draws history g m) = (own, draws_good (continuation_word g) history (continuation_own g) words) in
    let references : AllByRecursion (IsGood c) (draws (reference_word g) history) = draws_good (reference_word g) history (reference_own g) words in
    let continuation = or_first c m.draw (last (continuation_draws history g m)) own (λ d h. last_in (IsGood c) (continuation_draws history g m) d continuations h) in
    All-cons P row.continuation (row.nonce ∷ option_to_list row.access ++ option_to_list row.reference)
    (before c letters.Continuation (unwrap_or (last (continuation_draws history g m)) m.draw) low continuation)
    (All-cons P row.nonce (option_to_list row.access ++ option_to_list row.reference) (before c letters.Nonce m.draw low own)
    (All-append P (option_to_list row.access) (option_to_list row.reference)
    (by_last c letters.Access (last (access_draws history g m)) low (λ d h. last_in (IsGood c) (access_draws history g m) d accesses h))
    (by_last c letters.Interaction (last (draws (reference_word g) history)) low (λ d h. last_in (IsGood c) (draws (reference_word g) history) d references h))))

rows_good : (history : List Entry) (b : ℕ) (xs : List GrantMade) → next_place history ≤ 2 ^ 64 → WordsAreDrawn history → AllByRecursion (λ (m : GrantMade). IsGood (next_place history) m.draw) xs → IsNewPlace (next_place history) (map (grant_so_far history) (enumerate_from b xs))
rows_good history b [] low words all = All-nil (λ (r : GrantRow). All (IsDrawnBefore (next_place history)) (secrets_of r))
rows_good history b (m ∷ xs) low words all =
    All-cons (λ (r : GrantRow). All (IsDrawnBefore (next_place history)) (secrets_of r)) (grant_so_far history (b, m)) (map (grant_so_far history) (enumerate_from (b + 1) xs)) (row_good history b m low words all.0) (rows_good history (b + 1) xs low words all.1)

pub places_are_new : PlacesAreNew
places_are_new history words small =
    rows_good history 1 (grants_made history) (omega (arith, small)) words
    (taken_good (λ (m : GrantMade). m.draw) (λ ((place, e) : ℕ × Entry). grant_asked place e.at e.act) 1 (next_place history) history (omega arith)
    (λ k e m below drawn h. asked_good k e.at (next_place history) e.act m below drawn h) words)
