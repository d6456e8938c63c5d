-- Lists of tokens in ascending order of their places.
use Rattle.std.proofs.Common.{◌≡◌, ◌≢◌, ℕ, zero, suc, ◌+◌, ◌<◌, ◌≤◌, Bool, true, false, cond, List, [], ◌∷◌, ◌++◌, length, get_or, nat_cmp, refl, sym, ap, subst, ◌∙◌, arith, tests, Ok, Err, ⊎_elim, ◌⊎◌, inl, inr}
use Rattle.std.specs.Prelude.{Some, None, not, ◌==◌, All, slice_get, remove, IfSome, MatchOption, MatchResult}
use Rattle.std.specs.List.{find}
use Rattle.std.specs.List.Sorted.{IsBinarySearchResult}
use Rattle.std.specs.Option.{option_map, option_or}
use Rattle.std.specs.Result.{result_ok}
use Rattle.std.specs.Ordering.{ordering_index}
use Rattle.std.specs.declared.cmp.Ordering.TheVariants.{Less, Equal, Greater}
use Rattle.std.specs.declared.option.Option.{Option}
use Rattle.std.specs.declared.result.Result.{Result}
use Rattle.std.proofs.lemmas.Bool.Decides.{nat_tests}
use Rattle.std.proofs.lemmas.Option.{get_or_from_slice_get, slice_get-get_or}
use Rattle.std.proofs.lemmas.List.Elements.{All-append, All-filter}
use Rattle.std.proofs.lemmas.List.Folds.{find-append}
use Rattle.op_grant.specs.declared.tokens.Token.{Token}
use Rattle.op_grant.specs.Tokens.{AreRising, grant_at, IsTokenAt, left}

abbrev pub is_at : ℕ → Token → Bool
is_at place t = t.place == place

-- ---- what is found

-- an item that is there stands below the length
pub within_of_get : {X : Type 0} (xs : List X) (i : ℕ) (x : X) → slice_get xs i ≡ Some x → i < length xs
within_of_get [] i x h = absurd (let e : None ≡ Some x = h in cc)
within_of_get (y ∷ xs) zero x h = omega arith
within_of_get (y ∷ xs) (suc i) x h = let rest = within_of_get xs i x h in omega (arith, rest)

at_place : (m n : ℕ) → m ≡ n → (m == n) ≡ true
at_place m n h = grind (arith, nat_tests)

apart : (m n : ℕ) → m ≢ n → (m == n) ≡ false
apart m n h = grind (arith, nat_tests)

place_is : (m n : ℕ) → (m == n) ≡ true → m ≡ n
place_is m n h = grind (arith, nat_tests)

-- an item of a list of which all are so
pub all_at : {X : Type 0} (P : X → Type 0) (xs : List X) (i : ℕ) (x : X) → All P xs → slice_get xs i ≡ Some x → P x
all_at P xs i x all h =
    let within : i < length xs = within_of_get xs i x h in
    subst P (get_or_from_slice_get xs i x x h) (all i x within)

pub all_behind : {X : Type 0} (P : X → Type 0) (y : X) (xs : List X) → All P (y ∷ xs) → All P xs
all_behind P y xs all k d h = all (suc k) d (omega (arith, h))

pub found_at : (xs : List Token) (i : ℕ) (x : Token) (place : ℕ) → AreRising xs → slice_get xs i ≡ Some x → x.place ≡ place → find (is_at place) xs ≡ Some x
found_at [] i x place rising h e = absurd (let f : None ≡ Some x = h in cc)
found_at (y ∷ xs) zero x place rising h e =
    let same : y ≡ x = cc in
    let here : (y.place == place) ≡ true = at_place y.place place (ap (λ t. t.place) same ∙ e) in
    rw here (ap (λ t. Some t) same)
found_at (y ∷ xs) (suc i) x place rising h e =
    let below : y.place < x.place = all_at (λ t. y.place < t.place) xs i x rising.0 h in
    let other : (y.place == place) ≡ false = apart y.place place (λ s. absurd (omega (arith, below, e, s))) in
    rw other (found_at xs i x place rising.1 h e)

pub none_at : (xs : List Token) (place : ℕ) → ((i : ℕ) (x : Token) → slice_get xs i ≡ Some x → x.place ≢ place) → find (is_at place) xs ≡ None
none_at [] place never = refl
none_at (y ∷ xs) place never = rw (apart y.place place (never 0 y refl)) (none_at xs place (λ i x h. never (suc i) x h))

-- ---- halving

higher : (place a b : ℕ) → a ≤ b → ordering_index (nat_cmp a place) ≤ ordering_index (nat_cmp b place)
higher place a b le = grind (arith, tests)

rising_pair : (xs : List Token) (a b : ℕ) (d : Token) → AreRising xs → a ≤ b → b < length xs → (get_or xs a d).place ≤ (get_or xs b d).place
rising_pair [] a b d rising le h = absurd (omega (arith, h))
rising_pair (x ∷ xs) zero zero d rising le h = omega arith
rising_pair (x ∷ xs) zero (suc b) d rising le h =
    let behind : x.place < (get_or xs b d).place = rising.0 b d (omega (arith, h)) in
    omega (arith, behind)
rising_pair (x ∷ xs) (suc a) zero d rising le h = absurd (omega (arith, le))
rising_pair (x ∷ xs) (suc a) (suc b) d rising le h = rising_pair xs a b d rising.1 (omega (arith, le)) (omega (arith, h))

equal_is : (m n : ℕ) → nat_cmp m n ≡ Equal → m ≡ n
equal_is m n h = grind (arith, tests)

never_less : (m n : ℕ) → nat_cmp m n ≡ Less → m ≢ n
never_less m n h = grind (arith, tests)

never_greater : (m n : ℕ) → nat_cmp m n ≡ Greater → m ≢ n
never_greater m n h = grind (arith, tests)

any_token : Token
any_token = record { place = 0; grant = 0 }

before_or_from : (k i : ℕ) → (k < i) ⊎ (i ≤ k)
before_or_from zero zero = inr (omega arith)
before_or_from zero (suc i) = inl (omega arith)
before_or_from (suc k) zero = inr (omega arith)
before_or_from (suc k) (suc i) = ⊎_elim (λ l. inl (omega (arith, l))) (λ l. inr (omega (arith, l))) (before_or_from k i)

-- what the search by places says of the token that it finds, and that it finds none
pub searched_tokens : (xs : List Token) (place : ℕ) (r : Result ℕ ℕ) → AreRising xs → MatchResult r (λ i. i < length xs) (λ i. i ≤ length xs) → IsBinarySearchResult (λ t. nat_cmp t.place place) xs r
    → MatchOption (result_ok r) (grant_at xs place ≡ None) (λ i. IsTokenAt xs i place)
searched_tokens xs place (Ok i) rising bound h =
    let at : slice_get xs i ≡ Some (get_or xs i any_token) = slice_get-get_or xs i any_token bound in
    (bound, rw at (equal_is (get_or xs i any_token).place place (h any_token)))
searched_tokens xs place (Err i) rising bound h =
    let parted = h (λ a b d le lt. higher place (get_or xs a d).place (get_or xs b d).place (rising_pair xs a b d rising le lt)) in
    ap (option_map (λ t. t.grant)) (none_at xs place (λ k x at.
    let here = get_or_from_slice_get xs k x x at in
    let within = within_of_get xs k x at in
    ⊎_elim (λ l. subst (λ t. t.place ≢ place) here (never_less (get_or xs k x).place place (parted.0 k x (omega arith) l)))
    (λ l. subst (λ t. t.place ≢ place) here (never_greater (get_or xs k x).place place (parted.1 k x l within))) (before_or_from k i)))

-- ---- one more

one_above : (x y : Token) → x.place < y.place → All (λ t. x.place < t.place) (y ∷ [])
one_above x y h zero d within = h
one_above x y h (suc k) d within = absurd (omega (arith, within))

pub rising-append : (xs : List Token) (y : Token) → AreRising xs → All (λ t. t.place < y.place) xs → AreRising (xs ++ y ∷ [])
rising-append [] y rising below = ((λ k d h. absurd (omega (arith, h))), tt)
rising-append (x ∷ xs) y rising below =
    (All-append (λ t. x.place < t.place) xs (y ∷ []) rising.0 (one_above x y (below 0 x (omega arith))), rising-append xs y rising.1 (all_behind (λ t. t.place < y.place) x xs below))

-- ---- one less

left_step : (b : Bool) (x : Token) (ys : List Token) → All (λ t. x.place < t.place) ys → AreRising ys → AreRising (cond b (x ∷ ys) ys)
left_step true x ys above rising = (above, rising)
left_step false x ys above rising = rising

pub rising-left : (place : ℕ) (xs : List Token) → AreRising xs → AreRising (left place xs)
rising-left place [] rising = tt
rising-left place (x ∷ xs) rising =
    left_step (not (x.place == place)) x (left place xs) (All-filter (λ t. not (t.place == place)) (λ t. x.place < t.place) xs rising.0) (rising-left place xs rising.1)

-- nothing is left out where nothing is at the place
pub left_all : (place : ℕ) (xs : List Token) → ((i : ℕ) (x : Token) → slice_get xs i ≡ Some x → x.place ≢ place) → left place xs ≡ xs
left_all place [] never = refl
left_all place (y ∷ xs) never = rw (apart y.place place (never 0 y refl)) (ap (λ ys. y ∷ ys) (left_all place xs (λ i x h. never (suc i) x h)))

-- to take the token away at its index is to leave the others
pub remove_is_left : (xs : List Token) (i : ℕ) (x : Token) (place : ℕ) → AreRising xs → slice_get xs i ≡ Some x → x.place ≡ place → remove xs i ≡ left place xs
remove_is_left [] i x place rising h e = absurd (let f : None ≡ Some x = h in cc)
remove_is_left (y ∷ xs) zero x place rising h e =
    let same : y ≡ x = cc in
    let at : y.place ≡ place = ap (λ t. t.place) same ∙ e in
    let above : (i : ℕ) (z : Token) → slice_get xs i ≡ Some z → z.place ≢ place = λ i z g s. absurd (omega (arith, all_at (λ t. y.place < t.place) xs i z rising.0 g, at, s)) in
    rw (at_place y.place place at) (sym (left_all place xs above))
remove_is_left (y ∷ xs) (suc i) x place rising h e =
    let below : y.place < x.place = all_at (λ t. y.place < t.place) xs i x rising.0 h in
    let other : (y.place == place) ≡ false = apart y.place place (λ s. absurd (omega (arith, below, e, s))) in
    rw other (ap (λ ys. y ∷ ys) (remove_is_left xs i x place rising.1 h e))

gone_step : (b : Bool) (x : Token) (o : Option Token) (ys xs : List Token) → cond b (Some x) o ≡ None → (o ≡ None → ys ≡ xs) → cond (not b) (x ∷ ys) ys ≡ x ∷ xs
gone_step true x o ys xs h k = absurd (let e : Some x ≡ None = h in cc)
gone_step false x o ys xs h k = ap (λ zs. x ∷ zs) (k h)

pub left_none : (place : ℕ) (xs : List Token) → find (is_at place) xs ≡ None → left place xs ≡ xs
left_none place [] h = refl
left_none place (x ∷ xs) h = gone_step (x.place == place) x (find (is_at place) xs) (left place xs) xs h (left_none place xs)

none_of_map : {X Y : Type 0} (f : X → Y) (o : Option X) → option_map f o ≡ None → o ≡ None
none_of_map f None h = refl
none_of_map f (Some x) h = absurd (let e : Some (f x) ≡ None = h in cc)

pub left_without : (place : ℕ) (xs : List Token) → grant_at xs place ≡ None → left place xs ≡ xs
left_without place xs h = left_none place xs (none_of_map (λ t. t.grant) (find (is_at place) xs) h)

-- ---- what is found then

other_step : (b c : Bool) (x : Token) (o p : Option Token) → (c ≡ true → b ≡ false) → p ≡ o → cond c (Some x) p ≡ cond c (Some x) o
other_step b c x o p apart h = rw h refl

left_find : (b c : Bool) (x : Token) (place other : ℕ) (ys : List Token) (o : Option Token) → (b ≡ true → c ≡ true → ⊥) → (x.place == other) ≡ c → find (is_at other) ys ≡ o
    → find (is_at other) (cond (not b) (x ∷ ys) ys) ≡ cond c (Some x) o
left_find true true x place other ys o apart e h = absurd (apart refl refl)
left_find true false x place other ys o apart e h = h
left_find false c x place other ys o apart e h = rw (e, h) refl

pub find-left : (place other : ℕ) (xs : List Token) → other ≢ place → find (is_at other) (left place xs) ≡ find (is_at other) xs
find-left place other [] h = refl
find-left place other (x ∷ xs) h =
    left_find (x.place == place) (x.place == other) x place other (left place xs) (find (is_at other) xs)
    (λ b c. h (sym (place_is x.place other c) ∙ place_is x.place place b)) refl (find-left place other xs h)

pub grant_at-left : (place other : ℕ) (xs : List Token) → other ≢ place → grant_at (left place xs) other ≡ grant_at xs other
grant_at-left place other xs h = ap (option_map (λ t. t.grant)) (find-left place other xs h)

or_first : {X : Type 0} (o p : Option X) (x : X) → o ≡ Some x → option_or o p ≡ Some x
or_first o p x h = rw h refl

grant_some : (o p : Option Token) (n : ℕ) → option_map (λ t. t.grant) o ≡ Some n → option_map (λ t. t.grant) (option_or o p) ≡ Some n
grant_some None p n h = absurd (let e : None ≡ Some n = h in cc)
grant_some (Some t) p n h = h

-- what is found stays, with one more token behind
pub grant_at-append : (xs : List Token) (y : Token) (place n : ℕ) → grant_at xs place ≡ Some n → grant_at (xs ++ y ∷ []) place ≡ Some n
grant_at-append xs y place n h = ap (option_map (λ t. t.grant)) (find-append (is_at place) xs (y ∷ [])) ∙ grant_some (find (is_at place) xs) (find (is_at place) (y ∷ [])) n h

-- the new one is found at its place, above all others
pub grant_at-last : (xs : List Token) (y : Token) → All (λ t. t.place < y.place) xs → grant_at (xs ++ y ∷ []) y.place ≡ Some y.grant
grant_at-last xs y below =
    let nothing : find (is_at y.place) xs ≡ None = none_at xs y.place (λ i x h e. absurd (omega (arith, all_at (λ t. t.place < y.place) xs i x below h, e))) in
    ap (option_map (λ t. t.grant)) (find-append (is_at y.place) xs (y ∷ []) ∙ ap (λ o. option_or o (find (is_at y.place) (y ∷ []))) nothing ∙ ap (λ b. cond b (Some y) None) (at_place y.place y.place refl))

-- ---- lengths

length_step : (b : Bool) (x : Token) (ys : List Token) (n : ℕ) → length ys ≤ n → length (cond (not b) (x ∷ ys) ys) ≤ n + 1
length_step true x ys n h = omega (arith, h)
length_step false x ys n h = omega (arith, h)

pub length-left : (place : ℕ) (xs : List Token) → length (left place xs) ≤ length xs
length-left place [] = omega arith
length-left place (x ∷ xs) = omega (arith, length_step (x.place == place) x (left place xs) (length xs) (length-left place xs))

fewer_step : (b : Bool) (x t : Token) (ys : List Token) (o : Option Token) (n : ℕ) → length ys ≤ n → (o ≡ Some t → length ys + 1 ≤ n) → cond b (Some x) o ≡ Some t → length (cond (not b) (x ∷ ys) ys) ≤ n
fewer_step true x t ys o n h k e = h
fewer_step false x t ys o n h k e = let rest = k e in omega (arith, rest)

-- a token less where one is at the place
pub fewer_left : (place : ℕ) (xs : List Token) (t : Token) → find (is_at place) xs ≡ Some t → length (left place xs) + 1 ≤ length xs
fewer_left place [] t h = absurd (let e : None ≡ Some t = h in cc)
fewer_left place (x ∷ xs) t h =
    omega (arith, fewer_step (x.place == place) x t (left place xs) (find (is_at place) xs) (length xs) (length-left place xs) (fewer_left place xs t) h)

token_of : (o : Option Token) (n : ℕ) → option_map (λ t. t.grant) o ≡ Some n → (t : Token) × (o ≡ Some t)
token_of None n h = absurd (let e : None ≡ Some n = h in cc)
token_of (Some t) n h = (t, refl)

pub fewer_without : (place n : ℕ) (xs : List Token) → grant_at xs place ≡ Some n → length (left place xs) + 1 ≤ length xs
fewer_without place n xs h = let t = token_of (find (is_at place) xs) n h in fewer_left place xs t.0 t.1

-- ---- a token that was searched

place_at : (xs : List Token) (at place : ℕ) (x : Token) → IsTokenAt xs at place → (get_or xs at x).place ≡ place
place_at xs at place x h = subst (λ o. IfSome o (λ t. t.place ≡ place)) (slice_get-get_or xs at x h.0) h.1

pub grant_found : (xs : List Token) (at place : ℕ) (x : Token) → AreRising xs → IsTokenAt xs at place → x ≡ get_or xs at x → Some x.grant ≡ grant_at xs place
grant_found xs at place x rising h e =
    let found = found_at xs at (get_or xs at x) place rising (slice_get-get_or xs at x h.0) (place_at xs at place x h) in
    ap (λ t. Some t.grant) e ∙ sym (ap (option_map (λ t. t.grant)) found)

pub removed_is_left : (xs : List Token) (at place : ℕ) → AreRising xs → IsTokenAt xs at place → remove xs at ≡ left place xs
removed_is_left xs at place rising h =
    remove_is_left xs at (get_or xs at any_token) place rising (slice_get-get_or xs at any_token h.0) (place_at xs at place any_token h)
