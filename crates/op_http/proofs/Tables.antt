-- The look-up of `matchit` is the table's, segment by segment.
use Rattle.std.proofs.Common.{◌≡◌, ◌≢◌, inl, inr, ℕ, suc, ◌+◌, ◌<◌, ◌≤◌, Bool, true, false, cond, not, ◌==◌, ◌&&◌, ◌||◌, nat_eq, nat_lt, List, [], ◌∷◌, ◌++◌, length, map, filter, drop, get_or, add-one, Result, Ok, Err, Option, Some, None, refl, sym, ap, ◌∙◌, subst, arith}
use Rattle.std.specs.Prelude.{⊤}
use Rattle.std.specs.List.{before_first, slice_split, list_all}
use Rattle.std.specs.Option.{option_map, option_or}
use Rattle.std.specs.Str.{bytes_eq}
use Rattle.std.proofs.lemmas.Bool.{and_parts}
use Rattle.std.proofs.lemmas.Bool.Decides.{nat_tests}
use Rattle.std.specs.Borrow.{Bor}
use Rattle.std.proofs.Math.Seq.{drop-cons}
use Rattle.std.proofs.lemmas.List.{get_or-map, length-map, at_drop_all}
use Rattle.matchit.specs.Order.{placed}
use Rattle.matchit.specs.Rows.{RowsOf}
use Rattle.matchit.specs.Route.{Scan, parse_route}
use Rattle.matchit.specs.Router.{RouteOf, route_from, map_key}
use Rattle.matchit.specs.declared.error.InsertError.{InsertError}
use Rattle.op_names.specs.Forms.{is_slash}
use Rattle.op_model.specs.RouteTable.{Route, Part, Row, Awaiting, segments, matched, route_in, rows}
use Rattle.op_model.specs.RouteTable.Part.{Fixed, Parameter}
use Rattle.op_http.specs.Routers.{segment, Placed, filled, Rows, with_scan, with_row, rows_from, row_of, found, FindsFor}
use Rattle.op_http.proofs.Segments.{split_first, segment_is, after_hit, before_hit, before_miss}
use Rattle.op_http.proofs.Walks.{rest, fits, IsTail, IsWhole, AllWhole, are_all_apart, fitting, placed_in_turn, first_fits}

-- ---- a row's path as a pattern

-- the tokens of a path
abbrev pub tokens : List Part → List ℕ
tokens [] = []
tokens (Fixed text ∷ parts) = 47 ∷ (text ++ tokens parts)
tokens (Parameter ∷ parts) = 47 ∷ 256 ∷ tokens parts

-- a text that is one segment
abbrev pub is_plain : List ℕ → Bool
is_plain text = list_all (λ b. not (b == 47) && not (b == 256)) text

abbrev pub are_plain : List Part → Bool
are_plain [] = true
are_plain (Fixed text ∷ parts) = is_plain text && are_plain parts
are_plain (Parameter ∷ parts) = are_plain parts

-- the parts fit these segments
abbrev pub fit_each : List Part → List (List ℕ) → Bool
fit_each [] [] = true
fit_each [] (text ∷ texts) = false
fit_each (part ∷ parts) [] = false
fit_each (Fixed name ∷ parts) (text ∷ texts) = bytes_eq text name && fit_each parts texts
fit_each (Parameter ∷ parts) (text ∷ texts) = nat_lt 0 (length text) && fit_each parts texts

tail_of : (parts : List Part) → IsTail (tokens parts)
tail_of [] = tt
tail_of (Fixed text ∷ parts) = refl
tail_of (Parameter ∷ parts) = refl

-- a text fits where it is the first segment
text_fits : (text pattern path : List ℕ) → is_plain text ≡ true → IsTail pattern
    → fits (text ++ pattern) path ≡ (bytes_eq (before_first is_slash path) text && fits pattern (rest path))
text_fits [] pattern [] plain tail = refl
text_fits [] pattern (b ∷ path) plain tail = by (b == 47) refl
  where
    at_other : (pattern : List ℕ) → IsTail pattern → (b == 47) ≡ false → fits pattern (b ∷ path) ≡ false
    at_other [] tail is = refl
    at_other (x ∷ pattern) tail is = let other : (47 == b) ≡ false = grind (arith, nat_tests) in rw (tail, other) refl

    by : (v : Bool) → (b == 47) ≡ v → fits pattern (b ∷ path) ≡ (bytes_eq (before_first is_slash (b ∷ path)) [] && fits pattern (cond v (b ∷ path) (rest path)))
    by true is = rw (before_hit b path is) refl
    by false is = rw (before_miss b path is) (at_other pattern tail is)
text_fits (c ∷ text) pattern [] plain tail = refl
text_fits (c ∷ text) pattern (b ∷ path) plain tail =
    let parts = and_parts (not (c == 47) && not (c == 256)) (is_plain text) plain in
    let byte = and_parts (not (c == 47)) (not (c == 256)) parts.0 in
    let no_parameter : (c == 256) ≡ false = no (c == 256) byte.1 in
    rw no_parameter (by (b == 47) refl (no (c == 47) byte.0) (text_fits text pattern path parts.1 tail))
  where
    no : (v : Bool) → not v ≡ true → v ≡ false
    no true e = absurd cc
    no false e = refl

    same_byte : (v : Bool) (w f : Bool) → (v && (w && f)) ≡ ((v && w) && f)
    same_byte true w f = refl
    same_byte false w f = refl

    by : (v : Bool) → (b == 47) ≡ v → (c == 47) ≡ false → fits (text ++ pattern) path ≡ (bytes_eq (before_first is_slash path) text && fits pattern (rest path))
        → ((c == b) && fits (text ++ pattern) path) ≡ (bytes_eq (before_first is_slash (b ∷ path)) (c ∷ text) && fits pattern (cond v (b ∷ path) (rest path)))
    by true is other later = let differ : (c == b) ≡ false = grind (arith, nat_tests) in rw (before_hit b path is, differ) refl
    by false is other later =
        let turned : nat_eq b c ≡ (c == b) = grind (arith, nat_tests) in
        rw (before_miss b path is, turned, later) (same_byte (c == b) (bytes_eq (before_first is_slash path) text) (fits pattern (rest path)))

-- a path that is empty or begins with a slash
abbrev IsAnchored : List ℕ → Type 0
IsAnchored [] = ⊤
IsAnchored (b ∷ path) = (b == 47) ≡ true

rest_anchored : (path : List ℕ) → IsAnchored (rest path)
rest_anchored [] = tt
rest_anchored (b ∷ path) = by (b == 47) refl (rest_anchored path)
  where
    by : (v : Bool) → (b == 47) ≡ v → IsAnchored (rest path) → IsAnchored (cond v (b ∷ path) (rest path))
    by true is later = is
    by false is later = later

-- the tokens fit a path as the parts fit its segments
parts_fit : (parts : List Part) (path : List ℕ) → are_plain parts ≡ true → IsAnchored path → fits (tokens parts) path ≡ fit_each parts (segments path)
parts_fit [] [] plain anchored = refl
parts_fit [] (b ∷ path) plain anchored = rw (anchored, split_first path) refl
parts_fit (Fixed text ∷ parts) [] plain anchored = refl
parts_fit (Parameter ∷ parts) [] plain anchored = refl
parts_fit (Fixed text ∷ parts) (b ∷ path) plain anchored =
    let two = and_parts (is_plain text) (are_plain parts) plain in
    let head : (47 == b) ≡ true = grind (arith, nat_tests) in
    rw (head, anchored, split_first path, text_fits text (tokens parts) path two.0 (tail_of parts), parts_fit parts (rest path) two.1 (rest_anchored path)) refl
parts_fit (Parameter ∷ parts) (b ∷ path) plain anchored =
    let head : (47 == b) ≡ true = grind (arith, nat_tests) in
    rw (head, anchored, split_first path) (behind path (parts_fit parts (rest path) plain (rest_anchored path)))
  where
    by : (c : ℕ) (path : List ℕ) (v : Bool) → (c == 47) ≡ v → fits (tokens parts) (cond v (c ∷ path) (rest path)) ≡ fit_each parts (segments (cond v (c ∷ path) (rest path)))
        → (not v && fits (tokens parts) (rest path)) ≡ (nat_lt 0 (length (before_first is_slash (c ∷ path))) && fit_each parts (segments (cond v (c ∷ path) (rest path))))
    by c path true is later = rw (before_hit c path is) refl
    by c path false is later =
        let some : nat_lt 0 (suc (length (before_first is_slash path))) ≡ true = grind (arith, nat_tests) in
        rw (before_miss c path is, some) later

    behind : (path : List ℕ) → fits (tokens parts) (rest path) ≡ fit_each parts (segments (rest path))
        → fits (256 ∷ tokens parts) path ≡ (nat_lt 0 (length (before_first is_slash path)) && fit_each parts (segments (rest path)))
    behind [] later = refl
    behind (c ∷ path) later = by c path (c == 47) refl later

-- ---- a row's route

-- the route with what stands for the number of each segment
abbrev pub given : (parts : List Part) → ℕ → Awaiting parts → (ℕ → List ℕ) → Route
given [] number route text = route
given (Fixed name ∷ parts) number route text = given parts (suc number) route text
given (Parameter ∷ parts) number route text = given parts (suc number) (route (text number)) text

matched_given : (parts : List Part) (number : ℕ) (route : Awaiting parts) (text : ℕ → List ℕ) (texts : List (List ℕ))
    → ((k : ℕ) → text (k + number) ≡ get_or texts k [])
    → matched parts route texts ≡ cond (fit_each parts texts) (Some (given parts number route text)) None
matched_given [] number route text [] same = refl
matched_given [] number route text (first ∷ others) same = refl
matched_given (Fixed name ∷ parts) number route text [] same = refl
matched_given (Parameter ∷ parts) number route text [] same = refl
matched_given (Fixed name ∷ parts) number route text (first ∷ others) same =
    by (bytes_eq first name) (matched_given parts (suc number) route text others (λ k. let moved : k + suc number ≡ suc k + number = omega arith in rw moved (same (suc k))))
  where
    by : (v : Bool) → matched parts route others ≡ cond (fit_each parts others) (Some (given parts (suc number) route text)) None
        → cond v (matched parts route others) None ≡ cond (v && fit_each parts others) (Some (given parts (suc number) route text)) None
    by true later = later
    by false later = refl
matched_given (Parameter ∷ parts) number route text (first ∷ others) same =
    let none : 0 + number ≡ number = omega arith in
    let here : text number ≡ first = ap text (sym none) ∙ same 0 in
    rw here (by (nat_lt 0 (length first)) (matched_given parts (suc number) (route first) text others (λ k. let moved : k + suc number ≡ suc k + number = omega arith in rw moved (same (suc k)))))
  where
    by : (v : Bool) → matched parts (route first) others ≡ cond (fit_each parts others) (Some (given parts (suc number) (route first) text)) None
        → cond v (matched parts (route first) others) None ≡ cond (v && fit_each parts others) (Some (given parts (suc number) (route first) text)) None
    by true later = later
    by false later = refl

-- the texts of a path by their numbers
abbrev pub text_in : List ℕ → ℕ → List ℕ
text_in path number = segment number path

-- what a row finds on a path
abbrev pub Found : Type 0
Found = List ℕ × ((ℕ → List ℕ) → Route)

abbrev pub found_by : Row → Found
found_by row = (tokens row.parts, given row.parts 0 row.route)

abbrev pub first_found : List Found → List ℕ → Option Route
first_found [] path = None
first_found ((pattern, route) ∷ others) path = cond (fits pattern path) (Some (route (text_in path))) (first_found others path)

-- some part, and each fixed one a segment
abbrev pub is_good : List Part → Bool
is_good [] = false
is_good (part ∷ parts) = are_plain (part ∷ parts)

row_found : (parts : List Part) (route : Awaiting parts) (path : List ℕ) → is_good parts ≡ true
    → matched parts route (segments path) ≡ cond (fits (tokens parts) path) (Some (given parts 0 route (text_in path))) None
row_found [] route path good = absurd cc
row_found (Fixed name ∷ parts) route [] good = refl
row_found (Parameter ∷ parts) route [] good = refl
row_found (part ∷ parts) route (b ∷ path) good = by (b == 47) refl
  where
    nowhere : (part : Part) (parts : List Part) (route : Awaiting (part ∷ parts)) → (b == 47) ≡ false
        → matched (part ∷ parts) route [] ≡ cond (fits (tokens (part ∷ parts)) (b ∷ path)) (Some (given (part ∷ parts) 0 route (text_in (b ∷ path)))) None
    nowhere (Fixed name) parts route is = let other : (47 == b) ≡ false = grind (arith, nat_tests) in rw other refl
    nowhere Parameter parts route is = let other : (47 == b) ≡ false = grind (arith, nat_tests) in rw other refl

    by : (v : Bool) → (b == 47) ≡ v
        → matched (part ∷ parts) route (cond v (slice_split is_slash path) []) ≡ cond (fits (tokens (part ∷ parts)) (b ∷ path)) (Some (given (part ∷ parts) 0 route (text_in (b ∷ path)))) None
    by true is =
        let split : segments (b ∷ path) ≡ slice_split is_slash path = rw is refl in
        let fit : fits (tokens (part ∷ parts)) (b ∷ path) ≡ fit_each (part ∷ parts) (slice_split is_slash path) =
        parts_fit (part ∷ parts) (b ∷ path) good is ∙ ap (fit_each (part ∷ parts)) split in
        rw fit (matched_given (part ∷ parts) 0 route (text_in (b ∷ path)) (slice_split is_slash path)
        (λ k. let none : k + 0 ≡ k = omega arith in rw (none, after_hit b path is) (segment_is k path)))
    by false is = nowhere part parts route is

-- ---- the rows of a method

route_in_is : (all : List Row) (method path : List ℕ) → list_all (λ row. is_good row.parts) all ≡ true
    → route_in all method path ≡ first_found (map found_by (filter (λ row. bytes_eq method row.method) all)) path
route_in_is [] method path good = refl
route_in_is (row ∷ all) method path good =
    let two = and_parts (is_good row.parts) (list_all (λ row. is_good row.parts) all) good in
    rw (row_found row.parts row.route path two.0)
    (by (bytes_eq method row.method) (route_in_is all method path two.1))
  where
    either : (v : Bool) (found : Route) (later : Option Route) → option_or (cond v (Some found) None) later ≡ cond v (Some found) later
    either true found later = refl
    either false found later = refl

    by : (same : Bool) → route_in all method path ≡ first_found (map found_by (filter (λ row. bytes_eq method row.method) all)) path
        → option_or (cond same (cond (fits (tokens row.parts) path) (Some (given row.parts 0 row.route (text_in path))) None) None) (route_in all method path)
        ≡ first_found (map found_by (cond same (row ∷ filter (λ row. bytes_eq method row.method) all) (filter (λ row. bytes_eq method row.method) all))) path
    by true later = rw later (either (fits (tokens row.parts) path) (given row.parts 0 row.route (text_in path)) (first_found (map found_by (filter (λ row. bytes_eq method row.method) all)) path))
    by false later = later

-- ---- a router's rows

-- a row as it stands in a router
abbrev entry_of : Result Scan InsertError → Placed → List ℕ × RouteOf Placed
entry_of (Ok scan) route = (scan.pattern, route_from scan route)
entry_of (Err e) route = ([], record { pattern = []; text = []; names = []; value = route })

abbrev entry : List ℕ × Placed → List ℕ × RouteOf Placed
entry row = entry_of (parse_route row.0) row.1

abbrev is_read : Result Scan InsertError → Bool
is_read (Ok scan) = true
is_read (Err e) = false

abbrev found_entry : List ℕ × Placed → Found
found_entry row = ((entry row).0, filled row.1)

entry_value : (read : Result Scan InsertError) (route : Placed) → (entry_of read route).1.value ≡ route
entry_value (Ok scan) route = refl
entry_value (Err e) route = refl

placed_one : (read : Result Scan InsertError) (route : Placed) (known : Rows) → is_read read ≡ true → with_scan read route known ≡ placed (entry_of read route) known
placed_one (Ok scan) route known e = refl
placed_one (Err e) route known read = absurd cc

placed_all : (known : Rows) (table : List (List ℕ × Placed)) → list_all (λ row. is_read (parse_route row.0)) table ≡ true → rows_from known table ≡ placed_in_turn known (map entry table)
unfolding rows_from
placed_all known [] read = refl
placed_all known (row ∷ table) read =
    let two = and_parts (is_read (parse_route row.0)) (list_all (λ row. is_read (parse_route row.0)) table) read in
    rw (placed_one (parse_route row.0) row.1 known two.0) (placed_all (placed (entry row) known) table two.1)

fitting_found : (table : List (List ℕ × Placed)) (path : List ℕ)
    → option_map (λ route. filled route (text_in path)) (map_key (λ route. route.value) (fitting (map entry table) path)) ≡ first_found (map found_entry table) path
fitting_found [] path = refl
fitting_found (row ∷ table) path = by (fits (entry row).0 path) (fitting_found table path)
  where
    by : (v : Bool) → option_map (λ route. filled route (text_in path)) (map_key (λ route. route.value) (fitting (map entry table) path)) ≡ first_found (map found_entry table) path
        → option_map (λ route. filled route (text_in path)) (map_key (λ route. route.value) (cond v (Some (entry row).1) (fitting (map entry table) path)))
        ≡ cond v (Some (filled row.1 (text_in path))) (first_found (map found_entry table) path)
    by true later = rw (entry_value (parse_route row.0) row.1) refl
    by false later = later

abbrev is_tail : List ℕ → Bool
is_tail [] = true
is_tail (x ∷ pattern) = x == 47

abbrev is_whole : List ℕ → Bool
is_whole [] = true
is_whole (x ∷ pattern) = not (x == 257) && ((not (x == 256) || is_tail pattern) && is_whole pattern)

whole_of : (pattern : List ℕ) → is_whole pattern ≡ true → IsWhole pattern
whole_of [] e = tt
whole_of (x ∷ pattern) e =
    let two = and_parts (not (x == 257)) ((not (x == 256) || is_tail pattern) && is_whole pattern) e in
    let three = and_parts (not (x == 256) || is_tail pattern) (is_whole pattern) two.1 in
    (catch_all two.0, parameter three.0, whole_of pattern three.1)
  where
    tail : (pattern : List ℕ) → is_tail pattern ≡ true → IsTail pattern
    tail [] e = tt
    tail (x ∷ pattern) e = grind (arith, nat_tests)

    catch_all : not (x == 257) ≡ true → x ≢ 257
    catch_all other is = let same : (x == 257) ≡ true = grind (arith, nat_tests) in let wrong : not true ≡ true = subst (λ (v : Bool). not v ≡ true) same other in absurd cc

    parameter : (not (x == 256) || is_tail pattern) ≡ true → x ≡ 256 → IsTail pattern
    parameter either is = let same : (x == 256) ≡ true = grind (arith, nat_tests) in tail pattern (subst (λ (v : Bool). (not v || is_tail pattern) ≡ true) same either)

all_whole : (table : RowsOf (RouteOf Placed)) → list_all (λ row. is_whole row.0) table ≡ true → AllWhole table
all_whole [] e pattern key there = elim there [ ]
all_whole (row ∷ table) e pattern key (inl same) = subst IsWhole same.0 (whole_of row.0 (and_parts (is_whole row.0) (list_all (λ row. is_whole row.0) table) e).0)
all_whole (row ∷ table) e pattern key (inr later) = all_whole table (and_parts (is_whole row.0) (list_all (λ row. is_whole row.0) table) e).1 pattern key later

-- paths and their routes are those of the rows with a method; each path reads, its parameters are whole segments, and no
-- two of them fit one path
pub record IsTableFor (method : List ℕ) (table : List (List ℕ × Placed)) : Type 0 where
  pub same : map found_by (filter (λ row. bytes_eq method row.method) rows) ≡ map found_entry table
  pub read : list_all (λ row. is_read (parse_route row.0)) table ≡ true
  pub whole : list_all (λ row. is_whole row.0) (map entry table) ≡ true
  pub apart : are_all_apart (map entry table) ≡ true

all_good : list_all (λ row. is_good row.parts) rows ≡ true
unfolding rows
all_good = refl

-- the router of such paths finds, on every path, what the table has
pub finds_for : (method : List ℕ) (table : List (List ℕ × Placed)) (router : Rows) → IsTableFor method table → router ≡ rows_from [] table → FindsFor method router
finds_for method table router is made path =
    ap (λ (all : Rows). option_map (λ route. filled route (text_in path)) (found all path)) (made ∙ placed_all [] table is.read)
    ∙ (ap (λ (row : Option (RouteOf Placed)). option_map (λ route. filled route (text_in path)) (map_key (λ route. route.value) row)) (first_fits (map entry table) path (all_whole (map entry table) is.whole) is.apart)
    ∙ (fitting_found table path ∙ (ap (λ (all : List Found). first_found all path) (sym is.same) ∙ sym (route_in_is rows method path all_good))))

-- ---- the loop that makes a router

-- one more row
pub rows_step : (table : List (Bor (List ℕ) × Placed)) (i : ℕ) (d : Bor (List ℕ) × Placed) (old new all : Rows) → i < length table
    → new ≡ with_row old (row_of (get_or table i d)) → rows_from old (drop i (map row_of table)) ≡ all
    → rows_from new (drop (i + 1) (map row_of table)) ≡ all
unfolding rows_from
rows_step table i d old new all within added so_far =
    let inside : i < length (map row_of table) = omega (arith, within, length-map table row_of) in
    let here : get_or (map row_of table) i (row_of d) ≡ row_of (get_or table i d) = get_or-map row_of table i d (row_of d) within in
    let split : drop i (map row_of table) ≡ row_of (get_or table i d) ∷ drop (i + 1) (map row_of table) =
    rw (add-one) (drop-cons (map row_of table) i (row_of d) inside ∙ ap (λ (x : List ℕ × Placed). x ∷ drop (suc i) (map row_of table)) here) in
    ap (λ (t : Rows). rows_from t (drop (i + 1) (map row_of table))) added ∙ (sym (ap (rows_from old) split) ∙ so_far)

-- no more rows
pub rows_end : (table : List (Bor (List ℕ) × Placed)) (i : ℕ) (router all : Rows) → length table ≤ i → rows_from router (drop i (map row_of table)) ≡ all → router ≡ all
unfolding rows_from
rows_end table i router all past so_far =
    sym (at_drop_all (rows_from router) (map row_of table) i (omega (arith, past, length-map table row_of))) ∙ so_far
