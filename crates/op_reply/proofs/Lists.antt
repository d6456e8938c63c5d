-- Lists of values.
use Rattle.std.proofs.Common.{◌≡◌, ◌<◌, ◌+◌, ℕ, List, [], ◌∷◌, ◌++◌, length, map, take, get_or, false, Some, None, refl, ap, ◌∙◌, sym, ◌-◌, arith, option_map, slice_get, is_some}
use Rattle.std.proofs.lemmas.List.{length-map}
use Rattle.std.proofs.lemmas.Bool.{false≢true}
use Rattle.std.specs.List.{last_or}
use Rattle.std.proofs.lemmas.Option.{slice_get-map}
use Rattle.op_model.specs.History.{last}
use Rattle.std.specs.Prelude.{filter_map}
use Rattle.std.specs.Option.{option_to_list}
use Rattle.std.specs.declared.option.Option.{Option}
use Rattle.std.specs.List.{cons_option}
use Rattle.std.proofs.lemmas.List.{take_more}
use Rattle.std.proofs.lemmas.List.Elements.{filter_map-append}
use Rattle.std.proofs.lemmas.Bool.{or_from, or_parts}
use Rattle.serde_json.specs.Data.{Data, item}
use Rattle.serde_json.specs.View.{items_of}
use Rattle.serde_json.specs.Written.{has_float, items_have_float}
use Rattle.op_model.specs.Bodies.{items}

pub map_last : {X Y : Type 0} (f : X → Y) (xs : List X) (x : X) → map f (xs ++ x ∷ []) ≡ map f xs ++ f x ∷ []
map_last f [] x = refl
map_last f (y ∷ ys) x = ap (λ more. f y ∷ more) (map_last f ys x)

pub same_items : (values : List Data) → items_of values ≡ items values
same_items [] = refl
same_items (d ∷ ds) = ap (item d) (same_items ds)

-- no float is put behind
pub plain_last : (values : List Data) (d : Data) → items_have_float (items_of values) ≡ false → has_float d ≡ false
    → items_have_float (items_of (values ++ d ∷ [])) ≡ false
plain_last [] d plain last = or_from _ _ last refl
plain_last (e ∷ es) d plain last =
    let parts = or_parts (has_float e) (items_have_float (items_of es)) plain in
    or_from _ _ parts.0 (plain_last es d parts.1 last)

one : {Y : Type 0} (o : Option Y) → cons_option o [] ≡ option_to_list o
one None = refl
one (Some y) = refl

-- one turn of a loop that keeps what a test finds
pub filtered_next : {X Y : Type 0} (f : X → Option Y) (xs : List X) (i : ℕ) (d : X) → i < length xs
    → filter_map f (take (i + 1) xs) ≡ filter_map f (take i xs) ++ option_to_list (f (get_or xs i d))
filtered_next f xs i d under =
    ap (filter_map f) (take_more xs i d under) ∙ filter_map-append f (take i xs) (get_or xs i d ∷ []) ∙ ap (λ more. filter_map f (take i xs) ++ more) (one (f (get_or xs i d)))

-- one turn of a loop that shows each element
pub mapped_next : {X Y : Type 0} (f : X → Y) (xs : List X) (i : ℕ) (d : X) → i < length xs
    → map f (take (i + 1) xs) ≡ map f (take i xs) ++ f (get_or xs i d) ∷ []
mapped_next f xs i d under = ap (map f) (take_more xs i d under) ∙ map_last f (take i xs) (get_or xs i d)

-- the last element stands at the last place
last_by_place : {X : Type 0} (o : Option X) (x : X) (xs : List X) → last_or o (x ∷ xs) ≡ slice_get (x ∷ xs) (length xs)
last_by_place o x [] = refl
last_by_place o x (y ∷ ys) = last_by_place (Some x) y ys

pub last_shown : {X : Type 0} (f : X → ℕ) (xs : List X) (x : X) → Some x ≡ slice_get xs (length xs - 1) → Some (f x) ≡ last (map f xs)
last_shown f [] x is = absurd (false≢true (ap is_some (sym is)))
last_shown f (y ∷ ys) x is =
    let place : length (y ∷ ys) - 1 ≡ length ys = omega arith in
    ap (option_map f) (is ∙ ap (slice_get (y ∷ ys)) place) ∙ sym (slice_get-map f (y ∷ ys) (length ys))
    ∙ ap (slice_get (map f (y ∷ ys))) (sym (length-map ys f)) ∙ sym (last_by_place None (f y) (map f ys))
