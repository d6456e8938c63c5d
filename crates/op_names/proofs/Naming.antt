-- What the texts of addresses and rows name.
use Rattle.std.proofs.Common.{◌≡◌, ◌+◌, ◌<◌, ◌≤◌, ◌==◌, ℕ, List, [], ◌∷◌, false, length, take, drop, get_or, Option, Some, None, Result, refl, ap, ◌∙◌, subst, arith, rules, tests}
use Rattle.std.specs.List.{slice_get, position_or_len}
use Rattle.std.specs.Str.{IsUtf8}
use Rattle.std.proofs.lemmas.Str.{lead_after_ascii}
use Rattle.op_names.specs.Forms.{is_slash, is_origin, scheme_length, origin_length}
use Rattle.op_names.specs.Names.{text_if, address_at, address_in, address_in_url, address_in_pointer, portless_at, pointer_origin, pointer_path, row_id, row_in}
use Rattle.op_names.specs.Readers.{Reads}
use Rattle.op_names.specs.declared.AddressName.{AddressName}
use Rattle.op_names.specs.declared.Kind.{Kind}
use Rattle.op_names.specs.declared.Id.{Id}
use Rattle.op_names.specs.declared.NameFault.{NameFault}
use Rattle.op_names.proofs.Reading.{no_row, a_row}

-- ---- the two parts of a web address

pub origin_cut : (text bytes part : List ℕ) (start : ℕ) → bytes ≡ text → start ≡ scheme_length bytes → part ≡ take (start + position_or_len is_slash (drop start text)) text
    → part ≡ take (origin_length text) text
origin_cut text bytes part start same from is =
    let here : start ≡ scheme_length text = from ∙ ap (λ t. scheme_length t) same in
    is ∙ ap (λ n. take (n + position_or_len is_slash (drop n text)) text) here

pub path_cut : (text bytes part : List ℕ) (start : ℕ) → bytes ≡ text → start ≡ scheme_length bytes → part ≡ drop (start + position_or_len is_slash (drop start text)) text
    → part ≡ drop (origin_length text) text
path_cut text bytes part start same from is =
    let here : start ≡ scheme_length text = from ∙ ap (λ t. scheme_length t) same in
    is ∙ ap (λ n. drop (n + position_or_len is_slash (drop n text)) text) here

-- ---- addresses

first_is : (text : List ℕ) (first : ℕ) → Some first ≡ slice_get text 0 → (1 ≤ length text) × (get_or text 0 0 ≡ first)
first_is [] first h = (absurd (cc h), cc h)
first_is (x ∷ xs) first h = (omega arith, cc h)

-- behind an ASCII byte a text may be cut
pub behind_first : (text bytes : List ℕ) (first : ℕ) → IsUtf8 text → bytes ≡ text → Some first ≡ slice_get bytes 0 → first ≡ 36
    → (1 ≤ length text) × (1 < length text → 128 ≤ get_or text 1 0 → 192 ≤ get_or text 1 0)
behind_first text bytes first utf8 same got dollar =
    let is = first_is text first (got ∙ ap (λ t. slice_get t 0) same) in
    (is.0, λ inside high. lead_after_ascii text 0 utf8 (omega (arith, is.1, dollar)) inside high)

pub url_named : (text : List ℕ) (first : ℕ) → Some first ≡ slice_get text 0 → (first ≡ 36 → ⊥) → address_in text ≡ address_in_url text
url_named [] first h other = cc
url_named (x ∷ xs) first h other =
    let same : x ≡ first = cc h in
    let test : (x == 36) ≡ false = search (rules, tests) in
    rw test refl

pub reads_url : (text bytes origin path : List ℕ) (first : ℕ) (r : Result AddressName NameFault) → bytes ≡ text → Some first ≡ slice_get bytes 0
    → (first ≡ 36 → ⊥) → origin ≡ take (origin_length text) text → path ≡ drop (origin_length text) text → Reads (address_at origin path) r → Reads (address_in text) r
reads_url text bytes origin path first r same got other o p h =
    rw (url_named text first (got ∙ ap (λ t. slice_get t 0) same) other, ← o, ← p) h

pub reads_pointer : (pointer origin path : List ℕ) (r : Result AddressName NameFault) → origin ≡ pointer_origin (take (position_or_len is_slash pointer) pointer)
    → path ≡ pointer_path (drop (position_or_len is_slash pointer) pointer) → Reads (portless_at origin path) r → Reads (address_in_pointer pointer) r
reads_pointer pointer origin path r o p h =
    let same : portless_at origin path ≡ address_in_pointer pointer = ap (λ t. portless_at t path) o ∙ ap (λ t. portless_at (pointer_origin (take (position_or_len is_slash pointer) pointer)) t) p in
    subst (λ (meant : Option AddressName). Reads meant r) same h

-- ---- rows

pub row_refused : (kind : Kind) (text origin path : List ℕ) → path ≡ drop (origin_length text) text → None ≡ row_id kind path → row_in kind text ≡ None
row_refused kind text origin path p none = rw (← p, ← none) refl

pub row_elsewhere : (kind : Kind) (text origin path : List ℕ) (id : Id) → origin ≡ take (origin_length text) text → path ≡ drop (origin_length text) text
    → Some id ≡ row_id kind path → text_if is_origin origin ≡ None → row_in kind text ≡ None
row_elsewhere kind text origin path id o p some none = rw (← o, ← p, ← some) (no_row origin id none)

pub row_read : (kind : Kind) (text origin path read : List ℕ) (id : Id) → origin ≡ take (origin_length text) text → path ≡ drop (origin_length text) text
    → Some id ≡ row_id kind path → text_if is_origin origin ≡ Some read → row_in kind text ≡ Some (record { origin = read; id = id })
row_read kind text origin path read id o p some is = rw (← o, ← p, ← some) (a_row origin read id is)
