-- What is printed of addresses and rows is read again.
use Rattle.std.proofs.Common.{◌≡◌, ◌⊎◌, ◌+◌, ◌==◌, ℕ, List, [], ◌∷◌, ◌++◌, Bool, true, false, not, ◌&&◌, cond, nat_eq, length, take, drop, codes, Some, refl, sym, ap, ◌∙◌, arith, append_assoc, subst, inl, inr, eqb, eqb-true, eq-eqb, nat_le, option_and_then}
use Rattle.std.specs.List.{slice_get, position_or_len, starts_with}
use Rattle.std.proofs.lemmas.List.Folds.{prefix_len-append}
use Rattle.op_names.specs.Forms.{is_slash, is_origin, is_web, is_word, is_path, are_segments, origin_length}
use Rattle.op_names.specs.Ids.{id_in, id_text, kind_number}
use Rattle.op_names.specs.Names.{address_at, address_in, row_at, row_id, row_in, row_folder, id_behind, of_kind}
use Rattle.op_names.specs.declared.Kind.{Kind}
use Rattle.op_names.specs.declared.Kind.TheVariants.{Incoming, Quote, Outgoing, Grant, Event, Address}
use Rattle.op_names.specs.declared.Id.{Id}
use Rattle.op_names.proofs.Choices.{both, either, picked, front_of, begins_with}
use Rattle.op_names.proofs.Naming.{url_named}
use Rattle.op_names.proofs.Rooms.{take_front, drop_front}

-- ---- where an origin ends

last_or_same : (b : Bool) (x y : ℕ) → x ≡ y → cond b x y ≡ y
last_or_same true x y h = h
last_or_same false x y h = refl

-- a text without a slash, and one behind it
no_slash : (rest tail : List ℕ) → position_or_len is_slash rest ≡ length rest → position_or_len is_slash (rest ++ 47 ∷ tail) ≡ length rest
no_slash rest tail h =
    prefix_len-append (λ b. not (is_slash b)) rest (47 ∷ tail)
    ∙ last_or_same (eqb (position_or_len is_slash rest) (length rest)) (length rest + position_or_len is_slash (47 ∷ tail)) (position_or_len is_slash rest) (omega (arith, h)) ∙ h

secure_end : (rest tail : List ℕ) → origin_length (codes "https://" ++ rest) ≡ length (codes "https://" ++ rest)
    → origin_length ((codes "https://" ++ rest) ++ 47 ∷ tail) ≡ length (codes "https://" ++ rest)
secure_end rest tail h =
    let bare : position_or_len is_slash rest ≡ length rest = omega (arith, h) in
    omega (arith, no_slash rest tail bare)

plain_end : (rest tail : List ℕ) → origin_length (codes "http://" ++ rest) ≡ length (codes "http://" ++ rest)
    → origin_length ((codes "http://" ++ rest) ++ 47 ∷ tail) ≡ length (codes "http://" ++ rest)
plain_end rest tail h =
    let bare : position_or_len is_slash rest ≡ length rest = omega (arith, h) in
    omega (arith, no_slash rest tail bare)

web_front : (text : List ℕ) → is_web text ≡ true → (text ≡ codes "https://" ++ drop 8 text) ⊎ (text ≡ codes "http://" ++ drop 7 text)
web_front text h =
    elim (either (starts_with nat_eq text (codes "https://")) (starts_with nat_eq text (codes "http://")) h) [
      | inl secure ↦ inl (front_of text (codes "https://") secure)
      | inr plain ↦ inr (front_of text (codes "http://") plain)
    ]

-- what is known of an origin
web_of : (origin : List ℕ) → is_origin origin ≡ true → is_web origin ≡ true
web_of origin h = (both (is_word 200 origin) (is_web origin) (both (is_word 200 origin && is_web origin) _ h).0).1

nothing_behind : (origin : List ℕ) → is_origin origin ≡ true → origin_length origin ≡ length origin
nothing_behind origin h =
    eqb-true (origin_length origin) (length origin) (both (origin_length origin == length origin) _ (both (is_word 200 origin && is_web origin) _ h).1).0

pub ends_there : (origin tail : List ℕ) → is_origin origin ≡ true → origin_length (origin ++ 47 ∷ tail) ≡ length origin
ends_there origin tail h =
    let bare = nothing_behind origin h in
    let Ends : List ℕ → Type 0 = λ text. origin_length text ≡ length text → origin_length (text ++ 47 ∷ tail) ≡ length text in
    elim (web_front origin (web_of origin h)) [
      | inl secure ↦ subst Ends (sym secure) (secure_end (drop 8 origin) tail) bare
      | inr plain ↦ subst Ends (sym plain) (plain_end (drop 7 origin) tail) bare
    ]

-- the two parts of an origin and a path behind it
origin_taken : (origin path : List ℕ) → is_origin origin ≡ true → path ≡ 47 ∷ drop 1 path → take (origin_length (origin ++ path)) (origin ++ path) ≡ origin
origin_taken origin path h slash =
    let end : origin_length (origin ++ path) ≡ length origin = ap (λ t. origin_length (origin ++ t)) slash ∙ ends_there origin (drop 1 path) h in
    take_front origin path (origin_length (origin ++ path)) end

path_left : (origin path : List ℕ) → is_origin origin ≡ true → path ≡ 47 ∷ drop 1 path → drop (origin_length (origin ++ path)) (origin ++ path) ≡ path
path_left origin path h slash =
    let end : origin_length (origin ++ path) ≡ length origin = ap (λ t. origin_length (origin ++ t)) slash ∙ ends_there origin (drop 1 path) h in
    drop_front origin path (origin_length (origin ++ path)) end

-- ---- addresses

starts_at : (origin path : List ℕ) → is_origin origin ≡ true → Some 104 ≡ slice_get (origin ++ path) 0
starts_at origin path h =
    let Starts : List ℕ → Type 0 = λ text. Some 104 ≡ slice_get (text ++ path) 0 in
    elim (web_front origin (web_of origin h)) [
      | inl secure ↦ subst Starts (sym secure) refl
      | inr plain ↦ subst Starts (sym plain) refl
    ]

path_slash : (path : List ℕ) → is_path path ≡ true → path ≡ 47 ∷ drop 1 path
path_slash path h =
    front_of path (codes "/") (both _ (starts_with nat_eq path (codes "/")) (both (nat_le (length path) 128 && starts_with nat_eq path (codes "/")) (are_segments (drop 1 path)) h).0).1

pub address_read : (origin path : List ℕ) → is_origin origin ≡ true → is_path path ≡ true → address_in (origin ++ path) ≡ Some (record { origin = origin; path = path })
address_read origin path o p =
    let slash = path_slash path p in
    url_named (origin ++ path) 104 (starts_at origin path o) (λ e. absurd (omega arith))
    ∙ ap (λ t. address_at t (drop (origin_length (origin ++ path)) (origin ++ path))) (origin_taken origin path o slash)
    ∙ ap (λ t. address_at origin t) (path_left origin path o slash)
    ∙ picked (is_path path) (is_origin origin) (record { origin = origin; path = path }) p o

-- ---- rows

slash_front : (front rest : List ℕ) → front ≡ 47 ∷ drop 1 front → front ++ rest ≡ 47 ∷ drop 1 (front ++ rest)
slash_front [] rest h = cc h
slash_front (b ∷ front) rest h = let same : b ≡ 47 = cc h in rw same refl

folder_slash : (kind : Kind) (folder : List ℕ) → row_folder kind ≡ Some folder → folder ≡ 47 ∷ drop 1 folder
folder_slash Incoming folder h = let same : codes "/incoming-payments/" ≡ folder = cc h in rw (← same) refl
folder_slash Quote folder h = let same : codes "/quotes/" ≡ folder = cc h in rw (← same) refl
folder_slash Outgoing folder h = let same : codes "/outgoing-payments/" ≡ folder = cc h in rw (← same) refl
folder_slash Grant folder h = cc h
folder_slash Event folder h = cc h
folder_slash Address folder h = cc h

kind_kept : (id : Id) → of_kind id.kind id ≡ Some id
kind_kept id = rw (eq-eqb (kind_number id.kind) (kind_number id.kind) refl) refl

id_read : (id : Id) (folder : List ℕ) → row_folder id.kind ≡ Some folder → id_in (id_text id) ≡ Some id → row_id id.kind (folder ++ id_text id) ≡ Some id
id_read id folder is read =
    let path = folder ++ id_text id in
    let behind : id_in (drop (length folder) path) ≡ Some id = ap (λ t. id_in t) (drop_front folder (id_text id) (length folder) refl) ∙ read in
    ap (option_and_then (id_behind id.kind path)) is ∙ rw (begins_with folder (id_text id), behind) (kind_kept id)

pub row_read_back : (origin folder : List ℕ) (id : Id) → is_origin origin ≡ true → row_folder id.kind ≡ Some folder → id_in (id_text id) ≡ Some id
    → row_in id.kind ((origin ++ folder) ++ id_text id) ≡ Some (record { origin = origin; id = id })
row_read_back origin folder id o is read =
    let path = folder ++ id_text id in
    let slash : path ≡ 47 ∷ drop 1 path = slash_front folder (id_text id) (folder_slash id.kind folder is) in
    ap (λ t. row_in id.kind t) (append_assoc origin folder (id_text id))
    ∙ ap (λ t. row_at t (row_id id.kind (drop (origin_length (origin ++ path)) (origin ++ path)))) (origin_taken origin path o slash)
    ∙ ap (λ t. row_at origin (row_id id.kind t)) (path_left origin path o slash)
    ∙ ap (λ t. row_at origin t) (id_read id folder is read)
    ∙ rw o refl
