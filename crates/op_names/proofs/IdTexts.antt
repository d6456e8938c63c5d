-- The text of an identifier, and what is read of it.
use Rattle.std.proofs.Common.{◌≡◌, ℕ, ◌-◌, ◌^◌, ◌<◌, true, List, ◌++◌, length, map, take, drop, replicate, codes, Option, Some, None, IfSome, refl, sym, ap, ◌∙◌, lit<, lit≤, arith, append_assoc, length-append, rules, tests}
use Rattle.std.specs.Char.{to_ascii_lowercase}
use Rattle.std.specs.Int.{to_be_bytes, w64}
use Rattle.std.specs.Str.{bytes_eq, str_to_ascii_lowercase}
use Rattle.std.specs.Str.Parse.{digits_value}
use Rattle.std.proofs.lemmas.List.{map-append, drop-map}
use Rattle.std.proofs.lemmas.Nat.{from_be_bytes-to_be_bytes_8}
use Rattle.std.proofs.lemmas.Option.{option_and_then_some}
use Rattle.std.proofs.lemmas.Slice.Eq.{bytes_eq-Decides}
use Rattle.hex.specs.Hex.{encode_lower, encode_with}
use Rattle.op_names.specs.Ids.{hex_of, id_text, id_in, id_in_lower, id_if, id_of_kind, kind_number, kind_in, has_id_number}
use Rattle.op_names.specs.declared.Kind.{Kind}
use Rattle.op_names.specs.declared.Kind.TheVariants.{Incoming, Quote, Outgoing, Grant, Event, Address}
use Rattle.op_names.specs.declared.Id.{Id}
use Rattle.op_names.proofs.Digits.{length-hex_of, filled_12, digits_value-encode_lower, number_behind, IsBytes-to_be_bytes, lowercase-encode_lower}
use Rattle.op_names.proofs.Choices.{chosen, same_bytes}
use Rattle.op_names.proofs.Rooms.{take_front, drop_front}

-- ---- its parts

apart : (a m d : List ℕ) → (a ++ m) ++ d ≡ a ++ (m ++ d)
apart a m d = append_assoc a m d

kind_part : (id : Id) → take 8 (id_text id) ≡ hex_of 8 (kind_number id.kind)
kind_part id =
    let kind = hex_of 8 (kind_number id.kind) in
    let size : 8 ≡ length kind = sym (length-hex_of 8 (kind_number id.kind) (lit≤ tt)) in
    rw apart (take_front kind (codes "-0000-8000-8000-" ++ hex_of 12 id.number) 8 size)

number_part : (id : Id) → drop 24 (id_text id) ≡ hex_of 12 id.number
number_part id =
    let head : List ℕ = hex_of 8 (kind_number id.kind) ++ codes "-0000-8000-8000-" in
    let size : 24 ≡ length head =
    omega (arith, length-append (hex_of 8 (kind_number id.kind)) (codes "-0000-8000-8000-"), length-hex_of 8 (kind_number id.kind) (lit≤ tt)) in
    drop_front head (hex_of 12 id.number) 24 size

pub kind_small : (kind : Kind) → kind_number kind < 256
kind_small Incoming = lit< tt
kind_small Quote = lit< tt
kind_small Outgoing = lit< tt
kind_small Grant = lit< tt
kind_small Event = lit< tt
kind_small Address = lit< tt

pub kind_in-kind_number : (kind : Kind) → kind_in (kind_number kind) ≡ Some kind
kind_in-kind_number Incoming = refl
kind_in-kind_number Quote = refl
kind_in-kind_number Outgoing = refl
kind_in-kind_number Grant = refl
kind_in-kind_number Event = refl
kind_in-kind_number Address = refl

-- ---- reading

value_of_kind : (kind : Kind) → digits_value 16 (hex_of 8 (kind_number kind)) ≡ kind_number kind
unfolding hex_of encode_with
value_of_kind Incoming = refl
value_of_kind Quote = refl
value_of_kind Outgoing = refl
value_of_kind Grant = refl
value_of_kind Event = refl
value_of_kind Address = refl

zeros_before : (digits : List ℕ) → digits_value 16 (replicate 4 48 ++ digits) ≡ digits_value 16 digits
zeros_before digits = refl

value_of_number : (number : ℕ) → number < 2 ^ 48 → digits_value 16 (hex_of 12 number) ≡ number
unfolding number_behind
value_of_number number h =
    sym (zeros_before (hex_of 12 number)) ∙ ap (digits_value 16) (filled_12 number h)
    ∙ digits_value-encode_lower (to_be_bytes w64 number) 0 (IsBytes-to_be_bytes number)
    ∙ (let sum = from_be_bytes-to_be_bytes_8 number (omega arith) in omega (arith, sum))

read_kind : (id : Id) → kind_in (digits_value 16 (take 8 (id_text id))) ≡ Some id.kind
read_kind id = rw (kind_part id, value_of_kind id.kind) (kind_in-kind_number id.kind)

read_number : (id : Id) → id.number < 2 ^ 48 → digits_value 16 (drop 24 (id_text id)) ≡ id.number
read_number id h = rw (number_part id) (value_of_number id.number h)

passes : (text : List ℕ) (id other : Id) → other ≡ id → id.number < 2 ^ 48 → text ≡ id_text id → id_if text other ≡ Some id
passes text id other same small is =
    let number : has_id_number id.number ≡ true = search (rules, tests) in
    rw (same, number, same_bytes text (id_text id) is) refl

pub reads_lower : (id : Id) → id.number < 2 ^ 48 → id_in_lower (id_text id) ≡ Some id
reads_lower id small = rw (read_kind id) (passes (id_text id) id (id_of_kind (id_text id) id.kind) (rw (read_number id small) refl) small refl)

-- what was read is the identifier of the text
found_is : (text : List ℕ) (other id : Id) → id_if text other ≡ Some id → (text ≡ id_text id) × (id.number < 2 ^ 48)
found_is text other id h =
    let found = chosen (has_id_number other.number) (bytes_eq text (id_text other)) other id h in
    let same = found.2 in
    let small : has_id_number id.number ≡ true = rw (← same) found.0 in
    ((bytes_eq-Decides text (id_text other)).0 found.1 ∙ ap id_text same, search (rules, tests))

pub lower_is : (text : List ℕ) (id : Id) → id_in_lower text ≡ Some id → (text ≡ id_text id) × (id.number < 2 ^ 48)
lower_is text id h = option_and_then_some _ (kind_in (digits_value 16 (take 8 text))) id h (λ kind was found. found_is text (id_of_kind text kind) id found)

none_or : (r found : Option Id) → ((id : Id) → found ≡ Some id → r ≡ Some id) → ((id : Id) → r ≡ Some id → found ≡ Some id) → r ≡ found
none_or r None h k = elim r as (λ x. ((id : Id) → x ≡ Some id → None ≡ Some id) → x ≡ None) [ None ↦ λ _. refl | Some id ↦ λ g. sym (g id refl) ] k
none_or r (Some id) h k = h id refl

-- the one identifier of a text in lower case, or none
pub determined : (low : List ℕ) (r : Option Id) → IfSome r (λ id. (low ≡ id_text id) × (id.number < 2 ^ 48))
    → ((id : Id) → id.number < 2 ^ 48 → low ≡ id_text id → r ≡ Some id) → r ≡ id_in_lower low
determined low None sound whole =
    none_or None (id_in_lower low) (λ id found. whole id (lower_is low id found).1 (lower_is low id found).0) (λ id none. cc none)
determined low (Some id) sound whole = sym (ap id_in_lower sound.0 ∙ reads_lower id sound.1)

pub length-id_text : (id : Id) → length (id_text id) ≡ 36
length-id_text id =
    let kind = hex_of 8 (kind_number id.kind) in
    let middle = codes "-0000-8000-8000-" in
    omega (arith, length-append (kind ++ middle) (hex_of 12 id.number), length-append kind middle, length-hex_of 8 (kind_number id.kind) (lit≤ tt), length-hex_of 12 id.number (lit≤ tt))

-- ---- what is printed is read

lower_hex : (width number : ℕ) → str_to_ascii_lowercase (hex_of width number) ≡ hex_of width number
unfolding hex_of
lower_hex width number =
    sym (drop-map to_ascii_lowercase (16 - width) (encode_lower (to_be_bytes w64 number))) ∙ ap (drop (16 - width)) (lowercase-encode_lower (to_be_bytes w64 number))

pub lower_text : (id : Id) → str_to_ascii_lowercase (id_text id) ≡ id_text id
lower_text id =
    let kind = hex_of 8 (kind_number id.kind) in
    let middle = codes "-0000-8000-8000-" in
    let number = hex_of 12 id.number in
    map-append to_ascii_lowercase (kind ++ middle) number ∙ ap (λ t. t ++ map to_ascii_lowercase number) (map-append to_ascii_lowercase kind middle)
    ∙ ap (λ t. (t ++ middle) ++ map to_ascii_lowercase number) (lower_hex 8 (kind_number id.kind)) ∙ ap (λ t. (kind ++ middle) ++ t) (lower_hex 12 id.number)

pub id_read_back : (id : Id) → has_id_number id.number ≡ true → id_in (id_text id) ≡ Some id
id_read_back id h =
    let small : id.number < 2 ^ 48 = search (rules, tests) in
    ap id_in_lower (lower_text id) ∙ reads_lower id small
