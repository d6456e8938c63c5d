-- The origin and the paths of a legal history are ASCII, and so UTF-8.
use Rattle.std.proofs.Common.{◌≡◌, ℕ, ◌<◌, Bool, true, List, [], ◌∷◌, codes, drop, length, refl, sym, subst, Some, None, Option, unwrap_or, arith, leb-true}
use Rattle.std.specs.Prelude.{◌&&◌, nat_le, nat_eq}
use Rattle.std.specs.List.{AllByRecursion, list_all, slice_split, join_with_byte, starts_with}
use Rattle.std.specs.Option.{option_or, option_to_list}
use Rattle.std.specs.Str.{IsAscii, IsUtf8}
use Rattle.std.proofs.lemmas.Bool.{and_parts}
use Rattle.std.proofs.lemmas.Bool.Decides.{nat_tests}
use Rattle.std.proofs.lemmas.List.Splits.{join_with_byte-slice_split}
use Rattle.std.proofs.lemmas.Str.{IsUtf8-from_ascii, IsAscii-append}
use Rattle.std.proofs.lemmas.Str.Ascii.{IsAscii-nil, IsAscii-cons}
use Rattle.op_names.proofs.Choices.{front_of}
use Rattle.op_names.specs.Forms.{is_visible, is_web, is_origin, is_slash, is_segment_byte, is_segment, are_segments, is_path}
use Rattle.op_model.specs.History.{AddressRow, nth, last, origins, origin_set, origin_of, addresses, address_added, no_address}
use Rattle.op_model.specs.Legal.{IsLegal, is_proper, asked_by}
use Rattle.op_model.specs.declared.act.Act.{Act}
use Rattle.op_model.specs.declared.act.Act.TheVariants.{OriginSet, AddressAdded}
use Rattle.op_model.specs.declared.act.Entry.{Entry}
use Rattle.op_model.proofs.Next.{addresses-next}
use Rattle.op_model.proofs.Numbered.{all-append, nth_in}
use Rattle.op_model.proofs.ReadNext.{origin_of-next}
use Rattle.op_legal.proofs.Induction.{legal_induction}
use Rattle.op_noting.specs.Laws.{NamesAreTexts}

ascii_from : (test : ℕ → Bool) → ((b : ℕ) → test b ≡ true → b < 128) → (text : List ℕ) → list_all test text ≡ true → IsAscii text
ascii_from test small [] h = IsAscii-nil
ascii_from test small (b ∷ text) h =
    let parts = and_parts (test b) (list_all test text) h in
    IsAscii-cons b text (small b parts.0) (ascii_from test small text parts.1)

visible_is_small : (b : ℕ) → is_visible b ≡ true → b < 128
visible_is_small b h = omega (arith, leb-true b 126 (and_parts (nat_le 33 b) (nat_le b 126) h).1)

segment_is_small : (b : ℕ) → is_segment_byte b ≡ true → b < 128
segment_is_small b h = grind (arith, nat_tests)

segment_ascii : (text : List ℕ) → is_segment text ≡ true → IsAscii text
segment_ascii text h = ascii_from is_segment_byte segment_is_small text (and_parts (list_all is_segment_byte text) _ (and_parts _ _ h).1).0

joined_ascii : (parts : List (List ℕ)) → list_all is_segment parts ≡ true → IsAscii (join_with_byte 47 parts)
joined_ascii [] h = IsAscii-nil
joined_ascii (x ∷ []) h = segment_ascii x (and_parts (is_segment x) true h).0
joined_ascii (x ∷ y ∷ parts) h =
    let both = and_parts (is_segment x) (list_all is_segment (y ∷ parts)) h in
    let rest = join_with_byte 47 (y ∷ parts) in
    IsAscii-append x (47 ∷ rest) (segment_ascii x both.0) (IsAscii-cons 47 rest (omega arith) (joined_ascii (y ∷ parts) both.1))

segments_ascii : (text : List ℕ) → are_segments text ≡ true → IsAscii text
segments_ascii text h =
    subst IsAscii (join_with_byte-slice_split 47 text)
    (joined_ascii (slice_split is_slash text) (and_parts _ (list_all is_segment (slice_split is_slash text)) (and_parts _ _ h).0).1)

pub path_text : (path : List ℕ) → is_path path ≡ true → IsUtf8 path
path_text path h =
    let both = and_parts (nat_le (length path) 128 && starts_with nat_eq path (codes "/")) (are_segments (drop 1 path)) h in
    let is = front_of path (codes "/") (and_parts (nat_le (length path) 128) (starts_with nat_eq path (codes "/")) both.0).1 in
    subst IsUtf8 (sym is) (IsUtf8-from_ascii (47 ∷ drop 1 path) (IsAscii-cons 47 (drop 1 path) (omega arith) (segments_ascii (drop 1 path) both.1)))

pub origin_text : (origin : List ℕ) → is_origin origin ≡ true → IsUtf8 origin
origin_text origin h =
    IsUtf8-from_ascii origin (ascii_from is_visible visible_is_small origin (and_parts _ _ (and_parts _ (is_web origin) (and_parts _ _ h).0).0).1)

-- ---- those of a history

abbrev first_origin : List ℕ
first_origin = codes "https://wallet.example"

set_text : (history : List Entry) (act : Act) (before : Option (List ℕ)) → is_proper history (asked_by history act) ≡ true → IsUtf8 (unwrap_or before first_origin) → IsUtf8 (unwrap_or (option_or (origin_set act) before) first_origin)
set_text history (OriginSet origin) before proper was = origin_text origin proper
set_text history _ before proper was = was

legal_origin : (history : List Entry) → IsLegal history → IsUtf8 (origin_of history)
legal_origin = legal_induction (λ h. IsUtf8 (origin_of h)) (IsUtf8-from_ascii first_origin (ascii_from is_visible visible_is_small first_origin refl))
    (λ h e legal next was. subst IsUtf8 (sym (origin_of-next h e)) (set_text h e.act (last (origins h)) next.proper was))

abbrev HasText : AddressRow → Type 0
HasText row = IsUtf8 row.path

added_text : (history : List Entry) (act : Act) → is_proper history (asked_by history act) ≡ true → AllByRecursion HasText (option_to_list (address_added act))
added_text history (AddressAdded path asset name) proper = (path_text path (and_parts (is_path path) _ proper).0, tt)
added_text history _ proper = tt

legal_paths : (history : List Entry) → IsLegal history → AllByRecursion HasText (addresses history)
legal_paths = legal_induction (λ h. AllByRecursion HasText (addresses h)) tt
    (λ h e legal next was. subst (AllByRecursion HasText) (sym (addresses-next h e)) (all-append HasText (addresses h) (option_to_list (address_added e.act)) was (added_text h e.act next.proper)))

path_at : (rows : List AddressRow) (n : ℕ) (found : Option AddressRow) → AllByRecursion HasText rows → nth rows n ≡ found → IsUtf8 (unwrap_or found no_address).path
path_at rows n None all at = IsUtf8-from_ascii [] IsAscii-nil
path_at rows n (Some row) all at = nth_in HasText rows n row all at

pub names : NamesAreTexts
names = record {
  origin = legal_origin;
  path = λ history n legal. path_at (addresses history) n (nth (addresses history) n) (legal_paths history legal) refl;
}
