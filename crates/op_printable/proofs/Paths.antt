-- Origins and paths are ASCII, and so UTF-8.
use Rattle.std.proofs.Common.{◌≡◌, ℕ, ◌<◌, true, List, [], ◌∷◌, codes, drop, length, sym, subst, arith}
use Rattle.std.specs.Prelude.{◌&&◌, nat_le, nat_eq}
use Rattle.std.specs.List.{list_all, slice_split, join_with_byte, starts_with}
use Rattle.std.specs.Str.{IsAscii, IsUtf8}
use Rattle.std.proofs.lemmas.Bool.{and_parts}
use Rattle.std.proofs.lemmas.Bool.Decides.{nat_tests}
use Rattle.std.proofs.lemmas.List.Splits.{join_with_byte-slice_split}
use Rattle.std.proofs.lemmas.Str.{IsUtf8-from_ascii, IsAscii-append}
use Rattle.std.proofs.lemmas.Str.Ascii.{IsAscii-nil, IsAscii-cons}
use Rattle.op_names.proofs.AsciiTexts.{IsAscii-from_all, IsUtf8-from_visible}
use Rattle.op_names.proofs.Choices.{front_of}
use Rattle.op_names.specs.Forms.{is_web, is_origin, is_slash, is_segment_byte, is_segment, are_segments, is_path}

segment_is_small : (b : ℕ) → is_segment_byte b ≡ true → b < 128
segment_is_small b h = grind (arith, nat_tests)

segment_ascii : (text : List ℕ) → is_segment text ≡ true → IsAscii text
segment_ascii text h = IsAscii-from_all is_segment_byte segment_is_small text (and_parts (list_all is_segment_byte text) _ (and_parts _ _ h).1).0

joined_ascii : (parts : List (List ℕ)) → list_all is_segment parts ≡ true → IsAscii (join_with_byte 47 parts)
joined_ascii [] h = IsAscii-nil
joined_ascii (x ∷ []) h = segment_ascii x (and_parts (is_segment x) true h).0
joined_ascii (x ∷ y ∷ parts) h =
    let both = and_parts (is_segment x) (list_all is_segment (y ∷ parts)) h in
    let rest = join_with_byte 47 (y ∷ parts) in
    IsAscii-append x (47 ∷ rest) (segment_ascii x both.0) (IsAscii-cons 47 rest (omega arith) (joined_ascii (y ∷ parts) both.1))

segments_ascii : (text : List ℕ) → are_segments text ≡ true → IsAscii text
segments_ascii text h =
    subst IsAscii (join_with_byte-slice_split 47 text)
    (joined_ascii (slice_split is_slash text) (and_parts _ (list_all is_segment (slice_split is_slash text)) (and_parts _ _ h).0).1)

pub path_text : (path : List ℕ) → is_path path ≡ true → IsUtf8 path
path_text path h =
    let both = and_parts (nat_le (length path) 128 && starts_with nat_eq path (codes "/")) (are_segments (drop 1 path)) h in
    let is = front_of path (codes "/") (and_parts (nat_le (length path) 128) (starts_with nat_eq path (codes "/")) both.0).1 in
    subst IsUtf8 (sym is) (IsUtf8-from_ascii (47 ∷ drop 1 path) (IsAscii-cons 47 (drop 1 path) (omega arith) (segments_ascii (drop 1 path) both.1)))

pub origin_text : (origin : List ℕ) → is_origin origin ≡ true → IsUtf8 origin
origin_text origin h = IsUtf8-from_visible origin (and_parts _ _ (and_parts _ (is_web origin) (and_parts _ _ h).0).0).1
