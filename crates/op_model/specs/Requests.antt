-- The stream of requests: which bytes are a request (RFC 9112), where the next one begins, and which beginnings are
-- refused. Heads are those of the grammar that `httparse` reads. The limits, and that a body's length is told by
-- `content-length` alone, are this project's own.
use Rattle.std.specs.Prelude.{◌≡◌, ◌⊎◌, ⊤, ℕ, ◌≤◌, ◌<◌, Bool, true, false, not, ◌&&◌, ◌||◌, ◌==◌, nat_le, nat_eq, IsTrue, if◌then◌else◌, List, [], ◌∷◌, ◌++◌, length, take, map, codes, Some, None}
use Rattle.std.specs.Char.{is_ascii_digit}
use Rattle.std.specs.List.{list_all, list_any, filter_map, ends_with}
use Rattle.std.specs.Str.{bytes_eq, str_eq_ignore_ascii_case}
use Rattle.std.specs.Str.Parse.{digits_value}
use Rattle.std.specs.declared.option.Option.{Option}
use Rattle.httparse.specs.Grammar.{RequestHead, ReadsRequest, print_request}
use Rattle.httparse.specs.Spans.{name_and_value}

-- ---- limits

-- the most bytes of a head, the most fields of one, and the most bytes of a body
abbrev pub head_limit : ℕ
head_limit = 16384

abbrev pub field_limit : ℕ
field_limit = 64

abbrev pub body_limit : ℕ
body_limit = 65536

-- ---- windows: where a head may end

abbrev pub is_line_byte : ℕ → Bool
is_line_byte b = (b == 10) || (b == 13)

-- The text ends with an end mark: a line feed, and one more or a carriage return and one more, where some byte
-- other than these two stands before it.
abbrev pub ends_with_mark : List ℕ → Bool
ends_with_mark text =
    (ends_with nat_eq text (codes "\n\n") || ends_with nat_eq text (codes "\n\r\n")) && list_any (λ b. not (is_line_byte b)) text

-- the text up to and with the first place where it ends with an end mark, or all of it; seen stands before it
abbrev pub through_mark : (seen text : List ℕ) → List ℕ
through_mark seen [] = []
through_mark seen (b ∷ text) =
    if ends_with_mark (seen ++ b ∷ []) then b ∷ [] else b ∷ through_mark (seen ++ b ∷ []) text

-- what is left up to and with its first end mark, or as much of it as a head may have
abbrev pub window_of : List ℕ → List ℕ
window_of rest = take head_limit (through_mark [] rest)

-- ---- heads

-- the window is this head, of at most 64 fields, and what stands behind it
pub record BeginsWithHead (window : List ℕ) (head : RequestHead) (behind : List ℕ) : Type 0 where
  pub reads : ReadsRequest window head behind
  pub fits : length head.fields ≤ field_limit

-- no prefix of the window is a head
abbrev pub HasNoHead : List ℕ → Type 0
HasNoHead window = (head : RequestHead) (behind : List ℕ) → ¬ (BeginsWithHead window head behind)

-- the names and values of a head's fields
abbrev pub fields_of : RequestHead → List (List ℕ × List ℕ)
fields_of head = map name_and_value head.fields

-- the values of the fields of a name, whatever its case (RFC 9110, section 5.1)
abbrev pub value_if : List ℕ → List ℕ × List ℕ → Option (List ℕ)
value_if name (field, value) = if str_eq_ignore_ascii_case field name then Some value else None

abbrev pub values_of : List ℕ → List (List ℕ × List ℕ) → List (List ℕ)
values_of name fields = filter_map (value_if name) fields

abbrev pub has_field : List ℕ → List (List ℕ × List ℕ) → Bool
has_field name fields = list_any (λ (field, value). str_eq_ignore_ascii_case field name) fields

-- ---- the length of a body (RFC 9110, section 8.6)

abbrev pub is_length : List ℕ → Bool
is_length text = (nat_le 1 (length text) && nat_le (length text) 10) && list_all is_ascii_digit text

-- 0 where it is not told; nothing where two values differ or one is no length
abbrev pub length_told : List (List ℕ) → Option ℕ
length_told [] = Some 0
length_told (value ∷ others) =
    if is_length value && list_all (bytes_eq value) others then Some (digits_value 10 value) else None

abbrev pub body_length : List (List ℕ × List ℕ) → Option ℕ
body_length fields = length_told (values_of (codes "content-length") fields)

-- ---- requests

-- a request as it came: its method, target, fields and body
pub record Raw : Type 0 where
  pub method : List ℕ
  pub target : List ℕ
  pub fields : List (List ℕ × List ℕ)
  pub body : List ℕ

-- what is left begins with this head, and goes on with the bytes behind it
pub record HasHead (rest : List ℕ) (head : RequestHead) (behind : List ℕ) : Type 0 where
  pub within : List ℕ
  pub begins : BeginsWithHead (window_of rest) head within
  pub text : rest ≡ print_request head ++ behind

-- what is left begins with this request, and goes on with the bytes behind it
pub record BeginsWithRequest (rest : List ℕ) (raw : Raw) (behind : List ℕ) : Type 0 where
  pub head : RequestHead
  pub has_head : HasHead rest head (raw.body ++ behind)
  pub method : raw.method ≡ head.method
  pub target : raw.target ≡ head.target
  pub fields : raw.fields ≡ fields_of head
  pub unchunked : has_field (codes "transfer-encoding") raw.fields ≡ false
  pub counted : body_length raw.fields ≡ Some (length raw.body)
  pub limit : length raw.body ≤ body_limit

-- the text is this request, whatever follows it
abbrev pub IsWholeRequest : List ℕ → Raw → Type 0
IsWholeRequest text raw = (behind : List ℕ) → BeginsWithRequest (text ++ behind) raw behind

-- ---- what is refused

-- nothing is left of the stream, but perhaps one empty line
abbrev pub IsEnded : List ℕ → Type 0
IsEnded rest = (rest ≡ []) ⊎ (rest ≡ codes "\r\n") ⊎ (rest ≡ codes "\n")

-- its head is none, though it ends or the stream does
abbrev pub IsNoHead : List ℕ → Type 0
IsNoHead rest = HasNoHead (window_of rest) × (IsTrue (ends_with_mark (window_of rest)) ⊎ (length rest < head_limit))

-- its head is longer than a head may be
abbrev pub IsLongHead : List ℕ → Type 0
IsLongHead rest = HasNoHead (window_of rest) × (head_limit ≤ length rest) × (ends_with_mark (window_of rest) ≡ false)

-- its head is whole, and has or has not a field by which the body's length is not told
abbrev pub HasFields : Bool → List ℕ → (List (List ℕ × List ℕ) → List ℕ → Type 0) → Type 0
HasFields chunked rest P =
    (head : RequestHead) × (behind : List ℕ) × HasHead rest head behind
    × (has_field (codes "transfer-encoding") (fields_of head) ≡ chunked) × P (fields_of head) behind

-- its length is told twice, or is none
abbrev pub HasBadLength : List ℕ → Type 0
HasBadLength rest = HasFields false rest (λ fields behind. body_length fields ≡ None)

-- its body is longer than a body may be
abbrev pub HasLongBody : List ℕ → Type 0
HasLongBody rest = HasFields false rest (λ fields behind. (size : ℕ) × (body_length fields ≡ Some size) × (body_limit < size))

-- the stream ends within its body
abbrev pub EndsInBody : List ℕ → Type 0
EndsInBody rest = HasFields false rest (λ fields behind. (size : ℕ) × (body_length fields ≡ Some size) × (size ≤ body_limit) × (length behind < size))

-- `400 bad_http`, `411 length_required`, `413 request_too_large`
abbrev pub IsBadHttp : List ℕ → Type 0
IsBadHttp rest = (IsEnded rest → ⊥) × (IsNoHead rest ⊎ HasBadLength rest ⊎ EndsInBody rest)

abbrev pub IsLengthRequired : List ℕ → Type 0
IsLengthRequired rest = HasFields true rest (λ fields behind. ⊤)

abbrev pub IsTooLarge : List ℕ → Type 0
IsTooLarge rest = IsLongHead rest ⊎ HasLongBody rest

-- no whole request stands at the front
abbrev pub BeginsWithNoRequest : List ℕ → Type 0
BeginsWithNoRequest rest = (raw : Raw) (behind : List ℕ) → ¬ (BeginsWithRequest rest raw behind)
