-- The head at the front of a window, by its spans and by its parts.
use Rattle.std.specs.Prelude.{◌≡◌, ⊤, ℕ, ◌≤◌, ◌<◌, Bool, true, false, List, Some, None, codes, length, drop}
use Rattle.httparse.specs.Grammar.{RequestHead, print_request}
use Rattle.httparse.specs.Spans.{IsRequestAt}
use Rattle.httparse.specs.declared.spans.HeaderSpan.{HeaderSpan}
use Rattle.httparse.specs.declared.spans.RequestSpans.{RequestSpans}
use Rattle.op_model.specs.Requests.{BeginsWithHead, HasNoHead, fields_of, has_field, body_length, body_limit}
use Rattle.op_http.specs.declared.frame.FrameFault.{FrameFault}
use Rattle.op_http.specs.declared.frame.FrameFault.TheVariants.{NoHead, Chunked, BadLength, LongBody, NoMemory}

-- the spans are those of a head at the front of the window
abbrev pub IsHeadAt : List ℕ → List HeaderSpan → RequestSpans → Type 0
IsHeadAt window headers spans =
    (head : RequestHead) × BeginsWithHead window head (drop spans.len window) × IsRequestAt window headers spans head

-- the parts of a head, and the length of its text
pub record HeadParts : Type 0 where
  pub method : List ℕ
  pub target : List ℕ
  pub fields : List (List ℕ × List ℕ)
  pub len : ℕ

-- the parts are those of a head at the front of the window
pub record HoldsHead (window : List ℕ) (parts : HeadParts) : Type 0 where
  pub head : RequestHead
  pub begins : BeginsWithHead window head (drop parts.len window)
  pub len : parts.len ≡ length (print_request head)
  pub method : parts.method ≡ head.method
  pub target : parts.target ≡ head.target
  pub fields : parts.fields ≡ fields_of head

-- the window has this head, and it tells a body of this size
pub record Frames (window : List ℕ) (parts : HeadParts) (size : ℕ) : Type 0 where
  pub holds : HoldsHead window parts
  pub unchunked : has_field (codes "transfer-encoding") parts.fields ≡ false
  pub counted : body_length parts.fields ≡ Some size
  pub limit : size ≤ body_limit

-- the window has a head whose fields are so
abbrev pub HoldsFields : List ℕ → Bool → (List (List ℕ × List ℕ) → Type 0) → Type 0
HoldsFields window chunked P =
    (parts : HeadParts) × HoldsHead window parts × (has_field (codes "transfer-encoding") parts.fields ≡ chunked) × P parts.fields

-- why the window tells no body
abbrev pub FramesNot : List ℕ → FrameFault → Type 0
FramesNot window NoHead = HasNoHead window
FramesNot window Chunked = HoldsFields window true (λ fields. ⊤)
FramesNot window BadLength = HoldsFields window false (λ fields. body_length fields ≡ None)
FramesNot window LongBody = HoldsFields window false (λ fields. (size : ℕ) × (body_length fields ≡ Some size) × (body_limit < size))
FramesNot window NoMemory = ⊤
