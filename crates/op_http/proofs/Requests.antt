-- What a head in the window says of the stream.
use Rattle.std.proofs.Common.{◌≡◌, ◌≤◌, ◌<◌, ◌+◌, ℕ, zero, suc, Bool, true, false, List, [], ◌∷◌, ◌++◌, Some, None, codes, length, take, drop, refl, sym, ap, subst, ◌∙◌, inl, inr, arith, append_assoc, length-append, nat_lt, not, ◌&&◌, ◌||◌}
use Rattle.std.specs.Prelude.{⊤}
use Rattle.std.specs.List.{list_any}
use Rattle.std.proofs.lemmas.List.{take-take, take-append-le, take-append-drop, take_at, append-nil, length-take, length-drop, take_all}
use Rattle.std.proofs.lemmas.Bool.{cases_Bool, ltb-true, ltb-false}
use Rattle.httparse.specs.Grammar.{RequestHead, print_request}
use Rattle.op_model.specs.Requests.{Raw, head_limit, body_limit, is_line_byte, ends_with_mark, window_of, BeginsWithHead, HasNoHead, HasHead, HasFields, IsWholeRequest, BeginsWithNoRequest, IsEnded, IsBadHttp, IsLengthRequired, IsTooLarge, fields_of, has_field, body_length}
use Rattle.op_http.specs.Head.{HeadParts, HoldsHead, Frames, HoldsFields}
use Rattle.op_http.specs.Marks.{HasNoMark, IsFirstMark}
use Rattle.op_http.proofs.Heads.{head_unique, head_ends}
use Rattle.op_http.proofs.Windows.{window_at_mark, window_unmarked}

-- ---- heads end at the first mark

-- a text that no mark ends in begins with no head
pub unmarked_no_head : (window : List ℕ) → HasNoMark window → HasNoHead window
unmarked_no_head window none head behind begins =
    let front : take (length (print_request head)) window ≡ print_request head =
    ap (λ (x : List ℕ). take (length (print_request head)) x) begins.reads.1 ∙ take_at (print_request head) behind (length (print_request head)) refl in
    let ends : ends_with_mark (take (length (print_request head)) window) ≡ true = ap ends_with_mark front ∙ head_ends head in
    cc (ends, none (length (print_request head)))

-- the head in the window up to the first mark is all of it
pub head_is_window : (bytes : List ℕ) (n : ℕ) (p : HeadParts) → IsFirstMark bytes n → (holds : HoldsHead (take n bytes) p)
    → (p.len ≡ n) × (print_request holds.head ≡ take n bytes)
head_is_window bytes n p is holds =
    let text = print_request holds.head in
    let window : length (take n bytes) ≡ n = omega (arith, is.within, length-take n bytes) in
    let split : take n bytes ≡ text ++ drop p.len (take n bytes) = holds.begins.reads.1 in
    let short : p.len ≤ n = omega (arith, ap length split, holds.len, window, length-append text (drop p.len (take n bytes))) in
    let front : take p.len bytes ≡ text = sym (take-take p.len n bytes short) ∙ (ap (λ (x : List ℕ). take p.len x) split ∙ take_at text (drop p.len (take n bytes)) p.len (sym holds.len)) in
    let ends : ends_with_mark (take p.len bytes) ≡ true = ap ends_with_mark front ∙ head_ends holds.head in
    let same : p.len ≡ n = at_mark p.len n bytes is short ends in
    (same, sym front ∙ ap (λ (k : ℕ). take k bytes) same)
  where
    at_mark : (len n : ℕ) (bytes : List ℕ) → IsFirstMark bytes n → len ≤ n → ends_with_mark (take len bytes) ≡ true → len ≡ n
    at_mark len n bytes is short ends =
        elim (cases_Bool (nat_lt len n)) [
          | inl before ↦ let none = is.first len (ltb-true len n before) in absurd (cc)
          | inr after ↦ let long : n ≤ len = ltb-false len n after in omega arith
        ]

-- the first mark of the front is the first of all
pub mark_stays : (bytes more : List ℕ) (n : ℕ) → IsFirstMark bytes n → IsFirstMark (bytes ++ more) n
mark_stays bytes more n is =
    let front : (k : ℕ) → k ≤ n → take k (bytes ++ more) ≡ take k bytes = λ k below. take-append-le k bytes more (omega (arith, is.within)) in
    record {
      ends = ap ends_with_mark (front n (omega arith)) ∙ is.ends;
      first = λ k below. ap ends_with_mark (front k (omega arith)) ∙ is.first k below;
      within = omega (arith, is.within, length-append bytes more);
    }

-- the stream has the head of its window
pub has_head : (bytes more : List ℕ) (n : ℕ) (p : HeadParts) → IsFirstMark bytes n → n ≤ head_limit → (holds : HoldsHead (take n bytes) p)
    → HasHead (bytes ++ more) holds.head (drop p.len bytes ++ more)
has_head bytes more n p is short holds =
    let text = print_request holds.head in
    let all = head_is_window bytes n p is holds in
    let split : bytes ≡ text ++ drop p.len bytes = sym (take-append-drop p.len bytes) ∙ ap (λ (x : List ℕ). x ++ drop p.len bytes) (ap (λ (k : ℕ). take k bytes) all.0 ∙ sym all.1) in
    record {
      within = drop p.len (take n bytes);
      begins = subst (λ (w : List ℕ). BeginsWithHead w holds.head (drop p.len (take n bytes))) (sym (window_at_mark bytes more n is short)) holds.begins;
      text = ap (λ (x : List ℕ). x ++ more) split ∙ append_assoc text (drop p.len bytes) more;
    }

-- ---- what is refused

abbrev other_bytes : List ℕ → Bool
other_bytes text = list_any (λ b. not (is_line_byte b)) text

none_in_front : (text : List ℕ) (n : ℕ) → other_bytes text ≡ false → other_bytes (take n text) ≡ false
none_in_front text zero none = refl
none_in_front [] (suc n) none = refl
none_in_front (b ∷ text) (suc n) none = both (not (is_line_byte b)) (other_bytes text) (other_bytes (take n text)) none (none_in_front text n)
  where
    both : (a b c : Bool) → (a || b) ≡ false → (b ≡ false → c ≡ false) → (a || c) ≡ false
    both true b c none rest = none
    both false b c none rest = rest none

and_false : (a b : Bool) → b ≡ false → (a && b) ≡ false
and_false true b none = none
and_false false b none = refl

-- bytes with a mark are no empty line
not_ended : (bytes more : List ℕ) (n : ℕ) → IsFirstMark bytes n → IsEnded (bytes ++ more) → ⊥
not_ended bytes more n is ended = blank (bytes ++ more) n ended (mark_stays bytes more n is).ends
  where
    against : (rest : List ℕ) (n : ℕ) → other_bytes rest ≡ false → ends_with_mark (take n rest) ≡ true → ⊥
    against rest n none marked =
        let unmarked : ends_with_mark (take n rest) ≡ false = and_false _ _ (none_in_front rest n none) in
        cc (unmarked, marked)

    blank : (rest : List ℕ) (n : ℕ) → IsEnded rest → ends_with_mark (take n rest) ≡ true → ⊥
    blank rest n (inl e) marked = against rest n (ap other_bytes e) marked
    blank rest n (inr (inl e)) marked = against rest n (ap other_bytes e) marked
    blank rest n (inr (inr e)) marked = against rest n (ap other_bytes e) marked

pub no_head_refused : (bytes more : List ℕ) (n : ℕ) → IsFirstMark bytes n → n ≤ head_limit → HasNoHead (take n bytes) → IsBadHttp (bytes ++ more)
no_head_refused bytes more n is short none =
    let window = sym (window_at_mark bytes more n is short) in
    (not_ended bytes more n is, inl (subst HasNoHead window none, inl (subst (λ (w : List ℕ). ends_with_mark w ≡ true) window is.ends)))

fields_told : (bytes more : List ℕ) (n : ℕ) (chunked : Bool) (P : List (List ℕ × List ℕ) → List ℕ → Type 0) (p : HeadParts)
    → IsFirstMark bytes n → n ≤ head_limit → HoldsHead (take n bytes) p → has_field (codes "transfer-encoding") p.fields ≡ chunked
    → P p.fields (drop p.len bytes ++ more) → HasFields chunked (bytes ++ more) P
fields_told bytes more n chunked P p is short holds test fact = (
  holds.head,
  drop p.len bytes ++ more,
  has_head bytes more n p is short holds,
  ap (has_field (codes "transfer-encoding")) (sym holds.fields) ∙ test,
  subst (λ (fields : List (List ℕ × List ℕ)). P fields (drop p.len bytes ++ more)) holds.fields fact,
)

pub chunked_refused : (bytes more : List ℕ) (n : ℕ) → IsFirstMark bytes n → n ≤ head_limit → HoldsFields (take n bytes) true (λ fields. ⊤) → IsLengthRequired (bytes ++ more)
chunked_refused bytes more n is short h = fields_told bytes more n true (λ fields behind. ⊤) h.0 is short h.1 h.2 h.3

pub bad_length_refused : (bytes more : List ℕ) (n : ℕ) → IsFirstMark bytes n → n ≤ head_limit → HoldsFields (take n bytes) false (λ fields. body_length fields ≡ None) → IsBadHttp (bytes ++ more)
bad_length_refused bytes more n is short h =
    (not_ended bytes more n is, inr (inl (fields_told bytes more n false (λ fields behind. body_length fields ≡ None) h.0 is short h.1 h.2 h.3)))

pub long_body_refused : (bytes more : List ℕ) (n : ℕ) → IsFirstMark bytes n → n ≤ head_limit
    → HoldsFields (take n bytes) false (λ fields. (size : ℕ) × (body_length fields ≡ Some size) × (body_limit < size)) → IsTooLarge (bytes ++ more)
long_body_refused bytes more n is short h =
    inr (fields_told bytes more n false (λ fields behind. (size : ℕ) × (body_length fields ≡ Some size) × (body_limit < size)) h.0 is short h.1 h.2 h.3)

pub cut_short_refused : (bytes more : List ℕ) (n : ℕ) (p : HeadParts) (size : ℕ) → IsFirstMark bytes n → n ≤ head_limit → Frames (take n bytes) p size
    → length (bytes ++ more) < p.len + size → IsBadHttp (bytes ++ more)
cut_short_refused bytes more n p size is short frames few =
    let few_behind : length (drop p.len bytes ++ more) < size =
    omega (arith, is.within, (head_is_window bytes n p is frames.holds).0, length-append bytes more, length-append (drop p.len bytes) more, length-drop p.len bytes) in (
      not_ended bytes more n is,
      inr (inr (fields_told bytes more n false
          (λ fields behind. (size : ℕ) × (body_length fields ≡ Some size) × (size ≤ body_limit) × (length behind < size))
          p is short frames.holds frames.unchunked (size, frames.counted, frames.limit, few_behind))),
    )

none_in_take : (bytes : List ℕ) (m : ℕ) → HasNoMark bytes → HasNoMark (take m bytes)
none_in_take bytes m none k =
    elim (cases_Bool (nat_lt m k)) [
      | inl long ↦
          let below : m < k = ltb-true m k long in
          ap ends_with_mark (take_all k (take m bytes) (omega (arith, length-take m bytes))) ∙ none m
      | inr short ↦ ap ends_with_mark (take-take k m bytes (ltb-false m k short)) ∙ none k
    ]

pub long_head_refused : (bytes more : List ℕ) → head_limit ≤ length bytes → HasNoMark (take head_limit bytes) → IsTooLarge (bytes ++ more)
long_head_refused bytes more long none =
    let front : take head_limit (bytes ++ more) ≡ take head_limit bytes = take-append-le head_limit bytes more long in
    let unmarked : HasNoMark (take head_limit (bytes ++ more)) = subst HasNoMark (sym front) none in
    let window : window_of (bytes ++ more) ≡ take head_limit (bytes ++ more) = window_unmarked (bytes ++ more) unmarked in
    let last : ends_with_mark (take head_limit (bytes ++ more)) ≡ false =
    ap ends_with_mark (sym (take-take head_limit head_limit (bytes ++ more) (omega arith))) ∙ unmarked head_limit in
    inl (subst HasNoHead (sym window) (unmarked_no_head _ unmarked), omega (arith, long, length-append bytes more), ap ends_with_mark window ∙ last)

pub short_head_refused : (bytes : List ℕ) → length bytes < head_limit → HasNoMark bytes → (IsEnded bytes → ⊥) → IsBadHttp bytes
short_head_refused bytes short none some =
    let window : window_of bytes ≡ bytes = window_unmarked bytes (none_in_take bytes head_limit none) ∙ take_all head_limit bytes (omega arith) in
    (some, inl (subst HasNoHead (sym window) (unmarked_no_head bytes none), inr short))

-- ---- no whole request is there

pub no_request_unmarked : (bytes : List ℕ) → HasNoMark bytes → BeginsWithNoRequest bytes
no_request_unmarked bytes none raw behind begins =
    let unmarked = none_in_take bytes head_limit none in
    let no_head = subst HasNoHead (sym (window_unmarked bytes unmarked)) (unmarked_no_head _ unmarked) in
    no_head begins.head begins.has_head.within begins.has_head.begins

pub no_request_short : (bytes : List ℕ) (n : ℕ) (p : HeadParts) (size : ℕ) → IsFirstMark bytes n → n ≤ head_limit → Frames (take n bytes) p size
    → length bytes < p.len + size → BeginsWithNoRequest bytes
no_request_short bytes n p size is short frames few raw behind begins =
    let holds = frames.holds in
    let window : window_of bytes ≡ take n bytes = ap window_of (sym (append-nil bytes)) ∙ window_at_mark bytes [] n is short in
    let there : BeginsWithHead (take n bytes) begins.head begins.has_head.within = subst (λ (w : List ℕ). BeginsWithHead w begins.head begins.has_head.within) window begins.has_head.begins in
    let same = head_unique (take n bytes) begins.head holds.head begins.has_head.within (drop p.len (take n bytes)) there holds.begins in
    let fields : raw.fields ≡ p.fields = begins.fields ∙ (ap fields_of same.0 ∙ sym holds.fields) in
    let told : Some (length raw.body) ≡ Some size = sym begins.counted ∙ (ap body_length fields ∙ frames.counted) in
    let size_is : length raw.body ≡ size = cc in
    let head_is : length (print_request begins.head) ≡ p.len = ap (λ (h : RequestHead). length (print_request h)) same.0 ∙ sym holds.len in
    absurd (omega (arith, few, size_is, head_is, ap length begins.has_head.text, length-append (print_request begins.head) (raw.body ++ behind), length-append raw.body behind))

-- ---- a whole request

pub whole_request : (text : List ℕ) (n : ℕ) (p : HeadParts) (size : ℕ) (raw : Raw) → IsFirstMark text n → n ≤ head_limit → Frames (take n text) p size
    → raw.method ≡ p.method → raw.target ≡ p.target → raw.fields ≡ p.fields → raw.body ≡ drop p.len text → length raw.body ≡ size → IsWholeRequest text raw
whole_request text n p size raw is short frames method target fields body count behind =
    let holds = frames.holds in
    record {
      head = holds.head;
      has_head = subst (λ (b : List ℕ). HasHead (text ++ behind) holds.head (b ++ behind)) (sym body) (has_head text behind n p is short holds);
      method = method ∙ holds.method;
      target = target ∙ holds.target;
      fields = fields ∙ holds.fields;
      unchunked = ap (has_field (codes "transfer-encoding")) fields ∙ frames.unchunked;
      counted = ap body_length fields ∙ (frames.counted ∙ ap (λ (k : ℕ). Some k) (sym count));
      limit = omega (arith, frames.limit, count);
    }
