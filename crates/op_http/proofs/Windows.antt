-- End marks, and the window that they end.
use Rattle.std.proofs.Common.{◌≡◌, ◌≤◌, ◌<◌, ◌+◌, ℕ, zero, suc, true, false, List, [], ◌∷◌, ◌++◌, length, take, refl, sym, ap, subst, ◌∙◌, inl, inr, arith, append_assoc, length-append, nat_lt, min}
use Rattle.std.proofs.lemmas.List.{take-take, take-append-le, length-take, take_all}
use Rattle.std.proofs.Math.Seq.{take-length}
use Rattle.std.proofs.lemmas.Bool.{cases_Bool, ltb-true, ltb-false}
use Rattle.op_model.specs.Requests.{head_limit, ends_with_mark, through_mark, window_of}
use Rattle.op_http.specs.Marks.{HasNoMark, IsFirstMark}

-- what holds up to the whole text holds at any number
pub below_all : (text : List ℕ) → ((k : ℕ) → k < length text + 1 → ends_with_mark (take k text) ≡ false) → HasNoMark text
below_all text none k =
    elim (cases_Bool (nat_lt k (length text + 1))) [
      | inl short ↦ none k (ltb-true k (length text + 1) short)
      | inr long ↦
          let more : length text + 1 ≤ k = ltb-false k (length text + 1) long in
          let all : take k text ≡ text = take_all k text (omega arith) in
          ap ends_with_mark (all ∙ sym (take-length text)) ∙ none (length text) (omega arith)
    ]

cons_snoc : (seen : List ℕ) (b : ℕ) (text : List ℕ) → (seen ++ b ∷ []) ++ text ≡ seen ++ b ∷ text
cons_snoc seen b text = append_assoc seen (b ∷ []) text

-- with no mark in the first m bytes, these stand in the window
through_none : (m : ℕ) (seen text : List ℕ) → ((k : ℕ) → k ≤ m → 0 < k → ends_with_mark (seen ++ take k text) ≡ false) → take m (through_mark seen text) ≡ take m text
through_none zero seen text none = refl
through_none (suc m) seen [] none = refl
through_none (suc m) seen (b ∷ text) none =
    let here : ends_with_mark (seen ++ b ∷ []) ≡ false = none 1 (omega arith) (omega arith) in
    let rest = through_none m (seen ++ b ∷ []) text (λ k below some. ap ends_with_mark (cons_snoc seen b (take k text)) ∙ none (suc k) (omega arith) (omega arith)) in
    rw here (ap (λ (x : List ℕ). b ∷ x) rest)

-- the first mark ends it
through_first : (n : ℕ) (seen text : List ℕ) → 0 < n → n ≤ length text → ends_with_mark (seen ++ take n text) ≡ true
    → ((k : ℕ) → k < n → 0 < k → ends_with_mark (seen ++ take k text) ≡ false) → through_mark seen text ≡ take n text
through_first zero seen text some within ends first = absurd (omega arith)
through_first (suc n) seen [] some within ends first = absurd (omega arith)
through_first (suc zero) seen (b ∷ text) some within ends first = rw ends refl
through_first (suc (suc n)) seen (b ∷ text) some within ends first =
    let here : ends_with_mark (seen ++ b ∷ []) ≡ false = first 1 (omega arith) (omega arith) in
    let rest = through_first (suc n) (seen ++ b ∷ []) text (omega arith) (omega arith)
    (ap ends_with_mark (cons_snoc seen b (take (suc n) text)) ∙ ends)
    (λ k below more. ap ends_with_mark (cons_snoc seen b (take k text)) ∙ first (suc k) (omega arith) (omega arith)) in
    rw here (ap (λ (x : List ℕ). b ∷ x) rest)

-- no mark ends before the first byte
mark_some : (n : ℕ) (text : List ℕ) → ends_with_mark (take n text) ≡ true → 0 < n
mark_some zero text ends = absurd (cc)
mark_some (suc n) text ends = omega arith

take_of_front : (m n : ℕ) (text : List ℕ) → n ≤ m → take m (take n text) ≡ take n text
take_of_front m n text short = take_all m (take n text) (omega (arith, length-take n text))

-- the window ends at the first mark, whatever follows
pub window_at_mark : (text more : List ℕ) (n : ℕ) → IsFirstMark text n → n ≤ head_limit → window_of (text ++ more) ≡ take n text
window_at_mark text more n is short =
    let front : (k : ℕ) → k ≤ n → take k (text ++ more) ≡ take k text = λ k below. take-append-le k text more (omega (arith, is.within)) in
    let long : n ≤ length (text ++ more) = omega (arith, is.within, length-append text more) in
    let through : through_mark [] (text ++ more) ≡ take n (text ++ more) = through_first n [] (text ++ more) (mark_some n text is.ends) long
    (ap ends_with_mark (front n (omega arith)) ∙ is.ends)
    (λ k below some. ap ends_with_mark (front k (omega arith)) ∙ is.first k below) in
    ap (λ (x : List ℕ). take head_limit x) (through ∙ front n (omega arith)) ∙ take_of_front head_limit n text short

-- where no mark ends in the first bytes the window is all that a head may have
pub window_unmarked : (text : List ℕ) → HasNoMark (take head_limit text) → window_of text ≡ take head_limit text
window_unmarked text none =
    through_none head_limit [] text (λ k below some. ap ends_with_mark (sym (take-take k head_limit text below)) ∙ none k)

-- ---- in the front of the bytes that are held

pub first_in_front : (bytes : List ℕ) (m front n : ℕ) → front ≡ min (length bytes) m → IsFirstMark (take front bytes) n → IsFirstMark bytes n × (n ≤ m)
first_in_front bytes m front n count is =
    let short : n ≤ front = omega (arith, is.within, length-take front bytes) in (
      record {
        ends = ap ends_with_mark (sym (take-take n front bytes short)) ∙ is.ends;
        first = λ k below. ap ends_with_mark (sym (take-take k front bytes (omega arith))) ∙ is.first k below;
        within = omega arith;
      },
      omega arith,
    )

pub none_in_front : (bytes : List ℕ) (m front : ℕ) → front ≡ min (length bytes) m → m ≤ length bytes → HasNoMark (take front bytes) → HasNoMark (take m bytes)
none_in_front bytes m front count long none =
    let same : front ≡ m = omega arith in
    subst (λ (n : ℕ). HasNoMark (take n bytes)) same none

pub none_at_all : (bytes : List ℕ) (m front : ℕ) → front ≡ min (length bytes) m → length bytes < m → HasNoMark (take front bytes) → HasNoMark bytes
none_at_all bytes m front count short none =
    let same : front ≡ length bytes = omega arith in
    subst HasNoMark (ap (λ (n : ℕ). take n bytes) same ∙ take-length bytes) none
