-- Differences of bytes: two lists of numbers are alike as far as no bit differs.
use Rattle.std.proofs.Common.{◌≡◌, ◌<◌, ◌↔◌, ℕ, ◌+◌, ◌==◌, List, length, get_or, bit_or, bit_xor, sym, ap, ◌∙◌, arith, inl, inr}
use Rattle.std.proofs.lemmas.Bool.{cases_lt}
use Rattle.std.specs.Str.{bytes_eq}
use Rattle.std.specs.Int.Bits.{xor_add_and, xor_self}
use Rattle.std.proofs.lemmas.Nat.{le_or_l, le_or_r, and_le_l, and_le_r}
use Rattle.std.proofs.lemmas.List.{ext_get_or}
use Rattle.std.proofs.lemmas.Bool.Decides.{same_from_decides, Decides-eqb}
use Rattle.std.proofs.lemmas.Slice.Eq.{bytes_eq-Decides}

-- equal at the first i places
abbrev pub Alike : (i : ℕ) (one other : List ℕ) → Type 0
Alike i one other = (k : ℕ) → k < i → get_or one k 0 ≡ get_or other k 0

same_from_xor : (a b : ℕ) → bit_xor a b ≡ 0 → a ≡ b
same_from_xor a b none = omega (arith, xor_add_and a b, and_le_l a b, and_le_r a b, none)

xor_of_same : (a b : ℕ) → a ≡ b → bit_xor a b ≡ 0
xor_of_same a b same = ap (λ x. bit_xor a x) (sym same) ∙ xor_self a

none_in_left : (a b : ℕ) → bit_or a b ≡ 0 → a ≡ 0
none_in_left a b none = omega (arith, le_or_l a b, none)

none_in_right : (a b : ℕ) → bit_or a b ≡ 0 → b ≡ 0
none_in_right a b none = omega (arith, le_or_r a b, none)

none_in_both : (a b : ℕ) → a ≡ 0 → b ≡ 0 → bit_or a b ≡ 0
none_in_both a b left right = ap (λ x. bit_or x b) left ∙ right

pub alike_next : (i differences : ℕ) (one other : List ℕ) → (differences ≡ 0) ↔ Alike i one other
    → (bit_or differences (bit_xor (get_or one i 0) (get_or other i 0)) ≡ 0) ↔ Alike (i + 1) one other
alike_next i differences one other before =
    let here = bit_xor (get_or one i 0) (get_or other i 0) in (
      λ none k under. elim (cases_lt k i) [
        | inl earlier ↦ before.0 (none_in_left differences here none) k earlier
        | inr later ↦
            let last : k ≡ i = omega (arith, under, later) in
            rw last (same_from_xor _ _ (none_in_right differences here none))
      ],
      λ alike. none_in_both differences here (before.1 (λ k under. alike k (omega (arith, under)))) (xor_of_same _ _ (alike i (omega arith))),
    )

-- no bit differs exactly where the lists are equal
pub alike_to_the_end : (n differences : ℕ) (one other : List ℕ) → length one ≡ n → length other ≡ n → (differences ≡ 0) ↔ Alike n one other
    → (differences == 0) ≡ bytes_eq one other
alike_to_the_end n differences one other len-one len-other alike =
    let test = Decides-eqb differences 0 in
    same_from_decides _ _ (
      λ yes. ext_get_or 0 one other (len-one ∙ sym len-other) (λ k under. alike.0 (test.0 yes) k (omega (arith, under, len-one))),
      λ same. test.1 (alike.1 (λ k under. ap (λ xs. get_or xs k 0) same)),
    )
    (bytes_eq-Decides one other)
