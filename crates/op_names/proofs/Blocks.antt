-- The key's block and its masks.
use Rattle.std.proofs.Common.{◌≡◌, ℕ, ◌<◌, ◌≤◌, List, ◌++◌, length, drop, replicate, set, inl, inr, ◌+◌, get_or, bit_xor, nat_lt, false, arith, refl, sym, ◌∙◌}
use Rattle.std.proofs.lemmas.List.{drop-replicate, get_or-map, length-map, get_or-set_same, get_or-set_other}
use Rattle.std.proofs.lemmas.Grind.{same_number_lists}
use Rattle.std.proofs.lemmas.Bool.{cases_lt}
use Rattle.std.proofs.lemmas.Bool.Decides.{nat_tests}
use Rattle.op_names.specs.Hmac.{key_block, masked}

pub block_of_short : (key : List ℕ) → length key ≤ 64 → key ++ drop (length key) (replicate 64 0) ≡ key_block key
block_of_short key h =
    let short : nat_lt 64 (length key) ≡ false = grind (arith, nat_tests) in
    rw (drop-replicate {X = ℕ} (length key) 64 0, short) refl

pub masked_by_place : (mask : ℕ) (block out : List ℕ) → length out ≡ length block → ((k : ℕ) → k < length block → get_or out k 0 ≡ bit_xor (get_or block k 0) mask) → out ≡ masked mask block
masked_by_place mask block out len each =
    same_number_lists out (masked mask block) (len ∙ sym (length-map block (λ b. bit_xor b mask))) (λ k within.
    each k (omega arith) ∙ sym (get_or-map (λ b. bit_xor b mask) block k 0 0 (omega arith)))

pub next_masked : (mask i : ℕ) (block out : List ℕ) → i < length out → ((k : ℕ) → k < i → get_or out k 0 ≡ bit_xor (get_or block k 0) mask)
    → (k : ℕ) → k < i + 1 → get_or (set out i (bit_xor (get_or block i 0) mask)) k 0 ≡ bit_xor (get_or block k 0) mask
next_masked mask i block out within before k h = elim (cases_lt k i) [
  | inl under ↦ get_or-set_other out i k _ 0 (λ e. omega arith) ∙ before k under
  | inr over ↦
      let here : k ≡ i = omega arith in
      rw here (get_or-set_same out i _ 0 within)
]
