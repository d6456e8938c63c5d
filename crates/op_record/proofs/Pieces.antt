-- Bytes that hold entries, piece by piece.
use Rattle.std.proofs.Common.{◌≡◌, ℕ, zero, suc, ◌+◌, ◌-◌, ◌*◌, ◌<◌, ◌≤◌, lit<, lit≤, List, [], ◌∷◌, ◌++◌, length, take, drop, get_or, Option, Some, None, Result, Ok, Err, Vec, Global, refl, sym, ap, subst, ◌∙◌, append_assoc, arith}
use Rattle.std.specs.Prelude.{slice_set, slice_index_or}
use Rattle.std.specs.Int.{w32, w64, to_be_bytes}
use Rattle.std.proofs.lemmas.List.{append-nil, length-append, set-append_right, take_at}
use Rattle.op_record.specs.Fields.{number}
use Rattle.op_record.specs.Rounds.{round_of}
use Rattle.op_record.specs.Packing.{body_of}
use Rattle.op_record.specs.Writing.{Puts}
use Rattle.op_record.proofs.LengthLaws.{length_number, four_is}

-- ---- the body of a round without entries

pub empty_body : (at : ℕ) (x y : Vec ℕ Global) → Puts (number 4 9 ++ ((2 ∷ []) ++ (number 8 at ++ (0 ∷ [])))) x y → Puts (body_of (round_of at [])) x y
empty_body at x y p =
    let payload = 2 ∷ (number 8 at ++ []) in
    let nine : 9 ≡ length payload = omega (arith, length-append (number 8 at) [], length_number 8 at) in
    let rest : 2 ∷ (number 8 at ++ (0 ∷ [])) ≡ payload ++ 0 ∷ [] = ap (λ (t : List ℕ). 2 ∷ (t ++ 0 ∷ [])) (sym (append-nil (number 8 at))) in
    subst (λ (t : List ℕ). Puts t x y) (ap (λ (n : ℕ). number 4 n ++ (2 ∷ (number 8 at ++ (0 ∷ [])))) nine ∙ ap (λ (t : List ℕ). number 4 (length payload) ++ t) rest ∙ ap (λ (t : List ℕ). t ++ (payload ++ 0 ∷ [])) (four_is (length payload))) p

-- ---- the bytes of a length

set_behind : (text rest : List ℕ) (s k at v : ℕ) → length text ≡ s → at ≡ s + k → slice_set (text ++ rest) at v ≡ text ++ slice_set rest k v
set_behind text rest s k at v len is =
    set-append_right text rest s at v len (omega (arith, is)) ∙ ap (λ (n : ℕ). text ++ slice_set rest n v) (omega (arith, is))

four_set : (digits rest : List ℕ) (a b c d : ℕ) → length digits ≡ 4 → slice_set (slice_set (slice_set (slice_set (digits ++ rest) 0 a) 1 b) 2 c) 3 d ≡ a ∷ b ∷ c ∷ d ∷ rest
four_set [] rest a b c d len = absurd (omega (arith, len))
four_set (v ∷ []) rest a b c d len = absurd (omega (arith, len))
four_set (v ∷ w ∷ []) rest a b c d len = absurd (omega (arith, len))
four_set (v ∷ w ∷ x ∷ []) rest a b c d len = absurd (omega (arith, len))
four_set (v ∷ w ∷ x ∷ y ∷ []) rest a b c d len = refl
four_set (v ∷ w ∷ x ∷ y ∷ z ∷ more) rest a b c d len = absurd (omega (arith, len))

pub four_written : (text digits rest : List ℕ) (s a b c d : ℕ) → length text ≡ s → length digits ≡ 4
    → slice_set (slice_set (slice_set (slice_set (text ++ (digits ++ rest)) s a) (s + 1) b) (s + 2) c) (s + 3) d ≡ text ++ (a ∷ b ∷ c ∷ d ∷ rest)
four_written text digits rest s a b c d len four =
    ap (λ (t : List ℕ). slice_set (slice_set (slice_set t (s + 1) b) (s + 2) c) (s + 3) d) (set_behind text (digits ++ rest) s 0 s a len (omega arith))
    ∙ ap (λ (t : List ℕ). slice_set (slice_set t (s + 2) c) (s + 3) d) (set_behind text (slice_set (digits ++ rest) 0 a) s 1 (s + 1) b len (omega arith))
    ∙ ap (λ (t : List ℕ). slice_set t (s + 3) d) (set_behind text (slice_set (slice_set (digits ++ rest) 0 a) 1 b) s 2 (s + 2) c len (omega arith))
    ∙ set_behind text (slice_set (slice_set (slice_set (digits ++ rest) 0 a) 1 b) 2 c) s 3 (s + 3) d len (omega arith)
    ∙ ap (λ (t : List ℕ). text ++ t) (four_set digits rest a b c d four)

-- the four lowest of eight bytes
pub low_digits : (digits : List ℕ) (n : ℕ) (rest : List ℕ) → digits ≡ to_be_bytes w64 n
    → slice_index_or digits 4 0 ∷ slice_index_or digits 5 0 ∷ slice_index_or digits 6 0 ∷ slice_index_or digits 7 0 ∷ rest ≡ to_be_bytes w32 n ++ rest
low_digits digits n rest is =
    ap (λ (b : List ℕ). slice_index_or b 4 0 ∷ slice_index_or b 5 0 ∷ slice_index_or b 6 0 ∷ slice_index_or b 7 0 ∷ rest) is

-- ---- a round with one more act

pub popped : (items text digits payload : List ℕ) → items ≡ text ++ (digits ++ (payload ++ 0 ∷ [])) → (take (length items - 1) items ≡ text ++ (digits ++ payload)) × (length items ≡ length (text ++ (digits ++ payload)) + 1)
popped items text digits payload is =
    let front = text ++ (digits ++ payload) in
    let whole : items ≡ front ++ 0 ∷ [] =
    is ∙ ap (λ (t : List ℕ). text ++ t) (sym (append_assoc digits payload (0 ∷ []))) ∙ sym (append_assoc text (digits ++ payload) (0 ∷ [])) in
    let long : length items ≡ length front + 1 = ap length whole ∙ length-append front (0 ∷ []) in
    (ap (λ (t : List ℕ). take (length items - 1) t) whole ∙ take_at front (0 ∷ []) (length items - 1) (omega (arith, long)), long)

pub appended : (text digits payload act : List ℕ) → ((text ++ (digits ++ payload)) ++ act) ++ 0 ∷ [] ≡ text ++ (digits ++ ((payload ++ act) ++ 0 ∷ []))
appended text digits payload act =
    append_assoc (text ++ (digits ++ payload)) act (0 ∷ []) ∙ append_assoc text (digits ++ payload) (act ++ 0 ∷ [])
    ∙ ap (λ (t : List ℕ). text ++ t) (append_assoc digits payload (act ++ 0 ∷ []) ∙ ap (λ (t : List ℕ). digits ++ t) (sym (append_assoc payload act (0 ∷ []))))
