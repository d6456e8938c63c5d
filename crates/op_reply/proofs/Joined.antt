-- Texts in several parts.
use Rattle.std.proofs.Common.{◌≡◌, List, ℕ, ◌++◌, Ok, Err, ap, ◌∙◌, append_assoc}
use Rattle.std.specs.Prelude.{Result, OnOk, is_ok, if◌then◌else◌}

-- one part more behind what was written so far
pub and_then : (old new written part told : List ℕ) → new ≡ old ++ part → old ≡ written → part ≡ told → new ≡ written ++ told
and_then old new written part told is so_far e = is ∙ (ap (λ x. x ++ part) so_far ∙ ap (λ x. written ++ x) e)

pub behind_three : (out a b c : List ℕ) → ((out ++ a) ++ b) ++ c ≡ out ++ ((a ++ b) ++ c)
behind_three out a b c = simp append_assoc

pub nine_parts : (a b c d e f g h i : List ℕ) → (((((((a ++ b) ++ c) ++ d) ++ e) ++ f) ++ g) ++ h) ++ i ≡ a ++ (b ++ (c ++ (d ++ (e ++ (f ++ (g ++ (h ++ i)))))))
nine_parts a b c d e f g h i = simp append_assoc

-- the challenge: what stands before an origin, the origin, and what stands behind it
pub challenge_parts : (out before begin origin path end : List ℕ)
    → ((out ++ (before ++ begin)) ++ origin) ++ (path ++ end) ≡ out ++ (before ++ ((begin ++ (origin ++ path)) ++ end))
challenge_parts out before begin origin path end = simp append_assoc

-- what stands there where the call succeeded
pub if_ok : {T E : Type 0} (r : Result T E) (new more old : List ℕ) → new ≡ (if is_ok r then more else old) → OnOk r (new ≡ more)
if_ok (Ok x) new more old is = is
if_ok (Err e) new more old is = tt
