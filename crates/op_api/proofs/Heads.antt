-- The parts of a head, one behind another.
use Rattle.std.proofs.Common.{◌≡◌, ◌++◌, ℕ, List, refl, append_assoc}

pub fields_in_order : (fields size more end body : List ℕ) → (fields ++ (size ++ more)) ++ (end ++ body) ≡ fields ++ (size ++ (more ++ (end ++ body)))
fields_in_order fields size more end body = simp append_assoc refl
