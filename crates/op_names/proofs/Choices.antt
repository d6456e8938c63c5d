-- What a test says, and what it chose.
use Rattle.std.specs.Str.{bytes_eq}
use Rattle.std.proofs.lemmas.Slice.Eq.{bytes_eq-Decides}
use Rattle.std.proofs.Common.{◌≡◌, ◌⊎◌, ℕ, List, ◌++◌, length, take, drop, nat_eq, Bool, true, false, ◌&&◌, ◌||◌, Some, None, if◌then◌else◌, refl, sym, ap, ◌∙◌, inl, inr}
use Rattle.std.specs.List.{starts_with}
use Rattle.std.proofs.lemmas.List.{take-append-drop}
use Rattle.std.proofs.Math.Seq.{take-append_seam}

pub same_bytes : (a b : List ℕ) → a ≡ b → bytes_eq a b ≡ true
same_bytes a b e = (bytes_eq-Decides a b).1 e

pub from_same_bytes : (a b : List ℕ) → bytes_eq a b ≡ true → a ≡ b
from_same_bytes a b e = (bytes_eq-Decides a b).0 e

-- a value was chosen, so both tests hold
pub chosen : {T : Type 0} (a b : Bool) (x y : T) → (if a && b then Some x else None) ≡ Some y → (a ≡ true) × (b ≡ true) × (x ≡ y)
chosen true true x y h = (refl, refl, cc h)
chosen true false x y h = (refl, cc h, cc h)
chosen false b x y h = (cc h, cc h, cc h)

-- both tests hold
pub both : (a b : Bool) → a && b ≡ true → (a ≡ true) × (b ≡ true)
both true b h = (refl, h)
both false b h = (cc h, cc h)

-- one of two tests holds
pub either : (a b : Bool) → a || b ≡ true → (a ≡ true) ⊎ (b ≡ true)
either true b h = inl refl
either false b h = inr h

-- the value is chosen where both tests hold
pub picked : {T : Type 0} (a b : Bool) (x : T) → a ≡ true → b ≡ true → (if a && b then Some x else None) ≡ Some x
picked a b x h k = rw (h, k) refl

-- a text that begins with another
pub front_of : (text front : List ℕ) → starts_with nat_eq text front ≡ true → text ≡ front ++ drop (length front) text
front_of text front h =
    let same : front ≡ take (length front) text = from_same_bytes front (take (length front) text) h in
    sym (take-append-drop (length front) text) ∙ ap (λ t. t ++ drop (length front) text) (sym same)

pub begins_with : (front rest : List ℕ) → starts_with nat_eq (front ++ rest) front ≡ true
begins_with front rest = same_bytes front (take (length front) (front ++ rest)) (sym (take-append_seam front rest))
