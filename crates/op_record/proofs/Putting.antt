-- Texts that are put one after another.
use Rattle.std.proofs.Common.{◌≡◌, ℕ, zero, suc, ◌+◌, ◌≤◌, ◌<◌, List, [], ◌∷◌, ◌++◌, length, map, take, get_or, Vec, Global, refl, sym, ap, subst, ◌∙◌, append_assoc, arith}
use Rattle.std.specs.Prelude.{vec_capacity}
use Rattle.std.specs.List.{flat_map, concat, AllByRecursion}
use Rattle.std.proofs.lemmas.List.{append-nil, length-append}
use Rattle.std.proofs.Math.Seq.{take-suc}
use Rattle.std.proofs.lemmas.Grind.{flat_map-append}
use Rattle.op_model.specs.declared.grant.Item.{Item}
use Rattle.op_record.specs.Recordable.{IsItem, AreAbove}
use Rattle.op_record.specs.Writing.{Puts}

-- one text, and then another
pub then : (a b : List ℕ) (x y z : Vec ℕ Global) → Puts a x y → Puts b y z → Puts (a ++ b) x z
then a b x y z p q = record {
  lands = λ room.
      let n = length-append a b in
      let first = p.lands (omega arith) in
      let len : length y.items ≡ length x.items + length a = ap length first.0 ∙ length-append x.items a in
      let second = q.lands (omega (arith, first.1)) in
      (second.0 ∙ ap (λ (t : List ℕ). t ++ b) first.0 ∙ append_assoc x.items a b, omega (arith, first.1, second.1));
}

-- one text, and no other
pub last : (a : List ℕ) (x y : Vec ℕ Global) → Puts a x y → Puts (a ++ []) x y
last a x y p = subst (λ (t : List ℕ). Puts t x y) (sym (append-nil a)) p

-- nothing
pub nothing : (x : Vec ℕ Global) → Puts [] x x
nothing x = record { lands = λ room. (sym (append-nil x.items), omega arith) }

row_of : {X : Type 0} (f : X → List ℕ) (xs : List X) (more : List (List ℕ)) → flat_map f xs ++ concat more ≡ concat (map f xs ++ more)
row_of f [] more = refl
row_of f (x ∷ xs) more = append_assoc (f x) (flat_map f xs) (concat more) ∙ ap (λ (t : List ℕ). f x ++ t) (row_of f xs more)

-- pieces that are put at once, and others behind them
pub row_put : {X : Type 0} (f : X → List ℕ) (xs : List X) (more : List (List ℕ)) (x y : Vec ℕ Global) → Puts (flat_map f xs ++ concat more) x y → Puts (concat (map f xs ++ more)) x y
row_put f xs more x y p = subst (λ (t : List ℕ). Puts t x y) (row_of f xs more) p

pub next_piece : {X : Type 0} (f : X → List ℕ) (xs : List X) (i : ℕ) (d : X) → i < length xs → flat_map f (take (i + 1) xs) ≡ flat_map f (take i xs) ++ f (get_or xs i d)
next_piece f xs i d lt =
    let step : i + 1 ≡ suc i = omega arith in
    ap (λ n. flat_map f (take n xs)) step ∙ ap (flat_map f) (take-suc xs i d lt) ∙ flat_map-append f (take i xs) (get_or xs i d ∷ []) ∙ ap (λ (t : List ℕ). flat_map f (take i xs) ++ t) (append-nil (f (get_or xs i d)))

pub take_past : {X : Type 0} (xs : List X) (i : ℕ) → length xs ≤ i → take i xs ≡ xs
take_past [] zero le = refl
take_past [] (suc i) le = refl
take_past (x ∷ xs) zero le = absurd (omega arith)
take_past (x ∷ xs) (suc i) le = ap (λ t. x ∷ t) (take_past xs i (omega arith))

-- an item of a list that is put item by item
pub one_more : {X : Type 0} (f : X → List ℕ) (xs : List X) (i : ℕ) (d : X) (x y z : Vec ℕ Global) → i < length xs → Puts (flat_map f (take i xs)) x y → Puts (f (get_or xs i d)) y z → Puts (flat_map f (take (i + 1) xs)) x z
one_more f xs i d x y z lt p q =
    let next = next_piece f xs i d lt in
    subst (λ (t : List ℕ). Puts t x z) (sym next) (then _ _ x y z p q)

pub all_put : {X : Type 0} (f : X → List ℕ) (xs : List X) (i : ℕ) (x y : Vec ℕ Global) → length xs ≤ i → Puts (flat_map f (take i xs)) x y → Puts (flat_map f xs) x y
all_put f xs i x y le p = subst (λ t. Puts (flat_map f t) x y) (take_past xs i le) p

-- each of a list, by what holds of all
pub one_of_all : {X : Type 0} (P : X → Type 0) (xs : List X) (i : ℕ) (d : X) → AllByRecursion P xs → i < length xs → P (get_or xs i d)
one_of_all P [] i d h lt = absurd (omega (arith, lt))
one_of_all P (x ∷ xs) zero d h lt = h.0
one_of_all P (x ∷ xs) (suc i) d h lt = one_of_all P xs i d h.1 (omega (arith, lt))

-- each item of a list is one
pub item_of_all : (low : ℕ) (xs : List Item) (i : ℕ) (d : Item) → AreAbove low xs → i < length xs → IsItem (get_or xs i d)
item_of_all low [] i d h lt = absurd (omega arith)
item_of_all low (x ∷ xs) zero d h lt = h.1
item_of_all low (x ∷ xs) (suc i) d h lt = item_of_all x.kind xs i d h.2 (omega arith)
