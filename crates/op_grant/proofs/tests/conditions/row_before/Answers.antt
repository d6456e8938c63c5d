use Rattle.std.proofs.Common.{ℕ, zero, suc, Bool, true, false, List, ◌∷◌, ◌++◌, arith}
use Rattle.std.specs.Prelude.{All}
use Rattle.std.specs.Bool.{OnTrue}
use Rattle.std.specs.Option.{option_to_list}
use Rattle.std.proofs.lemmas.List.Elements.{All-append}
use Rattle.op_grant.specs.Places.{IsDrawnBefore}
use Rattle.op_grant.proofs.tests.conditions.row_before.Goals as goal

all_with : (P : List ℕ → Type 0) (x : List ℕ) (xs : List (List ℕ)) → P x → All P xs → All P (x ∷ xs)
all_with P x xs h all zero d within = h
all_with P x xs h all (suc k) d within = all k d (omega (arith, within))

joined : (b : Bool) (P : List ℕ → Type 0) (x y : List ℕ) (xs ys : List (List ℕ)) → P x → P y → All P xs → OnTrue b (All P ys) → OnTrue b (All P (x ∷ y ∷ (xs ++ ys)))
joined true P x y xs ys h k all rest = all_with P x (y ∷ (xs ++ ys)) h (all_with P y (xs ++ ys) k (All-append P xs ys all rest))
joined false P x y xs ys h k all rest = rest

pub returns : goal.returns
returns c =
    let row = c.args.row.now in
    joined c.some_before-2.result (IsDrawnBefore c.args.place) row.continuation row.nonce (option_to_list row.access) (option_to_list row.reference)
    c.if-not-lies_before.ensures c.if-not-lies_before-2.ensures c.if-not-some_before.ensures c.some_before-2.ensures
