-- The items of a grant request keep their forms, and stand in ascending order.
use Rattle.std.proofs.Common.{◌≡◌, ℕ, Bool, true, false, List, [], ◌∷◌, Some, None, length, refl}
use Rattle.std.specs.Prelude.{◌&&◌, ◌==◌, nat_le, codes, if◌then◌else◌, option_and_then}
use Rattle.std.specs.List.{find, list_all}
use Rattle.std.specs.declared.option.Option.{Option}
use Rattle.std.proofs.lemmas.Bool.{and_parts, eqb-true}
use Rattle.serde_json.specs.Data.{Data}
use Rattle.op_model.specs.GrantMembers.{access_in, actions_in, identifier_in, if_distinct, if_item, item_with, limits_in, item_in, item_of_kind, items_by_kind, kind_in}
use Rattle.op_model.specs.Json.{each_of, if_object, list_in, text_in, with_each}
use Rattle.op_model.specs.Legal.{are_items, is_ascending, is_item}
use Rattle.op_model.specs.declared.request.AskedItem.{AskedItem}
use Rattle.op_api.specs.Slots.{in_slots}
use Rattle.op_api.proofs.ValueForms.{Whatever, yields_any}
use Rattle.op_api.proofs.Yields.{Yields, both, some_same, yields_then, yields_if}

abbrev IsProper : AskedItem → Type 0
IsProper item = is_item item ≡ true

abbrev AreProper : List AskedItem → Type 0
AreProper items = list_all is_item items ≡ true

checked_item : (item : AskedItem) → Yields IsProper (if_item item)
checked_item item = yields_if IsProper (is_item item) item (λ e. e)

kind_form : (v : Data) (kind : ℕ) → Yields IsProper (item_of_kind v kind)
kind_form v kind =
    yields_then Whatever IsProper (λ bits. option_and_then (λ identifier. option_and_then (λ limits. if_item (item_with kind bits identifier limits)) (limits_in kind v)) (identifier_in kind v)) (actions_in v) (yields_any _) (λ bits t.
    yields_then Whatever IsProper (λ identifier. option_and_then (λ limits. if_item (item_with kind bits identifier limits)) (limits_in kind v)) (identifier_in kind v) (yields_any _) (λ identifier t.
    yields_then Whatever IsProper (λ limits. if_item (item_with kind bits identifier limits)) (limits_in kind v) (yields_any _) (λ limits t. checked_item (item_with kind bits identifier limits))))

item_form : (v : Data) → Yields IsProper (item_in v)
item_form v = yields_then Whatever IsProper (item_of_kind v) (option_and_then kind_in (text_in (codes "type") v)) (yields_any _) (λ kind t. kind_form v kind)

with_item : (o : Option AskedItem) (os : Option (List AskedItem)) → Yields IsProper o → Yields AreProper os → Yields AreProper (with_each o os)
with_item (Some x) (Some xs) h k y e = some_same AreProper (x ∷ xs) y (both (is_item x) (list_all is_item xs) (h x refl) (k xs refl)) e
with_item (Some x) None h k y e = absurd cc
with_item None os h k y e = absurd cc

items_form : (ds : List Data) → Yields AreProper (each_of item_in ds)
items_form [] y e = some_same AreProper [] y refl e
items_form (d ∷ ds) y e = with_item (item_in d) (each_of item_in ds) (item_form d) (items_form ds) y e

-- an item of a kind that is proper
pub record IsOf (kind : ℕ) (item : AskedItem) : Type 0 where
  pub proper : is_item item ≡ true
  pub of : item.kind ≡ kind

pick_form : (kind : ℕ) (x : AskedItem) (rest : Option AskedItem) (b : Bool) → is_item x ≡ true → (x.kind == kind) ≡ b → Yields (IsOf kind) rest → Yields (IsOf kind) (if b then Some x else rest)
pick_form kind x rest true p t h y e = some_same (IsOf kind) x y (record { proper = p; of = eqb-true x.kind kind t }) e
pick_form kind x rest false p t h y e = h y e

find_form : (kind : ℕ) (items : List AskedItem) → AreProper items → Yields (IsOf kind) (find (λ item. item.kind == kind) items)
find_form kind [] h y e = absurd cc
find_form kind (x ∷ xs) h y e =
    let parts = and_parts (is_item x) (list_all is_item xs) h in
    pick_form kind x (find (λ item. item.kind == kind) xs) (x.kind == kind) parts.0 refl (find_form kind xs parts.1) y e

in_order : (a b c : Option AskedItem) → Yields (IsOf 1) a → Yields (IsOf 2) b → Yields (IsOf 3) c → (list_all is_item (in_slots (a ∷ b ∷ c ∷ [])) && is_ascending (in_slots (a ∷ b ∷ c ∷ []))) ≡ true
in_order None None None x y z = refl
in_order (Some a) None None x y z = let p = x a refl in rw p.proper refl
in_order None (Some b) None x y z = let q = y b refl in rw q.proper refl
in_order None None (Some c) x y z = let r = z c refl in rw r.proper refl
in_order (Some a) (Some b) None x y z = let p = x a refl in let q = y b refl in rw (p.proper, q.proper, p.of, q.of) refl
in_order (Some a) None (Some c) x y z = let p = x a refl in let r = z c refl in rw (p.proper, r.proper, p.of, r.of) refl
in_order None (Some b) (Some c) x y z = let q = y b refl in let r = z c refl in rw (q.proper, r.proper, q.of, r.of) refl
in_order (Some a) (Some b) (Some c) x y z = let p = x a refl in let q = y b refl in let r = z c refl in rw (p.proper, q.proper, r.proper, p.of, q.of, r.of) refl

ordered : (items : List AskedItem) → AreProper items → (list_all is_item (items_by_kind items) && is_ascending (items_by_kind items)) ≡ true
ordered items h = in_order (find (λ item. item.kind == 1) items) (find (λ item. item.kind == 2) items) (find (λ item. item.kind == 3) items) (find_form 1 items h) (find_form 2 items h) (find_form 3 items h)

distinct_form : (items : List AskedItem) → AreProper items → Yields (λ xs. are_items xs ≡ true) (if_distinct items)
distinct_form items h = yields_if (λ xs. are_items xs ≡ true) (nat_le 1 (length items) && (length (items_by_kind items) == length items)) (items_by_kind items) (λ t.
    let tests = and_parts (nat_le 1 (length items)) (length (items_by_kind items) == length items) t in
    let forms = and_parts (list_all is_item (items_by_kind items)) (is_ascending (items_by_kind items)) (ordered items h) in
    let some : nat_le 1 (length (items_by_kind items)) ≡ true = rw (eqb-true (length (items_by_kind items)) (length items) tests.1) tests.0 in
    both (nat_le 1 (length (items_by_kind items)) && list_all is_item (items_by_kind items)) (is_ascending (items_by_kind items)) (both (nat_le 1 (length (items_by_kind items))) (list_all is_item (items_by_kind items)) some forms.0) forms.1)

access_form : (d : Data) → Yields (λ xs. are_items xs ≡ true) (access_in d)
access_form d = yields_then AreProper (λ xs. are_items xs ≡ true) if_distinct (option_and_then (each_of item_in) (list_in (codes "access") d))
    (yields_then Whatever AreProper (each_of item_in) (list_in (codes "access") d) (yields_any _) (λ ds t. items_form ds)) (λ items h. distinct_form items h)

pub access_token_form : (v : Data) → Yields (λ xs. are_items xs ≡ true) (option_and_then access_in (if_object v))
access_token_form v = yields_then Whatever (λ xs. are_items xs ≡ true) access_in (if_object v) (yields_any _) (λ d t. access_form d)
