-- Items and finishes, read back.
use Rattle.std.proofs.Common.{◌≡◌, ℕ, zero, suc, ◌+◌, ◌-◌, ◌<◌, ◌≤◌, Bool, true, false, lit<, lit≤, List, [], ◌∷◌, ◌++◌, length, Option, Some, None, Result, Ok, Err, refl, sym, ap, subst, ◌∙◌, append_assoc, arith}
use Rattle.std.specs.Prelude.{IfSome}
use Rattle.std.specs.List.{flat_map}
use Rattle.std.proofs.lemmas.List.{append-nil}
use Rattle.op_model.specs.Legal.{has_actions}
use Rattle.op_model.specs.declared.grant.Limits.{Limits}
use Rattle.op_model.specs.declared.grant.Item.{Item}
use Rattle.op_model.specs.declared.grant.Finish.{Finish}
use Rattle.op_record.specs.Fields.{number, text, optional, limits, item, items, finish}
use Rattle.op_record.specs.Recordable.{IsShort, AreLimits, IsItem, AreAbove, AreItems, IsFinish, IsU32, FitsLimits, FitsItem, FitItems}
use Rattle.op_record.specs.Readers.{Reader, bind, done, byte, byte_between, text_at, option_at}
use Rattle.op_record.specs.Rows.{u32_at, limits_at, item_at, more_items_at, items_at, finish_at}
use Rattle.op_record.proofs.FieldLaws.{Field, Row, row-bind, row-done, row-last, again-bind, again-done, field-of, field-fits, one, byte-field, IsBetween, between-field, text-field, option-field}
use Rattle.op_record.proofs.Parts.{u32-field, limits-field}

-- to create is an action of each type
one_action : (kind : ℕ) → 1 ≤ kind → kind ≤ 3 → has_actions kind 1 ≡ true
one_action zero low high = absurd (omega arith)
one_action (suc zero) low high = refl
one_action (suc (suc zero)) low high = refl
one_action (suc (suc (suc zero))) low high = refl
one_action (suc (suc (suc (suc n)))) low high = absurd (omega arith)

actions-field : (kind : ℕ) → 1 ≤ kind → kind ≤ 3 → Field (byte (has_actions kind)) one (λ b. has_actions kind b ≡ true)
actions-field kind low high = byte-field (has_actions kind) 1 (one_action kind low high)

abbrev HasLimits : Limits → Type 0
HasLimits l = AreLimits l × FitsLimits l

split : (o : Option Limits) → IfSome o HasLimits → IfSome o AreLimits × IfSome o FitsLimits
split None h = (tt, tt)
split (Some l) h = h

join : (o : Option Limits) → IfSome o AreLimits → IfSome o FitsLimits → IfSome o HasLimits
join None h k = tt
join (Some l) h k = (h, k)

abbrev pub ItemFits : (low high : ℕ) → Item → Type 0
ItemFits low high i = (low ≤ i.kind) × (i.kind ≤ high) × IsItem i × FitsItem i

item_again : (low high : ℕ) → 1 ≤ low → low ≤ high → high ≤ 3 → (i : Item) (rest : List ℕ) → ItemFits low high i → item_at low high (item i ++ rest) ≡ Ok (i, rest)
unfolding item_at
item_again low high first order last i rest h =
    again-bind (between-field low high order) _ i.kind (i.actions ∷ (optional (number 4) i.identifier ++ (optional limits i.limits ++ []))) rest _ (h.0, h.1)
    (again-bind (actions-field i.kind (omega (arith, h.0)) (omega (arith, h.1))) _ i.actions (optional (number 4) i.identifier ++ (optional limits i.limits ++ [])) rest _ (h.2.1)
    (again-bind (option-field u32-field) _ i.identifier _ rest _ (h.3.0)
    (again-bind (option-field limits-field) _ i.limits [] rest _ (join i.limits (h.2.2) (h.3.1))
    (again-done i rest))))

item-field : (low high : ℕ) → 1 ≤ low → low ≤ high → high ≤ 3 → Field (item_at low high) item (ItemFits low high)
unfolding item_at
item-field low high first order last = field-of (item_at low high) item (ItemFits low high)
    (row-bind _ (between-field low high order) (λ kind k. row-bind _ (actions-field kind (omega (arith, k.0)) (omega (arith, k.1))) (λ actions a.
    row-bind _ (option-field u32-field) (λ identifier u. row-bind _ (option-field limits-field) (λ l f.
    row-done _ _ refl (k.0, k.1, (omega (arith, k.1), a, (split l f).0), (u, (split l f).1)))))))
    (item_again low high first order last)

-- ---- items in ascending type

abbrev MoreFits : (left above : ℕ) → List Item → Type 0
MoreFits left above xs = (length xs ≡ left) × AreAbove above xs × FitItems xs

-- each item above leaves less room for the next
pub room : (above : ℕ) (xs : List Item) → above ≤ 3 → AreAbove above xs → above + length xs ≤ 3
room above [] le h = omega arith
room above (x ∷ xs) le h = omega (arith, room x.kind xs h.1.0 h.2, h.0)

none_again : (above : ℕ) (xs : List Item) (rest : List ℕ) → MoreFits 0 above xs → done {A = List Item} [] (flat_map item xs ++ rest) ≡ Ok (xs, rest)
unfolding done
none_again above [] rest h = refl
none_again above (x ∷ xs) rest h = absurd (omega (arith, h.0))

abbrev after_item : ℕ → Item → Reader (List Item)
after_item left first = bind (more_items_at left first.kind) (λ others. done (first ∷ others))

more_again : (left above : ℕ) (le : above + suc left ≤ 3) → ((k : ℕ) → k + left ≤ 3 → Field (more_items_at left k) (flat_map item) (MoreFits left k))
    → (xs : List Item) (rest : List ℕ) → MoreFits (suc left) above xs → bind (item_at (above + 1) (3 - left)) (after_item left) (flat_map item xs ++ rest) ≡ Ok (xs, rest)
more_again left above le fields [] rest h = absurd (omega (arith, h.0))
more_again left above le fields (x ∷ xs) rest h =
    let len : length xs ≡ left = omega (arith, h.0) in
    let fits : x.kind + length xs ≤ 3 = room x.kind xs (h.1.1.0) (h.1.2) in
    again-bind (item-field (above + 1) (3 - left) (omega arith) (omega arith) (omega arith)) (after_item left) x (flat_map item xs) rest _
    (omega (arith, h.1.0), omega arith, h.1.1, h.2.0)
    (ap (λ (t : List ℕ). after_item left x (t ++ rest)) (sym (append-nil (flat_map item xs)))
    ∙ again-bind (fields x.kind (omega arith)) (λ others. done (x ∷ others)) xs [] rest _ (len, h.1.2, h.2.1) (again-done (x ∷ xs) rest))

more-field : (left above : ℕ) → above + left ≤ 3 → Field (more_items_at left above) (flat_map item) (MoreFits left above)
unfolding more_items_at
more-field zero above le = field-of (done []) (flat_map item) (MoreFits 0 above) (row-done _ [] refl (refl, tt, tt)) (none_again above)
more-field (suc left) above le = field-of (bind (item_at (above + 1) (3 - left)) (after_item left)) (flat_map item) (MoreFits (suc left) above)
    (row-bind _ (item-field (above + 1) (3 - left) (omega arith) (omega arith) (omega arith)) (λ first f.
    row-bind _ (more-field left first.kind (omega (arith, f.1))) (λ others o.
    row-done _ (first ∷ others) (ap (λ (t : List ℕ). item first ++ t) (append-nil (flat_map item others))) (omega (arith, o.0), (omega (arith, f.0), f.2, o.1), (f.3, o.2)))))
    (more_again left above le (λ k h. more-field left k h))

abbrev ItemsFit : List Item → Type 0
ItemsFit xs = AreItems xs × FitItems xs

items_again : (xs : List Item) (rest : List ℕ) → ItemsFit xs → items_at (items xs ++ rest) ≡ Ok (xs, rest)
unfolding items_at
items_again xs rest h =
    let fits : 0 + length xs ≤ 3 = room 0 xs (lit≤ tt) (h.0.1) in
    again-bind (between-field 1 3 (lit≤ tt)) (λ count. more_items_at count 0) (length xs) (flat_map item xs) rest _ (h.0.0, omega arith)
    ((more-field (length xs) 0 fits).again xs rest (refl, h.0.1, h.1))

pub items-field : Field items_at items (λ xs. AreItems xs × FitItems xs)
unfolding items_at
items-field = field-of items_at items (λ xs. AreItems xs × FitItems xs)
    (row-bind _ (between-field 1 3 (lit≤ tt)) (λ count c. row-last _ (more-field count 0 (omega (arith, c.1))) (λ xs m.
    (ap (λ (v : ℕ). v ∷ flat_map item xs) (sym m.0), ((omega (arith, c.0, m.0), m.1), m.2)))))
    items_again

-- ---- finishes

finish_again : (f : Finish) (rest : List ℕ) → IsFinish f → finish_at (finish f ++ rest) ≡ Ok (f, rest)
unfolding finish_at
finish_again f rest h =
    again-bind (text-field 512 (lit< tt)) _ f.uri _ rest _ h.0 (again-bind (text-field 128 (lit< tt)) _ f.nonce [] rest _ h.1 (again-done f rest))

pub finish-field : Field finish_at finish IsFinish
unfolding finish_at
finish-field = field-of finish_at finish IsFinish
    (row-bind _ (text-field 512 (lit< tt)) (λ uri u. row-bind _ (text-field 128 (lit< tt)) (λ nonce n. row-done _ _ refl (u, n))))
    finish_again
