-- What items that are not strange name is there.
use Rattle.std.proofs.Common.{◌≡◌, ℕ, ◌≤◌, ◌<◌, Bool, true, false, ◌&&◌, ◌||◌, List, [], ◌∷◌, length, refl, ◌∙◌, sym, ap, Some, None, Option, is_some, arith}
use Rattle.std.proofs.lemmas.Bool.Decides.{nat_tests}
use Rattle.std.specs.Prelude.{is_none, nat_le, IfSome}
use Rattle.std.specs.List.{AllByRecursion, list_any}
use Rattle.std.specs.Option.{option_map, option_map_or, option_and_then}
use Rattle.op_names.specs.declared.AddressName.{AddressName}
use Rattle.op_names.specs.declared.Kind.TheVariants.{Incoming}
use Rattle.op_names.specs.declared.RowName.{RowName}
use Rattle.op_laws.proofs.Lists.{is_counted, counted_some, nth_uncounted}
use Rattle.op_legal.specs.Numbers.{HasAsset, HasAddress, HasIncoming, LimitsNameMade, ItemNamesMade}
use Rattle.op_legal.proofs.Named.{asset_there, address_there}
use Rattle.op_model.specs.Asking.{address_named, row_named}
use Rattle.op_model.specs.GrantAnswers.{items_asked, limits_asked, cap_asked, address_asked, receiver_asked, receiver_there, is_strange, has_strange_limits, is_strange_item}
use Rattle.op_model.specs.History.{nth, asset_number}
use Rattle.op_model.specs.Payments.{incoming_row, incomings}
use Rattle.op_model.specs.declared.act.Entry.{Entry}
use Rattle.op_model.specs.declared.grant.Cap.{Cap}
use Rattle.op_model.specs.declared.request.AskedCap.{AskedCap}
use Rattle.op_model.specs.declared.request.AskedItem.{AskedItem}
use Rattle.op_model.specs.declared.request.AskedLimits.{AskedLimits}
use Rattle.op_model.specs.declared.row.IncomingRow.{IncomingRow}

either_false : (a b : Bool) → (a || b) ≡ false → (a ≡ false) × (b ≡ false)
either_false true b h = absurd (let e : true ≡ false = h in cc)
either_false false b h = (refl, h)

identifier_where : (history : List Entry) (name : Option AddressName) (found : Option ℕ) → address_named history name ≡ found → IfSome found (HasAddress history)
identifier_where history name None is = tt
identifier_where history name (Some n) is = address_there history name n is

identifier_made : (history : List Entry) (name : Option (Option AddressName)) → IfSome (address_asked history name) (HasAddress history)
identifier_made history None = tt
identifier_made history (Some name) = identifier_where history name (address_named history name) refl

there_where : (n : ℕ) (row : Option IncomingRow) → is_none (option_map (λ (r : IncomingRow). n) row) ≡ false → is_some row ≡ true
there_where n None h = absurd (let e : true ≡ false = h in cc)
there_where n (Some r) h = refl

receiver_where : (history : List Entry) (found : Option ℕ) → is_none (option_and_then (λ i. option_map (λ row. i) (incoming_row history i)) found) ≡ false → IfSome found (HasIncoming history)
receiver_where history None h = tt
receiver_where history (Some n) h = there_where n (incoming_row history n) h

receiver_made : (history : List Entry) (name : Option (Option RowName)) → is_strange name (receiver_there history name) ≡ false → IfSome (receiver_asked history name) (HasIncoming history)
receiver_made history None h = tt
receiver_made history (Some name) h = receiver_where history (row_named history Incoming name) h

cap_where : (history : List Entry) (cap : AskedCap) (found : Option ℕ) → asset_number history cap.amount.asset ≡ found
    → IfSome (option_map (λ n. let c : Cap = record { debit = cap.debit; sum = record { asset = n; value = cap.amount.value } } in c) found) (λ c. HasAsset history c.sum.asset)
cap_where history cap None is = tt
cap_where history cap (Some n) is = asset_there history cap.amount.asset n is

cap_made : (history : List Entry) (cap : Option AskedCap) → IfSome (option_and_then (cap_asked history) cap) (λ c. HasAsset history c.sum.asset)
cap_made history None = tt
cap_made history (Some cap) = cap_where history cap (asset_number history cap.amount.asset) refl

limits_made : (history : List Entry) (limits : Option AskedLimits) → option_map_or (has_strange_limits history) limits false ≡ false → IfSome (option_map (limits_asked history) limits) (LimitsNameMade history)
limits_made history None h = tt
limits_made history (Some l) h =
    let parts = either_false (is_strange l.receiver (receiver_there history l.receiver)) (option_map_or (λ cap. is_none (cap_asked history cap)) l.cap false) h in
    record { receiver = receiver_made history l.receiver parts.0; cap = cap_made history l.cap }

pub items_made : (history : List Entry) (items : List AskedItem) → list_any (is_strange_item history) items ≡ false → AllByRecursion (ItemNamesMade history) (items_asked history items)
items_made history [] h = tt
items_made history (x ∷ xs) h =
    let parts = either_false (is_strange_item history x) (list_any (is_strange_item history) xs) h in
    let own = either_false (is_strange x.identifier (address_asked history x.identifier)) (option_map_or (has_strange_limits history) x.limits false) parts.0 in
    (record { identifier = identifier_made history x.identifier; limits = limits_made history x.limits own.1 }, items_made history xs parts.1)

-- ---- numbers of incoming payments

counted_where : {X : Type 0} (b : Bool) (xs : List X) (n : ℕ) → is_counted n (length xs) ≡ b → is_some (nth xs n) ≡ b
counted_where true xs n h = counted_some xs n h
counted_where false xs n h = ap is_some (nth_uncounted xs n h)

is_there : (history : List Entry) (count n : ℕ) → count ≡ length (incomings history) → (nat_le 1 n && nat_le n count) ≡ is_some (incoming_row history n)
is_there history count n same = ap (is_counted n) same ∙ sym (counted_where (is_counted n (length (incomings history))) (incomings history) n refl)

pub there_above : (history : List Entry) (count n : ℕ) → 1 ≤ n → count ≡ length (incomings history) → nat_le n count ≡ is_some (incoming_row history n)
there_above history count n some same = let e : nat_le 1 n ≡ true = grind (arith, nat_tests) in ap (λ (b : Bool). b && nat_le n count) (sym e) ∙ is_there history count n same

pub there_below : (history : List Entry) (count n : ℕ) → n < 1 → count ≡ length (incomings history) → nat_le 1 n ≡ is_some (incoming_row history n)
there_below history count n none same = let e : nat_le 1 n ≡ false = grind (arith, nat_tests) in e ∙ ap (λ (b : Bool). b && nat_le n count) (sym e) ∙ is_there history count n same
