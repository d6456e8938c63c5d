-- Numbers of rows that are there are at most as many as entries made.
use Rattle.std.proofs.Common.{◌≡◌, ℕ, zero, suc, ◌+◌, ◌*◌, ◌<◌, ◌≤◌, Bool, true, false, cond, List, [], ◌∷◌, ◌++◌, length, refl, ◌∙◌, sym, arith, Some, None, Option, is_some, length-append}
use Rattle.std.proofs.lemmas.List.FromFn.{length-enumerate_from}
use Rattle.std.proofs.lemmas.List.Sums.{count_by-le-length}
use Rattle.std.specs.Prelude.{slice_get}
use Rattle.std.specs.List.{filter_map, cons_option}
use Rattle.std.specs.Option.{option_map, option_map_or, option_to_list}
use Rattle.op_model.specs.Events.{events, events_added, act_events, incoming_event, incoming_event_of, outgoing_event, outgoing_event_of, filled_by, filled_event, filled_row, is_filled, event_row}
use Rattle.op_model.specs.declared.row.EventWord.{EventWord}
use Rattle.op_model.specs.declared.row.EventWord.TheVariants as words
use Rattle.op_model.specs.Grants.{grants_made, grant_asked, grant_row}
use Rattle.op_model.specs.History.{nth, numbered, along_from}
use Rattle.op_model.specs.Payments.{incomings, incoming_made, incoming_row, quotes, quote_added, quote_row, payments_made, payment_added, outgoing_row, made_from_quote, step_number, is_step}
use Rattle.op_model.specs.declared.act.Act.{Act}
use Rattle.op_model.specs.declared.act.Act.TheVariants as acts
use Rattle.op_model.specs.declared.act.Entry.{Entry}
use Rattle.op_model.specs.declared.row.IncomingRow.{IncomingRow}
use Rattle.op_model.specs.declared.row.OutgoingRow.{OutgoingRow}
use Rattle.op_legal.proofs.Stays.{outgoing_made}
use Rattle.op_legal.proofs.Unnamed.{grant_made}

-- ---- a number of an item that is there

get_within : {X : Type 0} (xs : List X) (k : ℕ) → is_some (slice_get xs k) ≡ true → k < length xs
get_within [] k h = absurd (let e : false ≡ true = h in cc)
get_within (x ∷ xs) zero h = let longer : length (x ∷ xs) ≡ suc (length xs) = refl in omega (arith, longer)
get_within (x ∷ xs) (suc k) h =
    let longer : length (x ∷ xs) ≡ suc (length xs) = refl in
    let rest = get_within xs k h in
    omega (arith, longer, rest)

pub nth_within : {X : Type 0} (xs : List X) (n : ℕ) → is_some (nth xs n) ≡ true → n ≤ length xs
nth_within xs zero h = omega arith
nth_within xs (suc k) h = let less = get_within xs k h in omega (arith, less)

-- ---- how many are made

length-cons_option : {X : Type 0} (o : Option X) (xs : List X) → length (cons_option o xs) ≤ 1 + length xs
length-cons_option None xs = omega arith
length-cons_option (Some x) xs = let longer : length (x ∷ xs) ≡ suc (length xs) = refl in omega (arith, longer)

pub length-filter_map : {A X : Type 0} (choice : A → Option X) (xs : List A) → length (filter_map choice xs) ≤ length xs
length-filter_map choice [] = omega arith
length-filter_map choice (x ∷ xs) =
    let longer : length (x ∷ xs) ≡ suc (length xs) = refl in
    let own = length-cons_option (choice x) (filter_map choice xs) in
    let rest = length-filter_map choice xs in
    omega (arith, longer, own, rest)

length_from : {X : Type 0} (add : List Entry → Entry → List X) (c : ℕ) (before xs : List Entry) → ((h : List Entry) (e : Entry) → length (add h e) ≤ c) → length (along_from add before xs) ≤ c * length xs
length_from add c before [] each = omega arith
length_from add c before (e ∷ es) each =
    let longer : length (e ∷ es) ≡ suc (length es) = refl in
    let parts = length-append (add before e) (along_from add (before ++ e ∷ []) es) in
    let own = each before e in
    let rest = length_from add c (before ++ e ∷ []) es each in
    let product : c * length (e ∷ es) ≡ c + c * length es = omega (arith, longer) in
    omega (arith, parts, own, rest, product)

length-option_to_list : {X : Type 0} (o : Option X) → length (option_to_list o) ≤ 1
length-option_to_list None = omega arith
length-option_to_list (Some x) = let one : length (x ∷ []) ≡ 1 = refl in omega (arith, one)

quote_one : (h : List Entry) (t : ℕ) (act : Act) → length (quote_added h t act) ≤ 1
quote_one h t (acts.QuoteMade grant address incoming mode asked debit source fee receive num den) = omega arith
quote_one h t _ = omega arith

payment_one : (h : List Entry) (t : ℕ) (act : Act) → length (payment_added h t act) ≤ 1
payment_one h t (acts.OutgoingMade grant quote metadata) = length-option_to_list (option_map (made_from_quote t grant quote metadata) (quote_row h quote))
payment_one h t (acts.OutgoingDirect grant address incoming debit source fee receive num den metadata) = omega arith
payment_one h t _ = omega arith

either_short : {X : Type 0} (b : Bool) (x : X) → length (cond b (x ∷ []) []) ≤ 1
either_short true x = omega arith
either_short false x = omega arith

filled_one : (before after : List Entry) (t i : ℕ) (row : Option IncomingRow) → length (option_map_or (filled_row before after t i) row []) ≤ 1
filled_one before after t i None = omega arith
filled_one before after t i (Some row) = either_short (is_filled before after i row) _

filled_where : (before after : List Entry) (t : ℕ) (row : Option OutgoingRow) → length (option_map_or (filled_event before after t) row []) ≤ 1
filled_where before after t None = omega arith
filled_where before after t (Some row) = filled_one before after t row.terms.incoming (incoming_row after row.terms.incoming)

incoming_one : (after : List Entry) (t : ℕ) (word : EventWord) (i : ℕ) → length (incoming_event after t word i) ≤ 1
incoming_one after t word i = length-option_to_list (option_map (incoming_event_of after t word i) (incoming_row after i))

outgoing_one : (after : List Entry) (t : ℕ) (word : EventWord) (p : ℕ) → length (outgoing_event after t word p) ≤ 1
outgoing_one after t word p = length-option_to_list (option_map (outgoing_event_of after t word p) (outgoing_row after p))

two_of : (n : ℕ) → n ≤ 1 → n ≤ 2
two_of n h = omega (arith, h)

events_two : (before after : List Entry) (t : ℕ) (act : Act) → length (act_events before after t act) ≤ 2
events_two before after t (acts.IncomingMade grant address amount expiry metadata) = two_of _ (incoming_one after t words.IncomingCreated (length (incomings after)))
events_two before after t (acts.IncomingCompleted grant incoming) = two_of _ (incoming_one after t words.IncomingCompleted incoming)
events_two before after t (acts.IncomingExpired incoming) = two_of _ (incoming_one after t words.IncomingExpired incoming)
events_two before after t (acts.OutgoingMade grant quote metadata) = two_of _ (outgoing_one after t words.OutgoingCreated (length (payments_made after)))
events_two before after t (acts.OutgoingDirect grant address incoming debit source fee receive num den metadata) = two_of _ (outgoing_one after t words.OutgoingCreated (length (payments_made after)))
events_two before after t (acts.OutgoingSent payment step) = two_of _ (filled_where before after t (outgoing_row after payment))
events_two before after t (acts.OutgoingCompleted payment step) =
    let one = outgoing_one after t words.OutgoingCompleted payment in
    let two = filled_where before after t (outgoing_row after payment) in
    let parts = length-append (outgoing_event after t words.OutgoingCompleted payment) (filled_by before after t payment) in
    omega (arith, one, two, parts)
events_two before after t (acts.OutgoingFailed payment step reason) = two_of _ (outgoing_one after t words.OutgoingFailed payment)
events_two before after t _ = omega arith

-- ---- numbers of rows

pub grant_within : (history : List Entry) (g : ℕ) → is_some (grant_row history g) ≡ true → g ≤ length history
grant_within history g h =
    let own = nth_within (grants_made history) g (sym (grant_made history g) ∙ h) in
    let all = length-filter_map (λ (place, e). grant_asked place e.at e.act) (numbered history) in
    let same = length-enumerate_from 1 history in
    omega (arith, own, all, same)

pub incoming_within : (history : List Entry) (i : ℕ) → is_some (incoming_row history i) ≡ true → i ≤ length history
incoming_within history i h =
    let own = nth_within (incomings history) i h in
    let all = length-filter_map (λ (e : Entry). incoming_made e.at e.act) history in
    omega (arith, own, all)

pub quote_within : (history : List Entry) (q : ℕ) → is_some (quote_row history q) ≡ true → q ≤ length history
quote_within history q h =
    let own = nth_within (quotes history) q h in
    let all = length_from (λ before e. quote_added before e.at e.act) 1 [] history (λ before e. quote_one before e.at e.act) in
    omega (arith, own, all)

pub outgoing_within : (history : List Entry) (p : ℕ) → is_some (outgoing_row history p) ≡ true → p ≤ length history
outgoing_within history p h =
    let own = nth_within (payments_made history) p (sym (outgoing_made history p) ∙ h) in
    let all = length_from (λ before e. payment_added before e.at e.act) 1 [] history (λ before e. payment_one before e.at e.act) in
    omega (arith, own, all)

pub event_within : (history : List Entry) (n : ℕ) → is_some (event_row history n) ≡ true → n ≤ 2 * length history
event_within history n h =
    let own = nth_within (events history) n h in
    let all = length_from events_added 2 [] history (λ before e. events_two before (before ++ e ∷ []) e.at e.act) in
    omega (arith, own, all)

pub step_within : (history : List Entry) (p : ℕ) → step_number history p ≤ length history
step_within history p = count_by-le-length (λ (e : Entry). is_step p e.act) history
