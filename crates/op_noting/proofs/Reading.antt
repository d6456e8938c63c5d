-- What is read off the events of a history.
use Rattle.std.proofs.Common.{◌≡◌, ℕ, suc, ◌+◌, Bool, false, cond, ◌&&◌, List, [], ◌∷◌, length, map, take, refl, sym, ap, subst, ◌∙◌, Some, None, Option, Ok, Err, IfOk, IfSome, add-zero, arith}
use Rattle.std.specs.declared.result.Result.{Result}
use Rattle.std.specs.Prelude.{nat_lt, nat_le, slice_get}
use Rattle.std.specs.List.{enumerate_from, filter_map, cons_option}
use Rattle.std.specs.Option.{option_map, option_map_or}
use Rattle.op_model.specs.Events.{Attempt, events, event_row, attempts, attempt_limit, is_attempt_due, is_next_due, is_event_due, events_due}
use Rattle.op_model.specs.History.{nth, last, origin_of}
use Rattle.op_model.specs.Messages.{message_of}
use Rattle.op_model.specs.Shown.{path_of_address}
use Rattle.op_model.specs.declared.act.Entry.{Entry}
use Rattle.op_model.specs.declared.row.EventRow.{EventRow}
use Rattle.op_model.proofs.Numbered.{nth-numbered}
use Rattle.op_hooks.specs.Due.{is_due_at, attempt_of}
use Rattle.op_model.specs.Numbers.{number_if, numbers_where}
use Rattle.op_hooks.specs.Value.{EventsValue, is_event_due_in, due_events}
use Rattle.op_hooks.specs.declared.event.Event.{Event}
use Rattle.op_noting.specs.Kept.{IsEventsOf, event_so_far, tried_of}
use Rattle.op_noting.specs.Laws.{EventsRead, IsMessage}

pub row_is : (history : List Entry) (value : EventsValue) (n : ℕ) → IsEventsOf history value → nth value.events n ≡ option_map (λ row. event_so_far history (n, row)) (event_row history n)
row_is history value n are = ap (λ (l : List Event). nth l n) are ∙ nth-numbered (event_so_far history) (events history) n

next_due : (tries t : ℕ) (o : Option Attempt) (first : Bool) → option_map_or (λ tried. is_next_due tries t (attempt_of tried)) (option_map tried_of o) first ≡ option_map_or (is_next_due tries t) o first
next_due tries t None first = refl
next_due tries t (Some a) first = refl

due_at : (history : List Entry) (n t : ℕ) (row : EventRow) → is_due_at t (event_so_far history (n, row)) ≡ is_attempt_due row.at (attempts history n) t
due_at history n t row = ap (λ b. nat_lt (length (attempts history n)) attempt_limit && b) (next_due (length (attempts history n)) t (last (attempts history n)) (nat_le row.at t))

due_where : (history : List Entry) (n t : ℕ) (found : Option EventRow) → option_map_or (is_due_at t) (option_map (λ row. event_so_far history (n, row)) found) false ≡ option_map_or (λ row. is_attempt_due row.at (attempts history n) t) found false
due_where history n t None = refl
due_where history n t (Some row) = due_at history n t row

pub due_is : (history : List Entry) (value : EventsValue) (n t : ℕ) → IsEventsOf history value → is_event_due_in value n t ≡ is_event_due history n t
due_is history value n t are = ap (λ (o : Option Event). option_map_or (is_due_at t) o false) (row_is history value n are) ∙ due_where history n t (event_row history n)

-- ---- the numbers of those that are due

one_more : (b : Bool) (c : Bool) (n : ℕ) (xs ys : List ℕ) → b ≡ c → xs ≡ ys → cons_option (cond b (Some n) None) xs ≡ cons_option (cond c (Some n) None) ys
one_more b c n xs ys p q = rw (p, q) refl

numbers_from : (f : ℕ × EventRow → Event) (test : Event → Bool) (due : ℕ → Bool) (b : ℕ) (rows : List EventRow) → ((i : ℕ) (row : EventRow) → slice_get rows i ≡ Some row → test (f (b + i, row)) ≡ due (b + i))
    → filter_map (number_if test) (enumerate_from b (map f (enumerate_from b rows))) ≡ filter_map (λ ((n, row) : ℕ × EventRow). cond (due n) (Some n) None) (enumerate_from b rows)
numbers_from f test due b [] each = refl
numbers_from f test due b (row ∷ rows) each =
    let own : test (f (b, row)) ≡ due b = subst (λ m. test (f (m, row)) ≡ due m) (add-zero b) (each 0 row refl) in
    let number : (i : ℕ) → b + suc i ≡ (b + 1) + i = λ i. omega arith in
    let rest = numbers_from f test due (b + 1) rows (λ i x h. subst (λ m. test (f (m, x)) ≡ due m) (number i) (each (suc i) x h)) in
    one_more (test (f (b, row))) (due b) b _ _ own rest

due_number : (history : List Entry) (t i : ℕ) (row : EventRow) → slice_get (events history) i ≡ Some row → is_due_at t (event_so_far history (suc i, row)) ≡ is_event_due history (suc i) t
due_number history t i row h = due_at history (suc i) t row ∙ sym (ap (λ (o : Option EventRow). option_map_or (λ x. is_attempt_due x.at (attempts history (suc i)) t) o false) h)

pub first_due : (history : List Entry) (value : EventsValue) (t room : ℕ) → IsEventsOf history value → due_events value t room ≡ events_due history t room
first_due history value t room are =
    let number : (i : ℕ) → suc i ≡ 1 + i = λ i. omega arith in
    ap (λ (l : List Event). take room (numbers_where (is_due_at t) l)) are
    ∙ ap (take room) (numbers_from (event_so_far history) (is_due_at t) (λ n. is_event_due history n t) 1 (events history)
    (λ i row h. subst (λ m. is_due_at t (event_so_far history (m, row)) ≡ is_event_due history m t) (number i) (due_number history t i row h)))

pub read : EventsRead
read = record { row = row_is; is_due = due_is; due = first_due }

-- ---- the message of an event that is there

pub event_there : (history : List Entry) (value : EventsValue) (n : ℕ) (row : EventRow) → IsEventsOf history value → option_map (λ (e : Event). e.row) (nth value.events n) ≡ Some row → event_row history n ≡ Some row
event_there history value n row are found = sym (kept_row (event_row history n)) ∙ ap (option_map (λ (e : Event). e.row)) (sym (row_is history value n are)) ∙ found
  where
    kept_row : (o : Option EventRow) → option_map (λ (e : Event). e.row) (option_map (λ x. event_so_far history (n, x)) o) ≡ o
    kept_row None = refl
    kept_row (Some x) = refl

pub message_told : (value : EventsValue) (origin path : List ℕ) (n t : ℕ) (secret bytes : List ℕ) (row : EventRow) → option_map (λ (e : Event). e.row) (nth value.events n) ≡ Some row → bytes ≡ message_of origin path n row t secret → IsMessage value origin path n t secret bytes
message_told value origin path n t secret bytes row found is history are same placed =
    let there = event_there history value n row are found in
    let at : path ≡ path_of_address history row.address = subst (λ (o : Option EventRow). IfSome o (λ r. path ≡ path_of_address history r.address)) there placed in
    is
    ∙ ap (λ (o : List ℕ). message_of o path n row t secret) same
    ∙ ap (λ (p : List ℕ). message_of (origin_of history) p n row t secret) at
    ∙ sym (ap (λ (o : Option EventRow). option_map_or (λ event. message_of (origin_of history) (path_of_address history event.address) n event t secret) o []) there)

-- what is told where there is an answer
pub within : {X E : Type 0} (made : Result X E) (P Q : X → Type 0) → ((x : X) → P x → Q x) → IfOk made P → IfOk made Q
within (Ok x) P Q weaker h = weaker x h
within (Err e) P Q weaker h = tt
