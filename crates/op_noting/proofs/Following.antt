-- Behind an entry that may follow, the events that are kept are those of the longer history.
use Rattle.std.proofs.Common.{◌≡◌, ℕ, zero, suc, ◌+◌, ◌<◌, ◌≤◌, Bool, true, false, cond, List, [], ◌∷◌, ◌++◌, length, map, refl, sym, ap, subst, ◌∙◌, Some, None, Option, append-nil, arith}
use Rattle.std.specs.Prelude.{◌==◌, is_some, slice_get}
use Rattle.std.specs.List.{enumerate_from}
use Rattle.std.specs.Option.{option_map, option_to_list}
use Rattle.std.proofs.lemmas.List.{map-append, length-append}
use Rattle.op_model.specs.Events.{Attempt, events, event_row, attempts, attempt_of, is_event_due}
use Rattle.op_model.specs.History.{numbered, last, with_item}
use Rattle.op_model.specs.Legal.{IsLegal, IsNext}
use Rattle.op_model.specs.Answer.{noted_outcome}
use Rattle.op_model.specs.declared.act.Act.{Act}
use Rattle.op_model.specs.declared.act.Act.TheVariants as acts
use Rattle.op_model.specs.declared.act.Entry.{Entry}
use Rattle.op_model.specs.declared.row.EventRow.{EventRow}
use Rattle.op_model.proofs.Next.{attempts-next, enumerate_from-append, last-next}
use Rattle.op_model.proofs.Numbered.{map-same, rows-at, swapped, same_number, itself}
use Rattle.op_noting.proofs.Untried.{absent_untried}
use Rattle.op_hooks.specs.Due.{untried, tried_once}
use Rattle.op_hooks.specs.Value.{EventsValue, is_event_due_in, attempted}
use Rattle.op_hooks.specs.declared.event.Event.{Event}
use Rattle.op_hooks.specs.declared.event.Tried.{Tried}
use Rattle.op_noting.specs.Kept.{IsEventsOf, tried_of, event_with, event_so_far, noted_all, after_act}
use Rattle.op_noting.specs.Laws.{EventsFollow, GoesOn, with_entry, touched}
use Rattle.op_noting.specs.Touched.{told}
use Rattle.op_noting.specs.declared.touched.Touched.{Touched}
use Rattle.op_noting.proofs.Adding.{next}
use Rattle.op_noting.proofs.Reading.{due_is}

-- ---- an act that is no attempt

abbrev is_attempting : Act → Bool
is_attempting (acts.Attempted event outcome) = true
is_attempting _ = false

no_attempt : (n t : ℕ) (act : Act) → is_attempting act ≡ false → attempt_of n t act ≡ None
no_attempt n t (acts.Attempted event outcome) h = absurd (let e : true ≡ false = h in cc)
no_attempt n t _ h = refl

noted_where : (value : EventsValue) (t : ℕ) (act : Act) (payments : Touched) → is_attempting act ≡ false → after_act value t act payments ≡ noted_all value (told t act payments)
noted_where value t (acts.Attempted event outcome) payments h = absurd (let e : true ≡ false = h in cc)
noted_where value t _ payments h = refl

same_attempts : (history : List Entry) (e : Entry) (n : ℕ) → is_attempting e.act ≡ false → attempts (history ++ e ∷ []) n ≡ attempts history n
same_attempts history e n none =
    attempts-next history e n ∙ ap (λ (o : Option Attempt). attempts history n ++ option_to_list o) (no_attempt n e.at e.act none) ∙ append-nil (attempts history n)

same_event : (history longer : List Entry) (n : ℕ) (row : EventRow) → attempts longer n ≡ attempts history n → event_so_far longer (n, row) ≡ event_so_far history (n, row)
same_event history longer n row same = ap (event_with row) same

beyond : {X : Type 0} (xs : List X) (k : ℕ) → length xs ≤ k → slice_get xs k ≡ None
beyond [] k h = refl
beyond (x ∷ xs) zero h = absurd (omega (arith, h))
beyond (x ∷ xs) (suc k) h = beyond xs k (let e : suc (length xs) ≤ suc k = h in omega (arith, e))

untried_there : (history : List Entry) (n : ℕ) → IsLegal history → length (events history) < n → attempts history n ≡ []
untried_there history zero legal h = absurd (omega (arith, h))
untried_there history (suc k) legal h =
    let none : is_some (event_row history (suc k)) ≡ false = ap is_some (beyond (events history) k (omega (arith, h))) in
    absent_untried history (suc k) legal none

joined : {X : Type 0} (x y : X) (xs ys : List X) → x ≡ y → xs ≡ ys → x ∷ xs ≡ y ∷ ys
joined x y xs ys p q = cc

fresh_events : (history : List Entry) (b : ℕ) (rows : List EventRow) → ((n : ℕ) → b ≤ n → attempts history n ≡ []) → map (event_so_far history) (enumerate_from b rows) ≡ map untried rows
fresh_events history b [] none = refl
fresh_events history b (row ∷ rows) none =
    joined (event_so_far history (b, row)) (untried row) (map (event_so_far history) (enumerate_from (b + 1) rows)) (map untried rows)
    (ap (event_with row) (none b (omega arith)))
    (fresh_events history (b + 1) rows (λ n h. none n (omega (arith, h))))

other : (history : List Entry) (e : Entry) (value : EventsValue) → IsLegal history → is_attempting e.act ≡ false → IsEventsOf history value → IsEventsOf (with_entry history e) (after_act value e.at e.act (touched history e))
other history e value legal none are =
    let longer = with_entry history e in
    let rows = told e.at e.act (touched history e) in
    let old = events history in
    let same = λ (n : ℕ). same_attempts history e n none in
    let fresh : map (event_so_far history) (enumerate_from (1 + length old) rows) ≡ map untried rows = fresh_events history (1 + length old) rows (λ n h. untried_there history n legal (omega (arith, h))) in
    let split : numbered (old ++ rows) ≡ numbered old ++ enumerate_from (1 + length old) rows = enumerate_from-append 1 old rows in
    ap (λ (v : EventsValue). v.events) (noted_where value e.at e.act (touched history e) none)
    ∙ ap (λ (l : List Event). l ++ map untried rows) are
    ∙ ap (λ (l : List Event). map (event_so_far history) (numbered old) ++ l) (sym fresh)
    ∙ sym (map-append (event_so_far history) (numbered old) (enumerate_from (1 + length old) rows))
    ∙ ap (map (event_so_far history)) (sym split)
    ∙ sym (map-same (event_so_far longer) (event_so_far history) (numbered (old ++ rows)) (λ (n, row). same_event history longer n row (same n)))
    ∙ ap (λ (l : List EventRow). map (event_so_far longer) (numbered l)) (sym (next.adds history e))

-- ---- an attempt

same_parts : (row : EventRow) (m n : ℕ) (x y : Option Tried) → m ≡ n → x ≡ y → (let e : Event = record { row = row; tries = m; last = x } in e) ≡ record { row = row; tries = n; last = y }
same_parts row m n x y p q = cc

tried_more : (row : EventRow) (made : List Attempt) (a : Attempt) → event_with row (made ++ a ∷ []) ≡ tried_once a.at a.outcome (event_with row made)
tried_more row made a =
    same_parts row (length (made ++ a ∷ [])) (length made + 1) (option_map tried_of (last (made ++ a ∷ []))) (Some (tried_of a))
    (length-append made (a ∷ [])) (ap (option_map tried_of) (last-next made a))

tried_at : (history longer : List Entry) (a : Attempt) (k : ℕ) (row : EventRow) (b : Bool) → attempts longer k ≡ attempts history k ++ option_to_list (cond b (Some a) None)
    → event_so_far longer (k, row) ≡ cond b (tried_once a.at a.outcome (event_so_far history (k, row))) (event_so_far history (k, row))
tried_at history longer a k row true more = ap (event_with row) more ∙ tried_more row (attempts history k) a
tried_at history longer a k row false more = same_event history longer k row (more ∙ append-nil (attempts history k))

either_way : (k n : ℕ) → (n == k) ≡ (k == n)
either_way k n = by_test (k == n) refl
  where
    by_test : (b : Bool) → (k == n) ≡ b → (n == k) ≡ b
    by_test true h = ap (λ m. n == m) (same_number k n h) ∙ itself n
    by_test false h = swapped k n h

attempt_due : (history : List Entry) (due : Bool) (made : Act) → (noted_outcome history due made).act ≡ Some made → due ≡ true
attempt_due history true made h = refl
attempt_due history false made h = absurd (let e : None ≡ Some made = h in cc)

attempt : (history : List Entry) (t n outcome : ℕ) (value : EventsValue) → IsNext history (record { at = t; act = acts.Attempted n outcome }) → IsEventsOf history value
    → IsEventsOf (with_entry history (record { at = t; act = acts.Attempted n outcome })) (after_act value t (acts.Attempted n outcome) (touched history (record { at = t; act = acts.Attempted n outcome })))
attempt history t n outcome value may are =
    let e : Entry = record { at = t; act = acts.Attempted n outcome } in
    let longer = with_entry history e in
    let due : is_event_due_in value n t ≡ true = due_is history value n t are ∙ attempt_due history (is_event_due history n t) (acts.Attempted n outcome) may.act in
    let a : Attempt = record { at = t; outcome = outcome } in
    let each = λ (k : ℕ) (row : EventRow). tried_at history longer a k row (k == n) (attempts-next history e k ∙ ap (λ b. attempts history k ++ option_to_list (cond b (Some a) None)) (either_way k n)) in
    let rows : map (event_so_far longer) (numbered (events history)) ≡ with_item (tried_once t outcome) (map (event_so_far history) (numbered (events history))) n =
    rows-at (event_so_far longer) (event_so_far history) (tried_once t outcome) n (events history) (λ k row h. each k row) in
    ap (λ b. (cond b (attempted value n t outcome) value).events) due
    ∙ ap (λ (l : List Event). with_item (tried_once t outcome) l n) are
    ∙ sym rows
    ∙ ap (λ (l : List EventRow). map (event_so_far longer) (numbered l)) (sym (next.adds history e ∙ append-nil (events history)))

attempt_where : (history : List Entry) (t : ℕ) (act : Act) (value : EventsValue) → is_attempting act ≡ true → IsNext history (record { at = t; act = act }) → IsEventsOf history value
    → IsEventsOf (with_entry history (record { at = t; act = act })) (after_act value t act (touched history (record { at = t; act = act })))
attempt_where history t (acts.Attempted n outcome) value h may are = attempt history t n outcome value may are
attempt_where history t _ value h may are = absurd (let e : false ≡ true = h in cc)

by_kind : (history : List Entry) (e : Entry) (value : EventsValue) (b : Bool) → is_attempting e.act ≡ b → IsLegal history → IsNext history e → IsEventsOf history value → IsEventsOf (with_entry history e) (after_act value e.at e.act (touched history e))
by_kind history e value true h legal may are = attempt_where history e.at e.act value h may are
by_kind history e value false h legal may are = other history e value legal h are

pub follow : EventsFollow
follow history e value legal may are = by_kind history e value (is_attempting e.act) refl legal may are

-- events that are what the act makes of those before
pub goes_on : (old new : EventsValue) (e : Entry) (payments : Touched) → new ≡ after_act old e.at e.act payments → GoesOn old new e payments
goes_on old new e payments is history legal may are same =
    subst (IsEventsOf (with_entry history e)) (sym (is ∙ ap (after_act old e.at e.act) same)) (follow history e old legal may are)
