-- What is due, and what an attempt changes.
use Rattle.std.proofs.Common.{◌≡◌, refl, sym, ap, subst, ◌∙◌, ℕ, zero, suc, ◌-◌, ◌<◌, Bool, true, false, List, length, get_or, arith, IsTrue}
use Rattle.std.specs.Prelude.{◌&&◌, not, Some, None, is_some, nat_le}
use Rattle.std.specs.Option.{option_map_or}
use Rattle.std.specs.declared.option.Option.{Option}
use Rattle.std.proofs.lemmas.Option.{slice_get-get_or}
use Rattle.op_model.specs.History.{nth, with_item}
use Rattle.op_model.specs.Events.{is_taken, next_attempt}
use Rattle.op_model.proofs.Items.{within_of_some}
use Rattle.op_hooks.specs.Due.{is_due_at, is_open, attempt_of, tried_once}
use Rattle.op_hooks.specs.Value.{EventsValue, attempted}
use Rattle.op_hooks.specs.declared.event.Event.{Event}
use Rattle.op_hooks.specs.declared.event.Tried.{Tried}
use Rattle.std.proofs.lemmas.Bool.{and_parts}

open_if : (below : Bool) (last : Option Tried) (may due : Tried → Bool) (first : Bool) → ((tried : Tried) → due tried ≡ true → may tried ≡ true) → (below && option_map_or due last first) ≡ true → (below && option_map_or may last true) ≡ true
open_if true None may due first each h = refl
open_if true (Some tried) may due first each h = each tried h
open_if false last may due first each h = h

-- an event that is due is open
pub open_where_due : (t : ℕ) (event : Event) → is_due_at t event ≡ true → is_open event ≡ true
open_where_due t event h =
    open_if _ event.last (λ tried. not (is_taken tried.outcome)) (λ tried. not (is_taken tried.outcome) && nat_le (next_attempt event.tries (attempt_of tried)) t) _
    (λ tried due. (and_parts (not (is_taken tried.outcome)) (nat_le (next_attempt event.tries (attempt_of tried)) t) due).0) h

-- the item of a number that is there
pub place_of_some : {X : Type 0} (xs : List X) (n : ℕ) → IsTrue (is_some (nth xs n)) → n - 1 < length xs
place_of_some xs zero there = absurd (let no : false ≡ true = there in cc)
place_of_some xs (suc m) there = let within = within_of_some xs m there in omega arith

pub nth_of_place : {X : Type 0} (xs : List X) (n : ℕ) (x : X) → IsTrue (is_some (nth xs n)) → x ≡ get_or xs (n - 1) x → nth xs n ≡ Some x
nth_of_place xs zero x there h = absurd (let no : false ≡ true = there in cc)
nth_of_place xs (suc m) x there h =
    let same : suc m - 1 ≡ m = omega arith in
    let at : x ≡ get_or xs m x = subst (λ k. x ≡ get_or xs k x) same h in
    slice_get-get_or xs m x (within_of_some xs m there) ∙ ap (λ y. Some y) (sym at)

due_there : (t : ℕ) (found : Option Event) (event : Event) → found ≡ Some event → option_map_or (is_due_at t) found false ≡ true → is_due_at t event ≡ true
due_there t found event is h = rw is at h

pub due_of_number : (t : ℕ) (xs : List Event) (n : ℕ) (event : Event) → nth xs n ≡ Some event → option_map_or (is_due_at t) (nth xs n) false ≡ true → is_due_at t event ≡ true
due_of_number t xs n event is h = due_there t (nth xs n) event is h

abbrev pub value_of : List Event → ℕ → EventsValue
value_of events spare = record { events = events; spare = spare }

pub attempted_is : (value : EventsValue) (events after : List Event) (spare n t outcome : ℕ) → value_of events spare ≡ value → after ≡ with_item (tried_once t outcome) events n → value_of after spare ≡ attempted value n t outcome
attempted_is value events after spare n t outcome is e =
    subst (λ v. value_of after spare ≡ attempted v n t outcome) is (ap (λ es. value_of es spare) e)
