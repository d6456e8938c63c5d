-- Events by number, and what calls make of them.
use Rattle.std.specs.Prelude.{ℕ, ◌-◌, Bool, false, List, [], ◌∷◌, ◌++◌, take}
use Rattle.std.specs.Option.{option_map_or, is_some}
use Rattle.op_model.specs.History.{nth, with_item}
use Rattle.op_model.specs.declared.row.EventRow.{EventRow}
use Rattle.op_hooks.specs.Due.{is_due_at, untried, tried_once}
use Rattle.op_model.specs.Numbers.{numbers_where}
use Rattle.op_hooks.specs.declared.event.Event.{Event}

-- the events by number, from 1, and the room for more
pub record EventsValue : Type 0 where
  pub events : List Event
  pub spare : ℕ

abbrev pub has_event : EventsValue → ℕ → Bool
has_event value n = is_some (nth value.events n)

abbrev pub is_event_due_in : EventsValue → ℕ → ℕ → Bool
is_event_due_in value n t = option_map_or (is_due_at t) (nth value.events n) false

-- the numbers of the first events that are due
abbrev pub due_events : EventsValue → ℕ → ℕ → List ℕ
due_events value t room = take room (numbers_where (is_due_at t) value.events)

-- with one more event, in a place that was free
abbrev pub noted : EventsValue → EventRow → EventsValue
noted value row = record { events = value.events ++ untried row ∷ []; spare = value.spare - 1 }

-- with one more attempt of event n, made at t
abbrev pub attempted : EventsValue → (n t outcome : ℕ) → EventsValue
attempted value n t outcome = record value { events = with_item (tried_once t outcome) value.events n }
