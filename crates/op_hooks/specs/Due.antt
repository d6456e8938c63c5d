-- When the next attempt of an event is due. The delays and the limit are this project's own.
use Rattle.std.specs.Prelude.{ℕ, ◌+◌, ◌-◌, ◌*◌, ◌^◌, Bool, true, not, ◌&&◌, nat_lt, nat_le, Some, None}
use Rattle.std.specs.Option.{option_map_or}
use Rattle.op_model.specs.Events.{Attempt, is_taken, is_next_due, attempt_limit}
use Rattle.op_model.specs.declared.row.EventRow.{EventRow}
use Rattle.op_hooks.specs.declared.event.Event.{Event}
use Rattle.op_hooks.specs.declared.event.Tried.{Tried}

abbrev pub attempt_of : Tried → Attempt
attempt_of tried = record { at = tried.at; outcome = tried.outcome }

-- another attempt of an event is due at t
abbrev pub is_due_at : ℕ → Event → Bool
is_due_at t event =
    nat_lt event.tries attempt_limit
    && option_map_or (λ tried. is_next_due event.tries t (attempt_of tried)) event.last (nat_le event.row.at t)

-- another attempt of an event may follow
abbrev pub is_open : Event → Bool
is_open event = nat_lt event.tries attempt_limit && option_map_or (λ tried. not (is_taken tried.outcome)) event.last true

-- how long to wait after so many attempts, in milliseconds
abbrev pub delay : ℕ → ℕ
delay tries = 10000 * 2 ^ (tries - 1)

-- an event before its first attempt
abbrev pub untried : EventRow → Event
untried row = record { row = row; tries = 0; last = None }

-- with one more attempt, made at t
abbrev pub tried_once : ℕ → ℕ → Event → Event
tried_once t outcome event = record event { tries = event.tries + 1; last = Some (record { at = t; outcome = outcome }) }
