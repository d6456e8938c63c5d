-- The events and feeds that a history has, and what an act makes of those that are kept.
use Rattle.std.specs.Prelude.{ℕ, ◌≡◌, ◌-◌, ◌==◌, if◌then◌else◌, List, [], ◌∷◌, ◌++◌, length, map, Some, None}
use Rattle.std.specs.Option.{option_map, option_map_or, option_and_then}
use Rattle.std.specs.declared.option.Option.{Option}
use Rattle.op_amount.specs.declared.Asset.{Asset}
use Rattle.op_model.specs.Events.{Attempt, events, attempts, pages}
use Rattle.op_model.specs.History.{numbered, last}
use Rattle.op_model.specs.Metadata.{page_of}
use Rattle.op_model.specs.declared.act.Act.{Act}
use Rattle.op_model.specs.declared.act.Act.TheVariants.{OutgoingCompleted, OutgoingFailed, Attempted}
use Rattle.op_model.specs.declared.act.Entry.{Entry}
use Rattle.op_model.specs.declared.row.EventRow.{EventRow}
use Rattle.op_model.specs.declared.row.OutgoingRow.{OutgoingRow}
use Rattle.op_model.specs.declared.row.PageRow.{PageRow}
use Rattle.op_hooks.specs.Due.{untried}
use Rattle.op_hooks.specs.Value.{EventsValue, is_event_due_in, attempted}
use Rattle.op_hooks.specs.declared.event.Event.{Event}
use Rattle.op_hooks.specs.declared.event.Tried.{Tried}
use Rattle.op_pages.specs.Value.{FeedsValue}
use Rattle.op_noting.specs.Touched.{told}
use Rattle.op_noting.specs.declared.touched.Touched.{Touched}

-- ---- events

abbrev pub tried_of : Attempt → Tried
tried_of attempt = record { at = attempt.at; outcome = attempt.outcome }

-- an event with these attempts
abbrev pub event_with : EventRow → List Attempt → Event
event_with row made = record { row = row; tries = length made; last = option_map tried_of (last made) }

-- event n with its attempts so far
abbrev pub event_so_far : List Entry → ℕ × EventRow → Event
event_so_far history (n, row) = event_with row (attempts history n)

-- the events are those of a history, each with its attempts
abbrev pub IsEventsOf : List Entry → EventsValue → Type 0
IsEventsOf history value = value.events ≡ map (event_so_far history) (numbered (events history))

abbrev pub noted_all : EventsValue → List EventRow → EventsValue
noted_all value rows = record { events = value.events ++ map untried rows; spare = value.spare - length rows }

abbrev pub tried_if_due : EventsValue → (n t outcome : ℕ) → EventsValue
tried_if_due value n t outcome = if is_event_due_in value n t then attempted value n t outcome else value

-- what an act at t on these payments makes of events
abbrev pub after_act : EventsValue → ℕ → Act → Touched → EventsValue
after_act value t (Attempted event outcome) touched = tried_if_due value event t outcome
after_act value t act touched = noted_all value (told t act touched)

-- ---- feeds

abbrev pub IsFeedsOf : List Entry → FeedsValue → Type 0
IsFeedsOf history feeds = feeds.rows ≡ pages history

-- the payment that an act ends
abbrev pub ended_by : Act → Option ℕ
ended_by (OutgoingCompleted payment step) = Some payment
ended_by (OutgoingFailed payment step reason) = Some payment
ended_by _ = None

-- the row of an ended payment on its page, where something was sent in the payer's asset
abbrev pub row_on : OutgoingRow → Asset → List ℕ → PageRow
row_on row asset page =
    record {
      grant = row.grant;
      address = row.terms.payer;
      page = page;
      sent = record { value = row.sent; asset = asset };
      incoming = row.terms.incoming;
      payee = row.terms.payee;
    }

abbrev pub page_rows_of : OutgoingRow → Asset → List PageRow
page_rows_of row asset = option_map_or (λ page. if row.sent == 0 then [] else row_on row asset page ∷ []) (option_and_then page_of row.metadata) []

abbrev pub with_pages : FeedsValue → List PageRow → FeedsValue
with_pages feeds rows = record { rows = feeds.rows ++ rows; spare = feeds.spare - length rows }
