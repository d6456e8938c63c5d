-- One more entry of a legal history: what it adds to the events and the feeds, and what is read off them.
use Rattle.std.specs.Prelude.{ℕ, ◌≡◌, ◌≤◌, List, [], ◌∷◌, ◌++◌, length, Some, None, IfSome}
use Rattle.std.specs.Option.{option_map}
use Rattle.std.specs.Str.{IsUtf8}
use Rattle.op_amount.specs.declared.Asset.{Asset}
use Rattle.op_model.specs.Events.{events, event_row, events_due, is_event_due, pages}
use Rattle.op_model.specs.History.{nth, origin_of, asset_of_address}
use Rattle.op_model.specs.Legal.{IsLegal, IsNext}
use Rattle.op_model.specs.Messages.{message}
use Rattle.op_model.specs.Payments.{outgoing_row}
use Rattle.op_model.specs.Shown.{path_of_address}
use Rattle.op_model.specs.declared.act.Entry.{Entry}
use Rattle.op_model.specs.declared.row.OutgoingRow.{OutgoingRow}
use Rattle.op_hooks.specs.Value.{EventsValue, is_event_due_in, due_events}
use Rattle.op_pages.specs.Value.{FeedsValue}
use Rattle.op_noting.specs.Kept.{IsEventsOf, IsFeedsOf, event_so_far, after_act, ended_by, page_rows_of}
use Rattle.op_noting.specs.Touched.{touched_by, told, events_limit}
use Rattle.op_noting.specs.declared.touched.Touched.{Touched}

abbrev pub with_entry : List Entry → Entry → List Entry
with_entry history e = history ++ e ∷ []

-- what the entry touches
abbrev pub touched : List Entry → Entry → Touched
touched history e = touched_by history (with_entry history e) e.act

-- whatever the history is, an entry adds the events that its act tells of the payments that it touches
pub record EventsNext : Type 0 where
  pub adds : (history : List Entry) (e : Entry) → events (with_entry history e) ≡ events history ++ told e.at e.act (touched history e)
  pub few : (t : ℕ) (e : Entry) (payments : Touched) → length (told t e.act payments) ≤ events_limit

-- behind an entry that may follow, events are those of the longer history
abbrev pub EventsFollow : Type 0
EventsFollow =
    (history : List Entry) (e : Entry) (value : EventsValue) → IsLegal history → IsNext history e → IsEventsOf history value →
    IsEventsOf (with_entry history e) (after_act value e.at e.act (touched history e))

-- what is read off the events of a history
pub record EventsRead : Type 0 where
  pub row :
      (history : List Entry) (value : EventsValue) (n : ℕ) → IsEventsOf history value →
      nth value.events n ≡ option_map (λ row. event_so_far history (n, row)) (event_row history n)
  pub is_due :
      (history : List Entry) (value : EventsValue) (n t : ℕ) → IsEventsOf history value → is_event_due_in value n t ≡ is_event_due history n t
  pub due :
      (history : List Entry) (value : EventsValue) (t room : ℕ) → IsEventsOf history value → due_events value t room ≡ events_due history t room

-- the origin of a legal history and the paths of its addresses are UTF-8, as the text of a message has to be
pub record NamesAreTexts : Type 0 where
  pub origin : (history : List Entry) → IsLegal history → IsUtf8 (origin_of history)
  pub path : (history : List Entry) (n : ℕ) → IsLegal history → IsUtf8 (path_of_address history n)

-- ---- calls on values that have the events or the feeds of some history

-- events go on with an entry that may follow, whose act touches these payments
abbrev pub GoesOn : (old new : EventsValue) → Entry → Touched → Type 0
GoesOn old new e payments =
    (history : List Entry) → IsLegal history → IsNext history e → IsEventsOf history old → payments ≡ touched history e →
    IsEventsOf (with_entry history e) new

-- the path is that of the address of event n
abbrev pub IsEventPath : List Entry → ℕ → List ℕ → Type 0
IsEventPath history n path = IfSome (event_row history n) (λ row. path ≡ path_of_address history row.address)

-- these bytes are the message of event n at t, where the origin and the path are those of the history
abbrev pub IsMessage : EventsValue → (origin path : List ℕ) → (n t : ℕ) → (secret bytes : List ℕ) → Type 0
IsMessage value origin path n t secret bytes =
    (history : List Entry) → IsEventsOf history value → origin ≡ origin_of history → IsEventPath history n path →
    bytes ≡ message history n t secret

-- the numbers are those of the first events that are due
abbrev pub AreDue : EventsValue → (t room : ℕ) → List ℕ → Type 0
AreDue value t room due = (history : List Entry) → IsEventsOf history value → due ≡ events_due history t room

-- ---- feeds

-- whatever the history is, an entry adds the row of the payment that it ends
pub record FeedsNext : Type 0 where
  pub stays : (history : List Entry) (e : Entry) → ended_by e.act ≡ None → pages (with_entry history e) ≡ pages history
  pub ended :
      (history : List Entry) (e : Entry) (p : ℕ) (row : OutgoingRow) → ended_by e.act ≡ Some p → outgoing_row (with_entry history e) p ≡ Some row →
      pages (with_entry history e) ≡ pages history ++ page_rows_of row (asset_of_address (with_entry history e) row.terms.payer)

-- feeds go on with an entry that ends a payment, as the entry leaves it
abbrev pub PagesGoOn : (old new : FeedsValue) → OutgoingRow → Asset → Type 0
PagesGoOn old new row asset =
    (history : List Entry) (e : Entry) (p : ℕ) → IsFeedsOf history old → ended_by e.act ≡ Some p →
    outgoing_row (with_entry history e) p ≡ Some row → asset ≡ asset_of_address (with_entry history e) row.terms.payer →
    IsFeedsOf (with_entry history e) new
