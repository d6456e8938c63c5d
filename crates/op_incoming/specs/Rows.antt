-- Incoming payments by number: what they have received, and whether they are open, due for expiry or completed (Open
-- Payments, incoming payments; that an expiry is an act of the wallet is this project's own).
use Rattle.std.specs.Prelude.{ℕ, ◌+◌, ◌-◌, Bool, true, false, ◌&&◌, ◌||◌, nat_lt, nat_le, List, [], ◌∷◌, ◌++◌, map, take}
use Rattle.std.specs.Option.{option_map_or, is_some}
use Rattle.op_model.specs.History.{nth, with_item}
use Rattle.op_model.specs.Incoming.{bound_of}
use Rattle.op_model.specs.declared.request.Task.{Task}
use Rattle.op_model.specs.declared.request.Task.TheVariants.{Expire}
use Rattle.op_model.specs.declared.row.IncomingRow.{IncomingRow}
use Rattle.op_model.specs.Numbers.{numbers_where}
use Rattle.op_incoming.specs.declared.incoming.Closing.{Closing}
use Rattle.op_incoming.specs.declared.incoming.Closing.TheVariants as closings
use Rattle.op_incoming.specs.declared.incoming.Incoming.{Incoming}
use Rattle.op_incoming.specs.declared.incoming.IncomingFault.{IncomingFault}
use Rattle.op_incoming.specs.declared.incoming.IncomingFault.TheVariants as faults

-- ---- one payment

abbrev pub is_unclosed : Closing → Bool
is_unclosed closings.Unclosed = true
is_unclosed _ = false

abbrev pub was_completed : Closing → Bool
was_completed closings.Completed = true
was_completed _ = false

-- no act closed it, and its bound is not reached
abbrev pub is_unfinished : Incoming → Bool
is_unfinished i = is_unclosed i.closing && nat_lt i.received (bound_of i.row)

-- it is open at t; it is due for expiry at t
abbrev pub is_open_at : ℕ → Incoming → Bool
is_open_at t i = is_unfinished i && nat_lt t i.row.expiry

abbrev pub is_due_at : ℕ → Incoming → Bool
is_due_at t i = is_unfinished i && nat_le i.row.expiry t

abbrev pub is_completed : Incoming → Bool
is_completed i = was_completed i.closing || nat_le (bound_of i.row) i.received

-- how much more it takes
abbrev pub room_of : Incoming → ℕ
room_of i = bound_of i.row - i.received

-- a payment that was just made
abbrev pub fresh : IncomingRow → Incoming
fresh row = record { row = row; closing = closings.Unclosed; received = 0 }

abbrev pub closed_as : Closing → Incoming → Incoming
closed_as closing i = record i { closing = closing }

abbrev pub with_received : ℕ → Incoming → Incoming
with_received value i = record i { received = i.received + value }

-- ---- payment n

abbrev pub has_row : List Incoming → ℕ → Bool
has_row rows n = is_some (nth rows n)

abbrev pub row_is : (Incoming → Bool) → List Incoming → ℕ → Bool
row_is test rows n = option_map_or test (nth rows n) false

abbrev pub received_by : List Incoming → ℕ → ℕ
received_by rows n = option_map_or (λ i. i.received) (nth rows n) 0

abbrev pub bound_in : List Incoming → ℕ → ℕ
bound_in rows n = option_map_or (λ i. bound_of i.row) (nth rows n) 0

abbrev pub room_in : List Incoming → ℕ → ℕ
room_in rows n = option_map_or room_of (nth rows n) 0

-- ---- changes

abbrev pub made : List Incoming → IncomingRow → List Incoming
made rows row = rows ++ fresh row ∷ []

abbrev pub completed : List Incoming → ℕ → List Incoming
completed rows n = with_item (closed_as closings.Completed) rows n

abbrev pub expired : List Incoming → ℕ → List Incoming
expired rows n = with_item (closed_as closings.Expired) rows n

abbrev pub paid : List Incoming → (n value : ℕ) → List Incoming
paid rows n value = with_item (with_received value) rows n

-- why a payment is not made
abbrev pub IsMakingFault : IncomingFault → Type 0
IsMakingFault faults.ZeroAmount = Unit {0}
IsMakingFault faults.ExpiresInPast = Unit {0}
IsMakingFault faults.Memory = Unit {0}
IsMakingFault faults.AlreadyClosed = ⊥
IsMakingFault faults.AssetMismatch = ⊥

-- ---- work

-- the expiry of the first payments that are due for it, in the order of their numbers
abbrev pub due_tasks : List Incoming → (t room : ℕ) → List Task
due_tasks rows t room = map Expire (take room (numbers_where (is_due_at t) rows))
