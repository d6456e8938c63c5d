-- Incoming payments are what the wallet's definitions say, which speak of a history.
use Rattle.std.specs.Prelude.{ℕ, ◌≡◌, not, List, map, take, Some}
use Rattle.std.specs.List.{list_any}
use Rattle.op_model.specs.History.{nth}
use Rattle.op_model.specs.Incoming as defined
use Rattle.op_model.specs.Payments.{incomings, received}
use Rattle.op_model.specs.Work.{expiring}
use Rattle.op_model.specs.declared.act.Entry.{Entry}
use Rattle.op_model.specs.declared.request.Task.TheVariants.{Expire}
use Rattle.op_incoming.specs.Rows.{is_unclosed, was_completed, is_open_at, is_due_at, is_completed, room_of, due_tasks}
use Rattle.op_incoming.specs.declared.incoming.Incoming.{Incoming}

-- payment i is as a history has it
pub record StandsAs (history : List Entry) (i : ℕ) (x : Incoming) : Type 0 where
  pub received : x.received ≡ received history i
  pub closed : is_unclosed x.closing ≡ not (defined.is_closed history i)
  pub completed : was_completed x.closing ≡ list_any (λ e. defined.is_completing i e.act) history

pub record IsAsDefined (history : List Entry) (i t : ℕ) (x : Incoming) : Type 0 where
  pub open_then : is_open_at t x ≡ defined.is_open history i x.row t
  pub due_then : is_due_at t x ≡ defined.is_due history i x.row t
  pub completed : is_completed x ≡ defined.is_completed history i x.row
  pub room : room_of x ≡ defined.room_of history i x.row

-- all payments of a history
pub record AreAsDefined (history : List Entry) (rows : List Incoming) : Type 0 where
  pub each : (i t : ℕ) (x : Incoming) → nth rows i ≡ Some x → IsAsDefined history i t x
  pub due_then : (t room : ℕ) → due_tasks rows t room ≡ map Expire (take room (expiring history t))

abbrev pub PaymentsAreDefined : Type 0
PaymentsAreDefined =
    (history : List Entry) (rows : List Incoming) → map (λ x. x.row) rows ≡ incomings history →
    ((i : ℕ) (x : Incoming) → nth rows i ≡ Some x → StandsAs history i x) → AreAsDefined history rows
