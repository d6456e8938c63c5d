-- The steps that are left to take.
use Rattle.std.specs.Prelude.{ℕ, ◌≡◌, nat_lt, if◌then◌else◌, List, length, map, take, unwrap_or, All, Some, None}
use Rattle.std.specs.List.{filter_map}
use Rattle.std.specs.declared.option.Option.{Option}
use Rattle.op_model.specs.Numbers.{numbers_where}
use Rattle.op_model.specs.History.{numbered, last}
use Rattle.op_model.specs.Work.{Running, is_running, step_task}
use Rattle.op_model.specs.declared.request.Task.{Task}
use Rattle.op_model.specs.declared.row.OutgoingRow.{OutgoingRow}
use Rattle.op_outgoing.specs.Progress.{is_alive}
use Rattle.op_outgoing.specs.Sound.{IsSoundRow}

-- the payments above the cursor that have not ended, in order, each with its step number
abbrev pub running_if : ℕ → ℕ × OutgoingRow → Option Running
running_if cursor (p, row) = if is_running cursor p row then Some (record { payment = p; step = row.step }) else None

abbrev pub running_in : List OutgoingRow → ℕ → List Running
running_in rows cursor = filter_map (running_if cursor) (numbered rows)

-- the steps of the first of them
abbrev pub due_steps : List OutgoingRow → (cursor room : ℕ) → List Task
due_steps rows cursor room = map step_task (take room (running_in rows cursor))

-- the last of them, or 0 where fewer than the room were left
abbrev pub next_cursor : List OutgoingRow → (cursor room : ℕ) → ℕ
next_cursor rows cursor room =
    if nat_lt (length (running_in rows cursor)) room then 0
    else unwrap_or (last (map (λ r. r.payment) (take room (running_in rows cursor)))) 0

-- ---- what is kept

-- payments, and the numbers of those that have not ended
pub record AreKept (rows : List OutgoingRow) (running : List ℕ) : Type 0 where
  pub sound : All IsSoundRow rows
  pub listed : running ≡ numbers_where is_alive rows
