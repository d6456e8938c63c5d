use Rattle.std.proofs.Common.{◌≡◌, ◌≤◌, length, take}
use Rattle.std.specs.Prelude.{filter}
use Rattle.op_hooks.specs.Value.{is_event_due_in}
use Rattle.op_hooks.proofs.events.Events.first_due.Given as goal

abbrev pub invariant-loop-number : goal.invariant-loop-number
invariant-loop-number l = record {
  items : l.due.items ≡ filter (λ n. is_event_due_in l.self n l.t) (take l.number-index l.number-items);
  few : length l.due.items ≤ l.room;
}
