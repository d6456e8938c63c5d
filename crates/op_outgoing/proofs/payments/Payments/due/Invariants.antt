use Rattle.std.proofs.Common.{◌≡◌, ◌≤◌, length, map, take, unwrap_or}
use Rattle.std.specs.Prelude.{filter}
use Rattle.op_model.specs.History.{last}
use Rattle.op_outgoing.proofs.Rounds.{is_above, step_in}
use Rattle.op_outgoing.proofs.payments.Payments.due.Given as goal

abbrev pub invariant-loop-number : goal.invariant-loop-number
invariant-loop-number l = record {
  tasks : l.tasks.items ≡ map (step_in l.self) (filter (is_above l.cursor) (take l.number-index l.number-items));
  last : l.last ≡ unwrap_or (last (filter (is_above l.cursor) (take l.number-index l.number-items))) 0;
  few : length l.tasks.items ≤ l.room;
}
