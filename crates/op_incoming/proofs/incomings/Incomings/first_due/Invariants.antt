use Rattle.std.proofs.Common.{◌≡◌, ◌≤◌, length, map, take}
use Rattle.std.specs.Prelude.{filter}
use Rattle.op_model.specs.declared.request.Task.TheVariants.{Expire}
use Rattle.op_incoming.specs.Rows.{row_is, is_due_at}
use Rattle.op_incoming.proofs.incomings.Incomings.first_due.Given as goal

abbrev pub invariant-loop-number : goal.invariant-loop-number
invariant-loop-number l = record {
  items : l.due.items ≡ map Expire (filter (λ n. row_is (is_due_at l.t) l.self n) (take l.number-index l.number-items));
  few : length l.due.items ≤ l.room;
}
