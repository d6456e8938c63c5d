use Rattle.std.proofs.Common.{◌≡◌, ◌-◌, ◌≤◌}
use Rattle.op_record.specs.Rows.{more_items_at}
use Rattle.op_record.proofs.ItemSteps.{with_front}
use Rattle.op_record.proofs.grants.more_items_at.Given as goal

abbrev pub invariant-loop-at : goal.invariant-loop-at
invariant-loop-at l = record {
  so_far : with_front l.items.items (more_items_at (l.count - l.at) l.above l.rest) ≡ more_items_at l.count 0 l.bytes;
  low : l.above ≤ 3;
}
