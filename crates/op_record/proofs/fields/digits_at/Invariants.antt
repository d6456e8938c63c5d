use Rattle.std.proofs.Common.{◌≡◌, ◌-◌, ◌^◌, ◌<◌, ◌≤◌}
use Rattle.op_record.specs.Readers.{digits_at}
use Rattle.op_record.proofs.fields.digits_at.Given as goal

abbrev pub invariant-loop-at : goal.invariant-loop-at
invariant-loop-at l = record {
  so_far : digits_at l.limit (l.width - l.at) l.number l.rest ≡ digits_at l.limit l.width 0 l.bytes;
  few : l.number < 256 ^ l.at;
  low : l.number ≤ l.limit;
}
