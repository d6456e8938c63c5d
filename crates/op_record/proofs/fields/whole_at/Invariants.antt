use Rattle.std.proofs.Common.{◌≡◌, ◌^◌, ◌<◌, ◌++◌}
use Rattle.std.specs.Int.{bytes_high_first}
use Rattle.op_record.proofs.fields.whole_at.Given as goal

abbrev pub invariant-loop-at : goal.invariant-loop-at
invariant-loop-at l = record {
  so_far : l.bytes ≡ bytes_high_first l._at l.number ++ l.rest;
  few : l.number < 256 ^ l._at;
}
