use Rattle.std.proofs.Common.{◌≡◌, map, take}
use Rattle.op_model.specs.Bodies.{outgoing_data}
use Rattle.op_reply.specs.Values.{data_of}
use Rattle.op_reply.proofs.payments.outgoings.Given as goal

abbrev pub invariant-loop-row : goal.invariant-loop-row
invariant-loop-row l = map data_of l.values.items ≡ map (outgoing_data l.origin) (take l.row-index l.rows)
