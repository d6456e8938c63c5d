use Rattle.std.proofs.Common.{◌≡◌, map, take}
use Rattle.op_model.specs.Bodies.{event_data}
use Rattle.op_reply.specs.Values.{data_of}
use Rattle.op_reply.proofs.payments.events.Given as goal

abbrev pub invariant-loop-shown : goal.invariant-loop-shown
invariant-loop-shown l = map data_of l.values.items ≡ map (event_data l.origin) (take l.shown-index l.fn.shown)
