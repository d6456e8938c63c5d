use Rattle.std.proofs.Common.{◌≡◌, map, take}
use Rattle.op_model.specs.Bodies.{item_data}
use Rattle.op_reply.specs.Values.{data_of}
use Rattle.op_reply.proofs.grants.items.Given as goal

abbrev pub invariant-loop-shown : goal.invariant-loop-shown
invariant-loop-shown l = map data_of l.values.items ≡ map (item_data l.origin) (take l.shown-index l.fn.shown)
