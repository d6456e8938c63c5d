use Rattle.std.proofs.Common.{◌≡◌, map, take}
use Rattle.std.specs.Prelude.{filter_map}
use Rattle.op_reply.specs.Fields.{named_action}
use Rattle.op_reply.specs.Values.{data_of}
use Rattle.op_reply.proofs.fields.action_values.Given as goal

abbrev pub invariant-loop-name : goal.invariant-loop-name
invariant-loop-name l = map data_of l.values.items ≡ filter_map (named_action l.actions) (take l.name-index l.names)
