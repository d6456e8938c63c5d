use Rattle.std.proofs.Common.{◌≡◌, map, false}
use Rattle.serde_json.specs.View.{view, items_view}
use Rattle.serde_json.specs.Written.{items_have_float}
use Rattle.op_reply.specs.Values.{data_of}
use Rattle.op_reply.proofs.values.Json.list.Given as goal

abbrev pub invariant-loop-json : goal.invariant-loop-json
invariant-loop-json l = (map view l.items.items ≡ map data_of l.yielded) × (items_have_float (items_view l.items.items) ≡ false)
