use Rattle.std.proofs.Common.{◌≡◌, ◌++◌, drop}
use Rattle.std.specs.Prelude.{option_map}
use Rattle.serde_json.specs.View.{items_view}
use Rattle.op_model.specs.GrantMembers.{item_in}
use Rattle.op_model.specs.Json.{each_of, items_list}
use Rattle.op_api.proofs.access.items_of.Given as goal

abbrev pub invariant-loop-value : goal.invariant-loop-value
invariant-loop-value l =
    option_map (λ rest. l.items.items ++ rest) (each_of item_in (items_list (items_view (drop l.value-index l.value-items))))
    ≡ each_of item_in (items_list (items_view l.value-items))
