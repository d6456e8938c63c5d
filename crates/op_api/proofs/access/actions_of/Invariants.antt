use Rattle.std.proofs.Common.{◌≡◌, bit_or, fold, drop}
use Rattle.std.specs.Prelude.{option_map, option_and_then}
use Rattle.serde_json.specs.Find.{as_str}
use Rattle.serde_json.specs.View.{items_view}
use Rattle.op_model.specs.GrantMembers.{action_in}
use Rattle.op_model.specs.Json.{each_of, items_list}
use Rattle.op_api.proofs.access.actions_of.Given as goal

abbrev pub invariant-loop-name : goal.invariant-loop-name
invariant-loop-name l =
    option_map (fold bit_or l.actions) (each_of (λ a. option_and_then action_in (as_str a)) (items_list (items_view (drop l.name-index l.name-items))))
    ≡ option_map (fold bit_or 0) (each_of (λ a. option_and_then action_in (as_str a)) (items_list (items_view l.name-items)))
