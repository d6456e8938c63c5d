use Rattle.std.proofs.Common.{◌≡◌, codes, drop}
use Rattle.std.specs.Prelude.{◌||◌, option_map}
use Rattle.std.specs.List.{list_any}
use Rattle.std.specs.Str.{bytes_eq}
use Rattle.serde_json.specs.Find.{as_str}
use Rattle.serde_json.specs.View.{items_view}
use Rattle.op_model.specs.Json.{each_of, items_list}
use Rattle.op_api.proofs.grants.starts_of.Given as goal

abbrev pub invariant-loop-way : goal.invariant-loop-way
invariant-loop-way l =
    option_map (λ ways. l.redirects || list_any (bytes_eq (codes "redirect")) ways) (each_of as_str (items_list (items_view (drop l.way-index l.way-items))))
    ≡ option_map (list_any (bytes_eq (codes "redirect"))) (each_of as_str (items_list (items_view l.way-items)))
