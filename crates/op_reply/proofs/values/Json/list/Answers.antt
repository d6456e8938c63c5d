use Rattle.std.proofs.Common.{◌≡◌, List, ◌++◌, [], ◌∷◌, map, sym, ap, ◌∙◌}
use Rattle.serde_json.specs.Data.{Data}
use Rattle.serde_json.specs.View.{view, items_of}
use Rattle.serde_json.specs.Written.{items_have_float}
use Rattle.op_reply.specs.Values.{data_of}
use Rattle.op_reply.proofs.Lists.{map_last, plain_last}
use Rattle.op_reply.proofs.values.Json.list.Goals as goal

pub loop-json-preserved : goal.loop-json-preserved
loop-json-preserved c =
    let old = c.loop-json.items.items in
    let json = c.in-Some.json in
    let put : map view c.push.new.self.items ≡ map view old ++ view json.value ∷ [] = ap (λ xs. map view xs) c.in_ok-push.ensures.items ∙ map_last view old json.value in (
      put ∙ ap (λ (xs : List Data). xs ++ view json.value ∷ []) c.loop-json.invariant.0 ∙ sym (map_last data_of c.loop-json.yielded json),
      ap (λ xs. items_have_float (items_of xs)) put ∙ plain_last (map view old) (view json.value) c.loop-json.invariant.1 json.plain,
    )
