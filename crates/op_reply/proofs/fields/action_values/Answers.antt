use Rattle.std.proofs.Common.{List, ◌++◌, take, option_map, sym, ap, ◌∙◌}
use Rattle.std.specs.Prelude.{filter_map}
use Rattle.std.specs.Option.{option_to_list}
use Rattle.serde_json.specs.Data.{Data}
use Rattle.op_reply.specs.Fields.{named_action}
use Rattle.op_reply.specs.Values.{data_of}
use Rattle.op_reply.proofs.Lists.{filtered_next}
use Rattle.op_reply.proofs.fields.action_values.Goals as goal

pub loop-name-preserved : goal.loop-name-preserved
loop-name-preserved c =
    let find = named_action c.args.actions in
    let before = filter_map find (take c.loop-name.name-index c.args.names.now) in
    c.in_ok-push_if.ensures ∙ ap (λ (xs : List Data). xs ++ option_to_list (option_map data_of c.in_ok-action_value.field-0)) c.loop-name.invariant
    ∙ ap (λ o. before ++ option_to_list o) c.in_ok-action_value.ensures
    ∙ sym (filtered_next find c.args.names.now c.loop-name.name-index _ c.loop-name-test.true)
