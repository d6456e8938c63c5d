use Rattle.std.proofs.Common.{List, [], ◌∷◌, ◌++◌, map, take, sym, ap, subst, ◌∙◌}
use Rattle.std.specs.Str.{IsUtf8}
use Rattle.serde_json.specs.Data.{Data}
use Rattle.op_model.specs.Bodies.{outgoing_data}
use Rattle.op_reply.specs.Values.{data_of}
use Rattle.op_reply.proofs.Lists.{map_last, mapped_next}
use Rattle.op_reply.proofs.payments.outgoings.Goals as goal

pub outgoing-requires-clause-path : goal.outgoing-requires-clause-path
outgoing-requires-clause-path c =
    subst (λ row. IsUtf8 row.path) (sym c.row-item.is) (c.requires.texts c.loop-row.row-index c.row-item.result c.loop-row-test.true)

pub loop-row-preserved : goal.loop-row-preserved
loop-row-preserved c =
    let rows = c.args.rows.now in
    let i = c.loop-row.row-index in
    let old = c.loop-row.values.items in
    let json = c.in_ok-outgoing.field-0 in
    let show = outgoing_data c.args.origin.now in
    ap (λ values. map data_of values) c.in_ok-push.ensures.items ∙ map_last data_of old json
    ∙ ap (λ (values : List Data). values ++ data_of json ∷ []) c.loop-row.invariant
    ∙ ap (λ d. map show (take i rows) ++ d ∷ []) (c.in_ok-outgoing.ensures ∙ ap show c.row-item.is)
    ∙ sym (mapped_next show rows i c.row-item.result c.loop-row-test.true)
