use Rattle.std.proofs.Common.{◌≡◌, map, sym, ap, ◌∙◌}
use Rattle.op_names.specs.declared.Kind.TheVariants.{Outgoing}
use Rattle.op_model.specs.Bodies.{outgoing_data, page_data, list}
use Rattle.op_reply.specs.Values.{data_of}
use Rattle.op_reply.proofs.payments.outgoings_listed.Goals as goal

pub returns : goal.returns
returns c =
    let numbers = map (λ row. row.number) c.args.rows.now in
    let page : data_of c.in_ok-page.page ≡ page_data Outgoing numbers c.args.has_previous c.args.has_next
    = c.in_ok-page.ensures numbers c.first_outgoing-first.ensures c.last_outgoing-last.ensures in
    let rows : data_of c.in_ok-result.result ≡ list (map (outgoing_data c.args.origin.now) c.args.rows.now)
    = c.in_ok-result.ensures ∙ ap list c.in_ok-outgoings.ensures in
    rw (sym page) (rw (sym rows) c.two_of.ensures)
