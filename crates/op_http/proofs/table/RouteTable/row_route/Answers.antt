use Rattle.std.proofs.Common.{ap, sym, ◌∙◌}
use Rattle.std.specs.Str.{bytes_eq}
use Rattle.op_http.proofs.Routing.{other_method}
use Rattle.op_http.proofs.table.RouteTable.row_route.Goals as goal

pub returns : goal.returns
returns c =
    let method = c.args.method.now in
    other_method method c.args.path.now
    (ap (bytes_eq method) (sym (c.as_bytes.ensures.value ∙ c.as_str.ensures.value)) ∙ (sym c.eq.ensures ∙ c.if-eq.false))
    (ap (bytes_eq method) (sym (c.as_bytes-2.ensures.value ∙ c.as_str-2.ensures.value)) ∙ (sym c.eq-2.ensures ∙ c.if-eq-2.false))
    (ap (bytes_eq method) (sym (c.as_bytes-3.ensures.value ∙ c.as_str-3.ensures.value)) ∙ (sym c.eq-3.ensures ∙ c.if-eq-3.false))
