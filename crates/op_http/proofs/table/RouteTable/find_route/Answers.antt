use Rattle.std.proofs.Common.{ℕ, List, ap, subst, ◌∙◌}
use Rattle.std.specs.Str.{IsUtf8}
use Rattle.op_model.specs.RouteTable.{path_of}
use Rattle.op_http.proofs.Routing.{not_text}
use Rattle.op_http.proofs.table.RouteTable.find_route.Goals as goal

pub returns-in-Err : goal.returns-in-Err
returns-in-Err c =
    let path = c.path_of.ensures ∙ ap path_of c.target.ensures in
    not_text c.args.raw.now.method c.args.raw.now.target (subst (λ (p : List ℕ). ¬ (IsUtf8 p)) path c.in-Err.ensures.cases.0)
