use Rattle.std.proofs.Common.{ℕ, List, MatchOption, Option, ap, subst, ◌∙◌}
use Rattle.op_http.specs.Held.{Held}
use Rattle.op_http.specs.Marks.{IsEdge}
use Rattle.op_http.specs.Reader.{IsOpen}
use Rattle.op_http.proofs.reader.Reader.edge.Goals as goal

pub returns : goal.returns
returns c =
    subst (λ (bytes : List ℕ). MatchOption c.edge_of.result (IsOpen bytes) (λ edge. (left : Option (List ℕ)) → IsEdge bytes left edge))
    (c.deref.ensures.value ∙ ap (λ (h : Held). h.bytes) c.self.view_is) c.edge_of.ensures
