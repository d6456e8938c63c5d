use Rattle.std.proofs.Common.{refl}
use Rattle.matchit.proofs.OnLiterals.{matchit_on_literals}
use Rattle.op_model.specs.RouteTable.{rows, delete, get, post}
use Rattle.op_http.proofs.Tables.{finds_for}
use Rattle.op_http.proofs.table.RouteTable.new.Goals as goal

pub invariant_of-result-clause-deletes : goal.invariant_of-result-clause-deletes
unfolding rows matchit_on_literals
invariant_of-result-clause-deletes c =
    finds_for delete _ c.in_ok-router_of.field-0 (record { same = refl; read = refl; whole = refl; apart = refl }) c.in_ok-router_of.ensures

pub invariant_of-result-clause-gets : goal.invariant_of-result-clause-gets
unfolding rows matchit_on_literals
invariant_of-result-clause-gets c =
    finds_for get _ c.in_ok-router_of-2.field-0 (record { same = refl; read = refl; whole = refl; apart = refl }) c.in_ok-router_of-2.ensures

pub invariant_of-result-clause-posts : goal.invariant_of-result-clause-posts
unfolding rows matchit_on_literals
invariant_of-result-clause-posts c =
    finds_for post _ c.in_ok-router_of-3.field-0 (record { same = refl; read = refl; whole = refl; apart = refl }) c.in_ok-router_of-3.ensures
