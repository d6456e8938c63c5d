use Rattle.std.proofs.Common.{codes}
use Rattle.std.specs.Str.{bytes_eq}
use Rattle.op_api.proofs.Starts.{start_step}
use Rattle.op_api.proofs.grants.starts_of.Goals as goal

pub loop-way-preserved : goal.loop-way-preserved
loop-way-preserved c =
    rw c.is_redirect.ensures (start_step (bytes_eq (codes "redirect")) c.loop-way.redirects c.deref-way-items.result.now c.loop-way.way-index c.way-item.result c.in_ok-as_str.field-0.now _ c.loop-way-test.true c.way-item.is c.in_ok-as_str.ensures c.loop-way.invariant)
