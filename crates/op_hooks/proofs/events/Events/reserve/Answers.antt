use Rattle.std.proofs.Common.{ap, length, arith}
use Rattle.op_hooks.specs.Due.{is_open}
use Rattle.op_model.proofs.Numbers.{length-numbers_where}
use Rattle.op_hooks.proofs.events.Events.reserve.Goals as goal

pub overflow_sub-len : goal.overflow_sub-len
overflow_sub-len c =
    let kept = c.self.inside.kept in
    omega (arith, length-numbers_where is_open kept.items, ap length c.self.invariant.0, kept.ok.0, c.self.inside.unfinished.ok.0, c.len-2.ensures, c.len-3.ensures)
