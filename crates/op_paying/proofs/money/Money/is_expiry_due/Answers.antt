use Rattle.std.proofs.Common.{◌≤◌, ◌∙◌, sym, arith}
use Rattle.op_paying.proofs.Due.{due_reached}
use Rattle.op_paying.proofs.money.Money.is_expiry_due.Goals as goal

pub returns : goal.returns
returns c history is =
    let row = c.in-Some.row.now in
    let reached : row.expiry ≤ c.args.t = omega (arith, c.if-ms.false, c.ms.ensures.value, c.ms-2.ensures.value) in
    c.is_open.ensures ∙ due_reached history c.args.self.now c.args.incoming c.args.t row is (sym c.in-Some.ensures) reached
