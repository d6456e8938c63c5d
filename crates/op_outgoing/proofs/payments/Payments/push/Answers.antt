use Rattle.std.proofs.Common.{◌≡◌, ◌+◌, length, arith}
use Rattle.op_outgoing.proofs.Kept.{kept_pushed}
use Rattle.op_outgoing.proofs.payments.Payments.push.Goals as goal

pub invariant_of-self-2 : goal.invariant_of-self-2
invariant_of-self-2 c =
    let inside = c.self.inside in
    let number : c.len.result + 1 ≡ 1 + length inside.kept.items = omega (arith, c.len.ensures, c.reserve.ensures.len, inside.kept.ok.0) in
    rw (c.push_reserved-2.ensures.items, c.push_reserved.ensures.items, c.reserve.ensures.items, c.reserve-2.ensures.items) (kept_pushed inside.kept.items inside.running.items c.args.row (c.len.result + 1) c.self.invariant c.requires.sound c.requires.alive number)
