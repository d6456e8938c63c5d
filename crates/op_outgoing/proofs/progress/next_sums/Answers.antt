use Rattle.std.proofs.Common.{◌≡◌, Some, None, subst}
use Rattle.op_amount.specs.Rates.{floor_mul, amount_or_none}
use Rattle.op_outgoing.specs.Pieces.{next_delivered}
use Rattle.op_outgoing.proofs.Floors.{delivered_grows, amount_there, no_amount}
use Rattle.op_outgoing.proofs.progress.next_sums.Goals as goal

pub unreachable-requires : goal.unreachable-requires
unreachable-requires c =
    let terms = c.args.row.now.terms in
    let none = subst (λ sent. None ≡ amount_or_none (floor_mul sent terms.num terms.den)) c.min-sent.ensures c.in-None.ensures in
    no_amount (next_delivered c.args.row.now) none (delivered_grows c.args.row.now c.requires.sound).1

pub returns-clause-more_delivered : goal.returns-clause-more_delivered
returns-clause-more_delivered c =
    let terms = c.args.row.now.terms in
    let some = subst (λ sent. Some c.in-Some.delivered ≡ amount_or_none (floor_mul sent terms.num terms.den)) c.min-sent.ensures c.in-Some.ensures in
    let is : c.in-Some.delivered ≡ next_delivered c.args.row.now = amount_there (next_delivered c.args.row.now) c.in-Some.delivered some in
    rw is (delivered_grows c.args.row.now c.requires.sound)
