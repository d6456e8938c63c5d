use Rattle.std.proofs.Common.{◌≡◌, sym, subst, ap, ◌∙◌, true}
use Rattle.op_grant.specs.Limits.{covers_spending}
use Rattle.op_grant.specs.Value.{spent_more}
use Rattle.op_granting.proofs.Taking.{paid_there, paid_interval, paid_covered, made_pays, room_counts, no_interval}
use Rattle.op_granting.proofs.spending.take_made.Goals as goal

pub interval_at-requires : goal.interval_at-requires
interval_at-requires c = paid_there c.args.grants.now c.args.next c.args.paid c.requires

pub counted-value-requires : goal.counted-value-requires
counted-value-requires c = paid_there c.args.grants.now c.args.next c.args.paid c.requires

pub unreachable-requires : goal.unreachable-requires
unreachable-requires c = no_interval _ _ (paid_interval c.args.grants.now c.args.next c.args.paid c.requires) c.in_default.ensures

pub spend-requires-clause-there : goal.spend-requires-clause-there
spend-requires-clause-there c = paid_there c.args.grants.now c.args.next c.args.paid c.requires

pub spend-requires-clause-covered : goal.spend-requires-clause-covered
spend-requires-clause-covered c =
    subst (λ v. covers_spending c.args.grants.now c.args.paid.grant c.in-Some.j v ≡ true) (sym c.counted-value.ensures)
    (paid_covered c.args.grants.now c.args.next c.args.paid c.in-Some.j c.requires (sym c.in-Some.ensures))

pub returns-clause-ok : goal.returns-clause-ok
returns-clause-ok c =
    made_pays c.args.grants.now _ c.args.next c.args.paid c.in-Some.j (sym c.in-Some.ensures) (paid_there c.args.grants.now c.args.next c.args.paid c.requires)
    (c.in_ok-spend.ensures.ok ∙ ap (spent_more c.args.grants.now c.args.paid.grant c.in-Some.j) c.counted-value.ensures)

pub returns-in_err-spend-clause-room : goal.returns-in_err-spend-clause-room
returns-in_err-spend-clause-room c =
    λ room. room_counts c.args.grants.now c.args.paid.grant c.args.next.at c.in-Some.j (sym c.in-Some.ensures) c.in_err-spend.ensures.first room
