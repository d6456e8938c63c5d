use Rattle.std.proofs.Common.{◌∙◌, sym}
use Rattle.op_grant.specs.Value.{cap_in}
use Rattle.op_granting.proofs.Taking.{fail_within, fail_there, fail_lies, fail_covered, failed_fails, counts_back, no_interval, sent_within, fee_left}
use Rattle.op_granting.proofs.spending.take_failed.Goals as goal

pub interval_at-requires : goal.interval_at-requires
interval_at-requires c = fail_there c.args.grants.now c.args.next c.args.row.now c.requires

pub counted-value-requires : goal.counted-value-requires
counted-value-requires c = fail_there c.args.grants.now c.args.next c.args.row.now c.requires

pub unreachable-requires : goal.unreachable-requires
unreachable-requires c = let lies = fail_lies c.args.grants.now c.args.next c.args.row.now c.requires in no_interval _ lies.0 lies.1 c.in_default.ensures

pub overflow_sub-debit : goal.overflow_sub-debit
overflow_sub-debit c = sent_within c.args.row.now (fail_within c.args.grants.now c.args.next c.args.row.now c.requires)

pub overflow_sub-debit-2 : goal.overflow_sub-debit-2
overflow_sub-debit-2 c = fee_left c.args.row.now (fail_within c.args.grants.now c.args.next c.args.row.now c.requires)

pub overflow_sub-receive : goal.overflow_sub-receive
overflow_sub-receive c = (fail_within c.args.grants.now c.args.next c.args.row.now c.requires).receive

pub unspend-requires-clause-there : goal.unspend-requires-clause-there
unspend-requires-clause-there c = fail_there c.args.grants.now c.args.next c.args.row.now c.requires

pub unspend-requires-clause-covered : goal.unspend-requires-clause-covered
unspend-requires-clause-covered c =
    fail_covered c.args.grants.now c.args.next c.args.row.now c.in-Some.j c.counted-value.result c.requires (sym c.in-Some.ensures)
    (c.counted-value.ensures ∙ counts_back c.args.row.now (cap_in c.args.grants.now c.args.row.now.grant))

pub returns : goal.returns
returns c =
    failed_fails c.args.grants.now _ c.args.next c.args.row.now c.in-Some.j c.counted-value.result (fail_there c.args.grants.now c.args.next c.args.row.now c.requires) (sym c.in-Some.ensures)
    (c.counted-value.ensures ∙ counts_back c.args.row.now (cap_in c.args.grants.now c.args.row.now.grant)) c.unspend.ensures
