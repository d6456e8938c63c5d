use Rattle.std.proofs.Common.{rules}
use Rattle.op_granting.proofs.Acting.{row_there, no_fault, may_poll, poll_passes}
use Rattle.op_granting.proofs.Keeping.{may_new_place, polled_by}
use Rattle.op_model.specs.declared.act.Act.TheVariants as acts
use Rattle.op_granting.proofs.take.take_polled.Goals as goal

pub proceed-requires-clause-there : goal.proceed-requires-clause-there
proceed-requires-clause-there c = row_there c.args.grants.now c.args.n _ (may_poll c.args.grants.now c.args.next c.args.n c.requires)

pub proceed-requires-clause-place : goal.proceed-requires-clause-place
proceed-requires-clause-place c = may_new_place c.args.grants.now c.args.next (acts.GrantPolled c.args.n) c.requires (search rules)

pub unreachable-requires : goal.unreachable-requires
unreachable-requires c = no_fault _ _ _ (poll_passes c.args.grants.now c.args.next c.args.n c.continuation_of-token.result c.requires c.continuation_of-token.ensures) c.in-Err.ensures.answer

pub returns : goal.returns
returns c =
    polled_by c.args.grants.now _ c.args.next c.args.n _ c.continuation_of-token.result _ (poll_passes c.args.grants.now c.args.next c.args.n c.continuation_of-token.result c.requires c.continuation_of-token.ensures) c.in-Ok.ensures.answer c.in-Ok.ensures.ok
