use Rattle.op_granting.proofs.Acting.{row_there, no_fault, cancel_passes, may_cancel}
use Rattle.op_granting.proofs.Keeping.{cancelled_takes}
use Rattle.op_granting.proofs.take.take_cancelled.Goals as goal

pub cancel-requires : goal.cancel-requires
cancel-requires c = row_there c.args.grants.now c.args.n _ (may_cancel c.args.grants.now c.args.next c.args.n c.requires)

pub unreachable-requires : goal.unreachable-requires
unreachable-requires c = no_fault _ _ _ (cancel_passes c.args.grants.now c.args.next c.args.n c.continuation_of-token.result c.requires c.continuation_of-token.ensures) c.in-Err.ensures.answer

pub returns : goal.returns
returns c = cancelled_takes c.args.grants.now _ c.args.next c.args.n c.in-Ok.ensures.ok
