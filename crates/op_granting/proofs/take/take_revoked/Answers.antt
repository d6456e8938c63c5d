use Rattle.op_granting.proofs.Acting.{row_there, no_fault, may_revoke, token_passes}
use Rattle.op_granting.proofs.Keeping.{revoked_takes}
use Rattle.op_granting.proofs.take.take_revoked.Goals as goal

pub revoke-requires : goal.revoke-requires
revoke-requires c = row_there c.args.grants.now c.args.n _ (may_revoke c.args.grants.now c.args.next c.args.n c.requires)

pub unreachable-requires : goal.unreachable-requires
unreachable-requires c = no_fault _ _ _ (token_passes c.args.grants.now c.args.n c.access_of-token.result (may_revoke c.args.grants.now c.args.next c.args.n c.requires) c.access_of-token.ensures) c.in-Err.ensures.answer

pub returns : goal.returns
returns c =
    revoked_takes c.args.grants.now _ c.args.next c.args.n c.access_of-token.result (token_passes c.args.grants.now c.args.n c.access_of-token.result (may_revoke c.args.grants.now c.args.next c.args.n c.requires) c.access_of-token.ensures) c.in-Ok.ensures.ok
