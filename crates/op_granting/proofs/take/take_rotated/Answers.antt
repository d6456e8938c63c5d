use Rattle.std.proofs.Common.{◌≡◌, ℕ, ◌<◌, length, get_or, rules}
use Rattle.op_granting.proofs.Acting.{row_there, no_fault, may_rotate, token_passes}
use Rattle.op_granting.proofs.Keeping.{may_new_place, rotated_takes}
use Rattle.op_model.specs.declared.act.Act.TheVariants as acts
use Rattle.op_granting.proofs.take.take_rotated.Goals as goal

pub rotate-requires-clause-there : goal.rotate-requires-clause-there
rotate-requires-clause-there c = row_there c.args.grants.now c.args.n _ (may_rotate c.args.grants.now c.args.next c.args.n c.args.word.now c.requires)

pub rotate-requires-clause-place : goal.rotate-requires-clause-place
rotate-requires-clause-place c = may_new_place c.args.grants.now c.args.next (acts.TokenRotated c.args.n c.args.word.now) c.requires (search rules)

pub unreachable-requires : goal.unreachable-requires
unreachable-requires c = no_fault _ _ _ (token_passes c.args.grants.now c.args.n c.access_of-token.result (may_rotate c.args.grants.now c.args.next c.args.n c.args.word.now c.requires) c.access_of-token.ensures) c.in-Err.ensures.answer

pub returns : goal.returns
returns c =
    let size : length c.args.word.now ≡ 16 = search rules in
    let bytes : (i : ℕ) → get_or c.args.word.now i 0 < 256 = search rules in
    rotated_takes c.args.grants.now _ c.args.next c.args.n c.args.word.now c.access_of-token.result (size, bytes) (token_passes c.args.grants.now c.args.n c.access_of-token.result (may_rotate c.args.grants.now c.args.next c.args.n c.args.word.now c.requires) c.access_of-token.ensures) c.in-Ok.ensures.ok
