use Rattle.std.proofs.Common.{◌≡◌, ℕ, ◌<◌, length, get_or, rules}
use Rattle.op_granting.proofs.Acting.{row_there, no_fault, decide_passes, may_decide}
use Rattle.op_granting.proofs.Keeping.{may_new_place, decided_takes}
use Rattle.op_granting.specs.Models.{decided_act}
use Rattle.op_granting.proofs.take.take_decided.Goals as goal

pub decide-requires-clause-there : goal.decide-requires-clause-there
decide-requires-clause-there c = row_there c.args.grants.now c.args.n _ (may_decide c.args.grants.now c.args.next c.args.n c.args.accept c.args.word.now c.requires)

pub decide-requires-clause-place : goal.decide-requires-clause-place
decide-requires-clause-place c = may_new_place c.args.grants.now c.args.next (decided_act c.args.accept c.args.n c.args.word.now) c.requires (search rules)

pub unreachable-requires : goal.unreachable-requires
unreachable-requires c = no_fault _ _ _ (decide_passes c.args.grants.now c.args.next c.args.n c.args.accept c.args.word.now c.requires) c.in-Err.ensures.answer

pub returns : goal.returns
returns c =
    let size : length c.args.word.now ≡ 16 = search rules in
    let bytes : (i : ℕ) → get_or c.args.word.now i 0 < 256 = search rules in
    decided_takes c.args.grants.now _ c.args.next c.args.n c.args.accept c.args.word.now (size, bytes) (decide_passes c.args.grants.now c.args.next c.args.n c.args.accept c.args.word.now c.requires) c.in-Ok.ensures.ok
