use Rattle.std.proofs.Common.{◌≡◌, ℕ, ◌<◌, length, get_or, rules}
use Rattle.op_model.specs.GrantAnswers.{finish_kept}
use Rattle.op_granting.specs.Models.{asked_act}
use Rattle.op_granting.proofs.Acting.{may_ask}
use Rattle.op_granting.proofs.Keeping.{may_new_place, asked_takes}
use Rattle.op_granting.proofs.take.take_asked.Goals as goal

pub ask-requires-clause-place : goal.ask-requires-clause-place
ask-requires-clause-place c = may_new_place c.args.grants.now c.args.next (asked_act c.args.asked c.args.word.now) c.requires (search rules)

pub ask-requires-clause-intervals : goal.ask-requires-clause-intervals
ask-requires-clause-intervals c = (may_ask c.args.grants.now c.args.next c.args.asked.client c.args.asked.items (finish_kept c.args.asked.items c.args.asked.interact) c.args.word.now c.requires).readable

pub returns-in-Ok-clause-ok : goal.returns-in-Ok-clause-ok
returns-in-Ok-clause-ok c =
    let size : length c.args.word.now ≡ 16 = search rules in
    let bytes : (i : ℕ) → get_or c.args.word.now i 0 < 256 = search rules in
    asked_takes c.args.grants.now _ c.args.next c.args.asked c.args.word.now (size, bytes) c.in-Ok.ensures.ok.0
