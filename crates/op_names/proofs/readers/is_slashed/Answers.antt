use Rattle.std.proofs.Common.{◌∙◌}
use Rattle.op_names.proofs.Slashes.{slashed_front, not_slashed}
use Rattle.op_names.proofs.readers.is_slashed.Goals as goal

pub returns-then-last-eq47 : goal.returns-then-last-eq47
returns-then-last-eq47 c = c.eq.ensures ∙ slashed_front c.args.printed.now c.in-Some.front.now c.args.text.now c.in-Some.last.now c.in-Some.ensures.cases.0 c.if-last-eq47.true

pub returns-else-last-eq47 : goal.returns-else-last-eq47
returns-else-last-eq47 c = not_slashed c.args.printed.now c.in-Some.front.now c.args.text.now c.in-Some.last.now c.in-Some.ensures.cases.0 c.if-last-eq47.false
