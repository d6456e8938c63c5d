use Rattle.std.proofs.Common.{◌≡◌, ℕ, ◌<◌, false, get_or}
use Rattle.op_model.specs.RouteTable.{is_question}
use Rattle.op_api.proofs.parameters.question_at.Given as goal

abbrev pub invariant-loop-i : goal.invariant-loop-i
invariant-loop-i l = (k : ℕ) → k < l.i → is_question (get_or l.target k 0) ≡ false
