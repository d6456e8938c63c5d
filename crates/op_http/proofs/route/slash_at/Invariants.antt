use Rattle.std.proofs.Common.{◌≡◌, ℕ, ◌<◌, false, get_or}
use Rattle.op_names.specs.Forms.{is_slash}
use Rattle.op_http.proofs.route.slash_at.Given as goal

abbrev pub invariant-loop-i : goal.invariant-loop-i
invariant-loop-i l = (k : ℕ) → k < l.i → is_slash (get_or l.text k 0) ≡ false
