use Rattle.std.proofs.Common.{◌≡◌, ℕ, ◌+◌, ◌<◌, not, false, take}
use Rattle.std.specs.List.{list_any}
use Rattle.op_model.specs.Requests.{is_line_byte, ends_with_mark}
use Rattle.op_http.proofs.marks.first_mark.Given as goal

abbrev pub invariant-loop-i : goal.invariant-loop-i
invariant-loop-i l =
    record {
      other : l.other ≡ list_any (λ b. not (is_line_byte b)) (take l.i l.text);
      none : (k : ℕ) → k < l.i + 1 → ends_with_mark (take k l.text) ≡ false;
    }
