use Rattle.std.proofs.Common.{◌≡◌, ℕ, ◌^◌, ◌<◌, length, get_or, sym, ◌∙◌, rules, arith}
use Rattle.op_names.proofs.SecretTexts.{same_place}
use Rattle.op_grant.proofs.tests.conditions.lies_before.Goals as goal

pub returns-else-drawn-place : goal.returns-else-drawn-place
returns-else-drawn-place c = λ letter word place drawn small is.
    let read = c.in-Some.field-0-1 in
    let size : length read ≡ 16 = search rules in
    let bytes : (i : ℕ) → get_or read i 0 < 256 = search rules in
    let below : c.in-Some.drawn < 2 ^ 64 = search rules in
    let text = sym c.as_bytes.ensures.value ∙ c.in-Some.ensures in
    let same = same_place c.args.text.now c.in-Some.field-0-0 letter read word c.in-Some.drawn place (size, bytes) drawn below small text is in
    omega (arith, same, c.if-drawn-place.false)
