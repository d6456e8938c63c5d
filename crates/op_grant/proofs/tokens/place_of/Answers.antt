use Rattle.std.proofs.Common.{◌≡◌, ℕ, ◌^◌, ◌<◌, length, get_or, ap, sym, ◌∙◌, rules, Some}
use Rattle.op_names.specs.declared.Letter.TheVariants.{Access}
use Rattle.op_names.proofs.SecretTexts.{same_place}
use Rattle.op_grant.proofs.tokens.place_of.Goals as goal

pub returns-in_err-place : goal.returns-in_err-place
returns-in_err-place c = rw c.from_residual.ensures (λ place drawn. absurd (c.in_err-place.ensures Access drawn.word place drawn.drawn drawn.small (c.as_bytes.ensures.value ∙ drawn.is)))

pub returns : goal.returns
returns c = λ place drawn.
    let word = c.in_ok-place.field-0-1 in
    let size : length word ≡ 16 = search rules in
    let bytes : (i : ℕ) → get_or word i 0 < 256 = search rules in
    let small : c.in_ok-place.place < 2 ^ 64 = search rules in
    let read = sym c.as_bytes.ensures.value ∙ c.in_ok-place.ensures in
    ap (λ n. Some n) (same_place c.args.text.now c.in_ok-place.field-0-0 Access word drawn.word c.in_ok-place.place place (size, bytes) drawn.drawn small drawn.small read drawn.is)
