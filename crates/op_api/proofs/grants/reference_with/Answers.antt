use Rattle.std.proofs.Common.{◌≡◌, ◌<◌, ◌^◌, ℕ, arith, rules, length, get_or}
use Rattle.op_names.specs.Secrets.{secret_text}
use Rattle.op_names.specs.declared.Letter.TheVariants.{Interaction}
use Rattle.op_api.proofs.References.{if_reference, if_no_reference, read_none}
use Rattle.op_api.proofs.grants.reference_with.Goals as goal

pub returns-in_err-letter : goal.returns-in_err-letter
returns-in_err-letter c =
    rw (c.from_residual.ensures, ← c.as_bytes.ensures.value) (if_no_reference c.as_bytes.result.now (read_none c.as_bytes.result.now c.in_err-letter.ensures))

pub returns-in-Interaction : goal.returns-in-Interaction
returns-in-Interaction c =
    let size : length c.in_ok-letter.word ≡ 16 = omega arith in
    let bytes : (i : ℕ) → get_or c.in_ok-letter.word i 0 < 256 = search rules in
    let small : c.in_ok-letter.place < 2 ^ 64 = search rules in
    let is : c.as_bytes.result.now ≡ secret_text Interaction c.in_ok-letter.word c.in_ok-letter.place = rw c.in-Interaction.is at c.in_ok-letter.ensures in
    rw (c.secret_text.ensures, c.in-Interaction.is, ← is, ← c.as_bytes.ensures.value)
    (if_reference c.as_bytes.result.now (record { word = c.in_ok-letter.word; place = c.in_ok-letter.place; drawn = (size, bytes); small = small; spells = is }))
