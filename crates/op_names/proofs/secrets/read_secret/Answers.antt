use Rattle.std.proofs.Common.{◌≡◌, ap, true, true≢false, ◌∙◌, sym, arith}
use Rattle.std.specs.Str.{bytes_eq}
use Rattle.op_names.proofs.Choices.{same_bytes}
use Rattle.op_names.specs.Secrets.{letter_in}
use Rattle.op_names.proofs.SecretTexts.{decoded_word, letter_in-letter_byte, word_part, place_part, secret_is_long, first_part}
use Rattle.op_names.proofs.secrets.read_secret.Goals as goal

pub returns-then-text-lt35 : goal.returns-then-text-lt35
returns-then-text-lt35 c letter word place drawn small is =
    absurd (omega (arith, secret_is_long c.args.text.now letter word place drawn small is, c.if-text-lt35.true))

pub returns-in_err-word : goal.returns-in_err-word
returns-in_err-word c = rw c.from_residual-in_err-word.ensures (λ letter word place drawn small is.
    let none = c.in_err-word.ensures ∙ decoded_word _ word drawn (word_part c.args.text.now letter word place drawn is) in
    cc none)

pub returns-in_err-number : goal.returns-in_err-number
returns-in_err-number c = rw c.from_residual-in_err-number.ensures (λ letter word place drawn small is.
    let none = c.in_err-number.ensures place small (place_part c.args.text.now letter word place drawn is) in
    cc none)

pub returns-else-eq : goal.returns-else-eq
returns-else-eq c letter word place drawn small is =
    let some_letter = c.in_ok-letter.ensures ∙ ap letter_in (first_part c.args.text.now letter word place is) ∙ letter_in-letter_byte letter in
    let some_word = c.in_ok-word.ensures ∙ decoded_word _ word drawn (word_part c.args.text.now letter word place drawn is) in
    let some_place = c.in_ok-number.ensures place small (place_part c.args.text.now letter word place drawn is) in
    let same_letter : c.in_ok-letter.letter ≡ letter = cc some_letter in
    let same_word : c.in_ok-word.word ≡ word = cc some_word in
    let same_place : c.in_ok-number.number ≡ place = cc some_place in
    let text : c.as_bytes.result.now ≡ c.args.text.now = c.as_bytes.ensures.value ∙ c.secret_text.ensures ∙ rw (same_letter, same_word, same_place) (sym is) in
    let equal : bytes_eq c.as_bytes.result.now c.args.text.now ≡ true = same_bytes _ _ text in
    true≢false (sym equal ∙ sym c.eq.ensures ∙ c.if-eq.false)
