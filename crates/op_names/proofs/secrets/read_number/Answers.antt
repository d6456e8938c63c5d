use Rattle.std.proofs.Common.{ap, ◌∙◌}
use Rattle.std.specs.Fmt.{decimal}
use Rattle.std.specs.Str.{IsUtf8}
use Rattle.std.specs.Result.{result_ok}
use Rattle.std.proofs.lemmas.Fmt.{parse-decimal, IsAscii-decimal}
use Rattle.std.proofs.lemmas.Str.{IsUtf8-from_ascii}
use Rattle.op_names.proofs.secrets.read_number.Goals as goal

pub returns-in-Err : goal.returns-in-Err
returns-in-Err c number small is =
    let text : IsUtf8 c.args.text.now = rw is (IsUtf8-from_ascii (decimal number) (IsAscii-decimal number small)) in
    absurd (c.in-Err.ensures.cases.0 text)

pub returns-in-Ok : goal.returns-in-Ok
returns-in-Ok c number small is =
    c.ok.ensures.value ∙ ap result_ok (parse-decimal 64 number c.in-Ok.digits.now c.parse.result small small (c.in-Ok.ensures.cases.0 ∙ is) c.parse.ensures.value.0)
