use Rattle.std.proofs.Common.{◌≡◌, sym, ap, ◌∙◌, refl, Ok, Err}
use Rattle.std.specs.Prelude.{is_ok}
use Rattle.std.specs.Option.{is_some}
use Rattle.std.specs.Result.{result_ok}
use Rattle.std.specs.declared.result.Result.{Result}
use Rattle.op_time.specs.Texts.{interval_in, interval_of}
use Rattle.op_grant.proofs.Finding.{false_where}
use Rattle.op_grant.proofs.IntervalTexts.{interval_is_utf8}
use Rattle.op_grant.proofs.tests.conditions.is_readable.Goals as goal

ok_some : {X E : Type 0} (r : Result X E) → is_ok r ≡ is_some (result_ok r)
ok_some (Ok x) = refl
ok_some (Err e) = refl

pub returns-in-Ok : goal.returns-in-Ok
returns-in-Ok c =
    c.is_ok.ensures.value ∙ ap is_ok (c.read_interval.ensures ∙ ap interval_in c.in-Ok.ensures.cases.0) ∙ ok_some (interval_in c.args.text.now)

pub returns-in-Err : goal.returns-in-Err
returns-in-Err c =
    let text = c.args.text.now in
    sym (false_where (is_some (interval_of text)) (λ h. c.in-Err.ensures.cases.0 (interval_is_utf8 text h)))
