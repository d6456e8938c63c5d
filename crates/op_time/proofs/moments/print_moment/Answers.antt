use Rattle.std.proofs.Common.{◌/◌, ◌%◌, ◌∙◌, ap, unsigned_abs}
use Rattle.op_time.specs.Calendar.{plain, day_milliseconds}
use Rattle.op_time.specs.MomentTexts.{moment_of, moment_text, digit}
use Rattle.op_time.proofs.Epoch.{year_comes_back}
use Rattle.op_time.proofs.ReadingBack.{stamp, bytes_of, moment_of-text}
use Rattle.op_time.proofs.moments.print_moment.Goals as goal

printed : goal.returns-clause-value
printed c =
    let date = plain c.date_of-date.result in
    let ms = c.ms-ms.result in
    let year = c.from-year.ensures ∙ (c.unsigned_abs.ensures.value ∙ ap unsigned_abs (year_comes_back c.date_of-date.result)) in
    let month = c.from-month.ensures in
    let day = c.from-day.ensures in
    let bytes = bytes_of date (ms % day_milliseconds) c.digit.result c.digit-2.result c.digit-3.result c.digit-4.result c.digit-5.result c.digit-6.result c.digit-7.result c.digit-8.result c.digit-9.result c.digit-10.result c.digit-11.result c.digit-12.result c.digit-13.result c.digit-14.result c.digit-15.result c.digit-16.result c.digit-17.result
    (c.digit.ensures ∙ ap (λ n. digit (n / 1000)) year) (c.digit-2.ensures ∙ ap (λ n. digit (n / 100)) year) (c.digit-3.ensures ∙ ap (λ n. digit (n / 10)) year) (c.digit-4.ensures ∙ ap (λ n. digit (n)) year) (c.digit-5.ensures ∙ ap (λ n. digit (n / 10)) month) (c.digit-6.ensures ∙ ap (λ n. digit (n)) month) (c.digit-7.ensures ∙ ap (λ n. digit (n / 10)) day) (c.digit-8.ensures ∙ ap (λ n. digit (n)) day) c.digit-9.ensures c.digit-10.ensures c.digit-11.ensures c.digit-12.ensures c.digit-13.ensures c.digit-14.ensures c.digit-15.ensures c.digit-16.ensures c.digit-17.ensures in
    bytes ∙ (ap (λ date. stamp date (ms % day_milliseconds)) c.date_of-date.ensures.value ∙ ap moment_text c.ms-ms.ensures.value)

pub returns-clause-value : goal.returns-clause-value
returns-clause-value c = printed c

pub returns-clause-reads_back : goal.returns-clause-reads_back
returns-clause-reads_back c = ap moment_of (printed c) ∙ moment_of-text c.args.moment c.ms-ms.ensures.bound
