use Rattle.std.proofs.Common.{◌≡◌, ◌/◌, ◌%◌, ◌^◌, Some, None, true≢false, sym, ap, ◌∙◌, arith}
use Rattle.std.specs.Result.{result_ok}
use Rattle.std.specs.Str.{str_to_ascii_lowercase}
use Rattle.op_names.specs.Ids.{kind_in, id_text}
use Rattle.op_names.specs.declared.Id.{Id}
use Rattle.op_names.proofs.IdTexts.{determined, kind_in-kind_number, lower_text}
use Rattle.op_names.proofs.Uuids.{bytes_of, is_read, none_is_some, some_is, parts, found_is}
use Rattle.op_names.proofs.ids.id_of.Goals as goal

pub returns-in_err-ok : goal.returns-in_err-ok
returns-in_err-ok c =
    let text = c.args.text.now in
    let none : None ≡ result_ok c.try_parse_ascii.result = c.in_err-ok.ensures.value in
    c.from_residual.ensures
    ∙ determined (str_to_ascii_lowercase text) None tt
    (λ id small is. absurd (none_is_some (bytes_of id) (none ∙ is_read c.try_parse_ascii.result text id c.try_parse_ascii.ensures.ok c.try_parse_ascii.ensures.bytes is)))

pub returns-in_err-kind : goal.returns-in_err-kind
returns-in_err-kind c =
    let text = c.args.text.now in
    let read : Some c.in_ok-ok.field-0 ≡ result_ok c.try_parse_ascii.result = c.in_ok-ok.ensures.value in
    let none : None ≡ kind_in (c.as_u64_pair-high.result.0 / 2 ^ 32) = c.in_err-kind.ensures in
    c.from_residual-in_err-kind.ensures
    ∙ determined (str_to_ascii_lowercase text) None tt (λ id small is.
    let same = some_is _ _ (read ∙ is_read c.try_parse_ascii.result text id c.try_parse_ascii.ensures.ok c.try_parse_ascii.ensures.bytes is) in
    let kind = (parts id c.in_ok-ok.field-0 _ _ same c.as_u64_pair-high.ensures.high c.as_u64_pair-high.ensures.low).0 in
    absurd (none_is_some id.kind (none ∙ ap kind_in kind ∙ kind_in-kind_number id.kind)))

pub returns-then-eq_ignore_ascii_case : goal.returns-then-eq_ignore_ascii_case
returns-then-eq_ignore_ascii_case c =
    let text = c.args.text.now in
    let found : Id = record { kind = c.in_ok-kind.kind; number = c.as_u64_pair-high.result.1 % 2 ^ 48 } in
    let read : Some c.in_ok-ok.field-0 ≡ result_ok c.try_parse_ascii.result = c.in_ok-ok.ensures.value in
    let printed : c.id_text.result ≡ id_text found = c.id_text.ensures in
    let equal = c.eq_ignore_ascii_case.ensures.test.0 c.if-eq_ignore_ascii_case.true in
    determined (str_to_ascii_lowercase text) (Some found) (sym equal ∙ ap str_to_ascii_lowercase printed ∙ lower_text found, omega arith) (λ id small is.
    let same = some_is _ _ (read ∙ is_read c.try_parse_ascii.result text id c.try_parse_ascii.ensures.ok c.try_parse_ascii.ensures.bytes is) in
    ap Some (found_is id c.in_ok-ok.field-0 _ _ found.kind small same c.as_u64_pair-high.ensures.high c.as_u64_pair-high.ensures.low c.in_ok-kind.ensures))

pub returns-else-eq_ignore_ascii_case : goal.returns-else-eq_ignore_ascii_case
returns-else-eq_ignore_ascii_case c =
    let text = c.args.text.now in
    let found : Id = record { kind = c.in_ok-kind.kind; number = c.as_u64_pair-high.result.1 % 2 ^ 48 } in
    let read : Some c.in_ok-ok.field-0 ≡ result_ok c.try_parse_ascii.result = c.in_ok-ok.ensures.value in
    let printed : c.id_text.result ≡ id_text found = c.id_text.ensures in
    determined (str_to_ascii_lowercase text) None tt (λ id small is.
    let same = some_is _ _ (read ∙ is_read c.try_parse_ascii.result text id c.try_parse_ascii.ensures.ok c.try_parse_ascii.ensures.bytes is) in
    let of : found ≡ id = found_is id c.in_ok-ok.field-0 _ _ found.kind small same c.as_u64_pair-high.ensures.high c.as_u64_pair-high.ensures.low c.in_ok-kind.ensures in
    let equal : str_to_ascii_lowercase c.id_text.result ≡ str_to_ascii_lowercase text =
    ap str_to_ascii_lowercase printed ∙ lower_text found ∙ ap id_text of ∙ sym is in
    absurd (true≢false (sym (c.eq_ignore_ascii_case.ensures.test.1 equal) ∙ c.if-eq_ignore_ascii_case.false)))
