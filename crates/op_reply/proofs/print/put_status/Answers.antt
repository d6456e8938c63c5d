use Rattle.std.proofs.Common.{[], codes, unwrap_or, refl, ◌∙◌}
use Rattle.std.proofs.lemmas.Result.{on_ok_weaker}
use Rattle.http.specs.StatusCode.{code_digits, reason_phrase}
use Rattle.op_reply.specs.Said.{status_line}
use Rattle.op_reply.proofs.Joined.{and_then, if_ok, behind_three}
use Rattle.op_reply.proofs.print.put_status.Goals as goal

pub returns : goal.returns
unfolding status_line
returns c =
    let out = c.args.out.now.items in
    let digits = code_digits c.args.status in
    let phrase = unwrap_or (reason_phrase c.args.status) [] in
    let number = and_then _ _ out _ digits c.in_ok-extend_from_slice.ensures.items refl (c.as_bytes.ensures.value ∙ c.as_str.ensures) in
    let blank = and_then _ _ _ _ (codes " ") c.in_ok-extend_from_slice-2.ensures.items number refl in
    on_ok_weaker c.extend_from_slice-3.result
    (λ is. and_then _ _ _ _ phrase is blank (c.as_bytes-2.ensures.value ∙ c.phrase.ensures) ∙ behind_three out digits (codes " ") phrase)
    (if_ok c.extend_from_slice-3.result _ _ _ c.extend_from_slice-3.ensures.items)
