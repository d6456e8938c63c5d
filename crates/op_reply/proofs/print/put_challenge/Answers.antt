use Rattle.std.proofs.Common.{◌++◌, codes, option_map, sym, ap, ◌∙◌}
use Rattle.std.proofs.lemmas.Result.{on_ok_weaker}
use Rattle.op_model.specs.Bodies.{grant_url}
use Rattle.op_model.specs.Printed.{line_if}
use Rattle.op_reply.proofs.Joined.{and_then, if_ok, challenge_parts}
use Rattle.op_reply.proofs.print.put_challenge.Goals as goal

pub returns : goal.returns
returns c =
    let out = c.args.out.now.items in
    let origin = c.in-Some.origin.now in
    let before = codes "www-authenticate: " in
    let begin = codes "GNAP as_uri=" in
    let named = and_then _ _ (out ++ (before ++ begin)) _ origin c.in_ok-extend_from_slice-2.ensures.items c.in_ok-extend_from_slice.ensures.items c.as_bytes.ensures.value in
    on_ok_weaker c.extend_from_slice-3.result
    (λ is. is ∙ ap (λ x. x ++ codes "/grant\r\n") named ∙ challenge_parts out before begin origin (codes "/grant") (codes "\r\n")
    ∙ ap (λ x. out ++ line_if before (option_map (λ o. begin ++ grant_url o.now) x)) (sym c.in-Some.is))
    (if_ok c.extend_from_slice-3.result _ _ _ c.extend_from_slice-3.ensures.items)
