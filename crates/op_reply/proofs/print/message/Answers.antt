use Rattle.std.proofs.Common.{ℕ, [], codes, refl, ◌∙◌, option_map, unwrap_or, Vec, Global}
use Rattle.op_model.specs.Printed.{line_if, content_lines}
use Rattle.op_reply.specs.Said.{said_of}
use Rattle.op_reply.proofs.Joined.{and_then, nine_parts}
use Rattle.op_reply.proofs.print.message.Goals as goal

pub returns : goal.returns
returns c =
    let begun = and_then _ _ [] _ (codes "HTTP/1.1 ") c.in_ok-extend_from_slice.ensures.items c.new-out.ensures.items refl in
    let told = and_then _ _ _ _ _ c.in_ok-put_status.ensures begun refl in
    let line = and_then _ _ _ _ (codes "\r\n") c.in_ok-extend_from_slice-2.ensures.items told refl in
    let allow = and_then _ _ _ _ _ c.in_ok-put_allow.ensures line refl in
    let close = and_then _ _ _ _ (codes "connection: close\r\n") c.in_ok-extend_from_slice-3.ensures.items allow refl in
    let content = and_then _ _ _ _ _ c.in_ok-put_content.ensures close refl in
    let challenge = and_then _ _ _ _ _ c.in_ok-put_challenge.ensures content refl in
    let end = and_then _ _ _ _ (codes "\r\n") c.in_ok-extend_from_slice-4.ensures.items challenge refl in
    let body = and_then _ _ _ _ _ c.in_ok-put_body.ensures end refl in
    let what = said_of c.args.said.now in
    let text = option_map (λ (bytes : Vec ℕ Global). bytes.items) c.args.body.now in
    body ∙ nine_parts (codes "HTTP/1.1 ") what.status (codes "\r\n") (line_if (codes "allow: ") what.allow) (codes "connection: close\r\n")
    (content_lines text) (line_if (codes "www-authenticate: ") what.challenge) (codes "\r\n") (unwrap_or text [])
