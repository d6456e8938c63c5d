use Rattle.std.proofs.Common.{◌≡◌, ◌++◌, ◌∙◌, ap, codes, length, string_bytes}
use Rattle.std.specs.Fmt.{decimal}
use Rattle.op_model.specs.Messages.{signature}
use Rattle.op_hooks.proofs.Joined.{eight_parts, seven_parts}
use Rattle.op_hooks.proofs.messages.signed.Goals as goal

pub returns : goal.returns
returns c =
    let begin = codes "POST / HTTP/1.1\r\nconnection: close\r\ncontent-length: " in
    let size = decimal (length c.args.body.now) in
    let fields = codes "\r\ncontent-type: application/json\r\nhost: 127.0.0.1\r\nwallet-signature: t=" in
    let code = signature c.args.secret.now c.args.t c.args.body.now in
    let head : string_bytes c.in_ok-head.head ≡ begin ++ (size ++ (fields ++ (decimal c.ms-moment.result ++ (codes ", v1=" ++ (c.as_str-signature.result.now ++ codes "\r\n\r\n"))))) = c.in_ok-head.ensures.ok in
    let told : string_bytes c.in_ok-head.head ≡ begin ++ (size ++ (fields ++ (decimal c.args.t ++ (codes ", v1=" ++ (code ++ codes "\r\n\r\n"))))) =
    head ∙ seven_parts begin size fields (codes ", v1=") (codes "\r\n\r\n") (ap decimal c.ms-moment.ensures.value) (c.as_str-signature.ensures.value ∙ c.in_ok-signature.ensures) in
    c.in_ok-extend_from_slice.ensures.items ∙ ap (λ xs. xs ++ c.args.body.now) (ap (λ v. v.items) c.into_bytes-out.ensures.value ∙ told)
    ∙ eight_parts begin size fields (decimal c.args.t) (codes ", v1=") code (codes "\r\n\r\n") c.args.body.now
