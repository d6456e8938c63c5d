use Rattle.std.proofs.Common.{sym, subst, ◌∙◌}
use Rattle.std.specs.Str.{IsUtf8}
use Rattle.op_reply.proofs.Redirects.{redirect_is_text}
use Rattle.op_reply.proofs.redirect.redirect_if.Goals as goal

pub bytes-requires : goal.bytes-requires
bytes-requires c =
    let texts = rw c.in-Some.is at c.requires in
    subst IsUtf8 (sym (c.deref.ensures.value ∙ c.in_ok-url-in-Some.ensures)) (redirect_is_text c.args.origin.now c.in-Some.redirect texts.0 texts.1)
