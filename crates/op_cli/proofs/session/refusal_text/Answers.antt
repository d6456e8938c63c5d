use Rattle.std.proofs.Common.{sym, subst, ap, IsUtf8}
use Rattle.op_model.specs.declared.reply.Reply.{Reply}
use Rattle.op_cli.proofs.Printable.{legal_origin}
use Rattle.op_cli.proofs.session.refusal_text.Goals as goal

pub text_of-requires-clause-origin : goal.text_of-requires-clause-origin
text_of-requires-clause-origin c = subst IsUtf8 (sym (ap (λ (r : Reply). r.origin) c.refusal.ensures)) (legal_origin _ c.wallet.ensures.sound.legal)
