use Rattle.op_cli.proofs.Printable.{built_is_printable}
use Rattle.op_cli.proofs.session.text_of.Goals as goal

pub print_reply-requires : goal.print_reply-requires
print_reply-requires c = built_is_printable c.args.reply c.requires.origin c.requires.built
