use Rattle.std.proofs.Common.{sym, subst}
use Rattle.std.specs.Str.{IsUtf8}
use Rattle.op_names.proofs.AsciiTexts.{IsUtf8-id_text}
use Rattle.op_reply.proofs.values.Json.id.Goals as goal

pub bytes-requires : goal.bytes-requires
bytes-requires c = subst IsUtf8 (sym c.id_text.ensures) (IsUtf8-id_text (record { kind = c.args.kind; number = c.args.number }))
