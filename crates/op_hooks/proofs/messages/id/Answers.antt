use Rattle.std.proofs.Common.{sym, subst}
use Rattle.std.specs.Str.{IsUtf8}
use Rattle.op_names.specs.declared.Id.{Id}
use Rattle.op_names.proofs.AsciiTexts.{IsUtf8-id_text}
use Rattle.op_hooks.proofs.messages.id.Goals as goal

pub unreachable-requires : goal.unreachable-requires
unreachable-requires c =
    let id : Id = record { kind = c.args.kind; number = c.args.number } in
    c.in-Err.ensures.cases.0 (subst IsUtf8 (sym c.id_text-text.ensures) (IsUtf8-id_text id))
