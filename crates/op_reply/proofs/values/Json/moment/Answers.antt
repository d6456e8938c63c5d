use Rattle.std.proofs.Common.{◌≡◌, sym, subst, IfOk}
use Rattle.std.specs.Str.{IsUtf8}
use Rattle.serde_json.specs.Data.{string}
use Rattle.op_reply.specs.Values.{data_of}
use Rattle.op_reply.proofs.AsciiTexts.{IsUtf8-moment_text}
use Rattle.op_reply.proofs.values.Json.moment.Goals as goal

pub bytes-requires : goal.bytes-requires
bytes-requires c = subst IsUtf8 (sym c.print_moment.ensures.value) (IsUtf8-moment_text c.args.moment)

pub returns : goal.returns
returns c = subst (λ text. IfOk c.bytes.result (λ json. data_of json ≡ string text)) c.print_moment.ensures.value c.bytes.ensures
