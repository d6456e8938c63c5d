use Rattle.std.proofs.Common.{rules, sym, subst, IsTrue}
use Rattle.op_model.specs.Metadata.{is_metadata}
use Rattle.op_reply.proofs.Objects.{metadata_reads}
use Rattle.op_reply.proofs.values.Json.metadata.Goals as goal

pub unreachable-requires : goal.unreachable-requires
unreachable-requires c =
    metadata_reads c.bytes.result.now (λ utf8. c.in-Err.ensures.err (λ memory. search rules) utf8)
    (subst (λ text. IsTrue (is_metadata text)) (sym c.bytes.ensures.value) c.bytes.ensures.form)
