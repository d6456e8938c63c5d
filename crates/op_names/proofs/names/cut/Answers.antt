use Rattle.std.proofs.Common.{arith}
use Rattle.op_names.proofs.Slashes.{slash_is_boundary, slash_behind}
use Rattle.op_names.proofs.names.cut.Goals as goal

pub range-requires-clause-end_boundary : goal.range-requires-clause-end_boundary
range-requires-clause-end_boundary c =
    let at = slash_behind c.args.text.now c.as_bytes.result.now c.args.start c.slash_at.result c.as_bytes.ensures.value c.slash_at.ensures.value in
    (at.1 c.requires, λ inside high. absurd (omega (arith, slash_is_boundary c.args.text.now c.args.start c.slash_at.result at.0 inside)))
