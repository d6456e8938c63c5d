use Rattle.std.proofs.Common.{sym, subst}
use Rattle.std.specs.Str.{IsUtf8}
use Rattle.op_grant.proofs.IntervalTexts.{interval_is_utf8}
use Rattle.op_grant.proofs.limits.read.Goals as goal

pub unreachable-requires : goal.unreachable-requires
unreachable-requires c =
    c.in-Err.ensures.cases.0 (subst IsUtf8 (sym c.bytes.ensures) (interval_is_utf8 c.args.text.now c.requires))
