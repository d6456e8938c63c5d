use Rattle.std.proofs.Common.{arith}
use Rattle.op_record.proofs.fields.word_at.Goals as goal

pub copy_from_slice-requires : goal.copy_from_slice-requires
copy_from_slice-requires c = omega (arith, c.in_ok-drawn.ensures.len)
