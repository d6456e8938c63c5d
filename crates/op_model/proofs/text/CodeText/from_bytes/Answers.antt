use Rattle.std.proofs.Common.{◌≤◌, length, arith}
use Rattle.op_amount.proofs.Padded.{length-padded, padded_is}
use Rattle.op_model.proofs.text.CodeText.from_bytes.Goals as goal

pub invariant_of-result : goal.invariant_of-result
invariant_of-result c =
    let short : length c.args.text.now ≤ 8 = omega arith in
    rw c.copy_from_slice.ensures.after (length-padded c.args.text.now 8 short, short, padded_is c.args.text.now 8)
