use Rattle.std.proofs.Common.{◌≡◌, ◌≤◌, length, arith, true}
use Rattle.std.proofs.Math.Seq.{take-append_seam}
use Rattle.std.proofs.lemmas.Bool.Decides.{nat_tests}
use Rattle.op_amount.proofs.Padded.{length-padded, padded_is}
use Rattle.op_model.specs.Metadata.{is_page}
use Rattle.op_model.proofs.metadata.PageText.from_bytes.Goals as goal

pub invariant_of-result : goal.invariant_of-result
invariant_of-result c =
    let short : length c.args.name.now ≤ 64 = omega arith in
    let form : is_page c.args.name.now ≡ true = grind (arith, nat_tests) in
    rw c.copy_from_slice.ensures.after (length-padded c.args.name.now 64 short, short, padded_is c.args.name.now 64, rw take-append_seam form)
