use Rattle.std.proofs.Common.{◌≡◌, ◌≤◌, length, true, sym}
use Rattle.std.proofs.Math.Seq.{take-append_seam}
use Rattle.op_amount.specs.Code.{is_asset_code}
use Rattle.op_amount.proofs.Padded.{length-padded, padded_is, code_is_short}
use Rattle.op_amount.proofs.code.AssetCode.read.Goals as goal

pub invariant_of-result : goal.invariant_of-result
invariant_of-result c =
    let text = c.as_bytes-bytes.result.now in
    let is_code : is_asset_code text ≡ true = sym c.if-not-is_code.ensures in
    let short : length text ≤ 8 = code_is_short _ is_code in
    rw c.copy_from_slice.ensures.after (length-padded text 8 short, short, padded_is text 8, rw take-append_seam is_code)
