use Rattle.std.proofs.Common.{◌∙◌, length-set, arith, sym}
use Rattle.op_names.proofs.Blocks.{next_masked, masked_by_place}
use Rattle.op_names.proofs.hmac.masked.Goals as goal

pub bytes-preserved : goal.bytes-preserved
bytes-preserved c = (length-set c.bytes.out c.bytes.i _ ∙ c.bytes.invariant.0, next_masked c.args.mask c.bytes.i c.args.block.now c.bytes.out (omega (arith, c.bytes.invariant.0, c.bytes-test.true)) c.bytes.invariant.1)

pub returns : goal.returns
returns c = masked_by_place c.args.mask c.args.block.now c.bytes.out (c.bytes.invariant.0 ∙ sym c.told-block) (λ k h. c.bytes.invariant.1 k (omega (arith, c.told-block, c.bytes-test.false)))
