use Rattle.std.proofs.Common.{arith}
use Rattle.op_access.proofs.Bits.{alike_next, alike_to_the_end}
use Rattle.op_access.proofs.verifier.are_equal.Goals as goal

pub bytes-preserved : goal.bytes-preserved
bytes-preserved c = alike_next c.bytes.i c.bytes.differences c.args.one.now c.args.other.now c.bytes.invariant

pub returns : goal.returns
returns c = alike_to_the_end c.bytes.i c.bytes.differences c.args.one.now c.args.other.now (omega (arith, c.told-one, c.bytes-test.false, c.bytes.auto.i-end)) (omega (arith, c.told-other, c.bytes-test.false, c.bytes.auto.i-end)) c.bytes.invariant
