use Rattle.op_record.specs.Fields.{number}
use Rattle.op_record.proofs.Putting.{one_more, all_put}
use Rattle.op_record.proofs.writing.put_numbers.Goals as goal

pub loop-n-preserved : goal.loop-n-preserved
loop-n-preserved c = one_more (number 8) c.args.numbers.now c.loop-n.n-index 0 _ _ _ c.loop-n-test.true c.loop-n.invariant c.put_u64.ensures

pub returns : goal.returns
returns c = all_put (number 8) c.args.numbers.now c.loop-n.n-index _ _ c.loop-n-test.false c.loop-n.invariant
