use Rattle.std.proofs.Common.{subst}
use Rattle.op_record.specs.Fields.{item}
use Rattle.op_record.specs.Writing.{Puts}
use Rattle.op_record.proofs.Putting.{one_more, all_put, item_of_all}
use Rattle.op_record.proofs.writing.put_each_item.Goals as goal

pub put_item-requires : goal.put_item-requires
put_item-requires c = rw c.value-item.is (item_of_all 0 c.args.values.now c.loop-value.value-index _ c.requires c.loop-value-test.true)

pub loop-value-preserved : goal.loop-value-preserved
loop-value-preserved c =
    let x = c.value-item.result in
    let p = subst (λ v. Puts (item v) c.loop-value.out c.put_item.new.out) c.value-item.is c.put_item.ensures in
    one_more item c.args.values.now c.loop-value.value-index x _ _ _ c.loop-value-test.true c.loop-value.invariant p

pub returns : goal.returns
returns c = all_put item c.args.values.now c.loop-value.value-index _ _ c.loop-value-test.false c.loop-value.invariant
