use Rattle.std.proofs.Common.{sym, subst}
use Rattle.op_record.specs.Recordable.{IsWritable}
use Rattle.op_record.specs.Rounds.{act_in}
use Rattle.op_record.specs.Writing.{Puts}
use Rattle.op_record.proofs.Putting.{one_more, all_put, one_of_all}
use Rattle.op_record.proofs.round_writing.put_acts.Goals as goal

pub put_act-requires : goal.put_act-requires
put_act-requires c = subst (λ entry. IsWritable entry) (sym c.entry-item.is) (one_of_all IsWritable c.args.entries.now c.loop-entry.entry-index _ c.requires c.loop-entry-test.true)

pub loop-entry-preserved : goal.loop-entry-preserved
loop-entry-preserved c =
    let p = subst (λ entry. Puts (act_in entry) c.loop-entry.out c.put_act.new.out) c.entry-item.is c.put_act.ensures in
    one_more act_in c.args.entries.now c.loop-entry.entry-index c.entry-item.result _ _ _ c.loop-entry-test.true c.loop-entry.invariant p

pub returns : goal.returns
returns c = all_put act_in c.args.entries.now c.loop-entry.entry-index _ _ c.loop-entry-test.false c.loop-entry.invariant
