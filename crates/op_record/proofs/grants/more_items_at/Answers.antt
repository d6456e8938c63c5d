use Rattle.std.proofs.Common.{◌≡◌, ◌++◌, ◌∷◌, [], sym, ◌∙◌, arith}
use Rattle.std.proofs.lemmas.Result.{err_from_is_err_and}
use Rattle.op_record.specs.Rows.{more_items_at}
use Rattle.op_record.proofs.ItemSteps.{goes_on, ends, is_done}
use Rattle.op_record.proofs.grants.more_items_at.Goals as goal

pub returns-in_err-item : goal.returns-in_err-item
returns-in_err-item c =
    let p = err_from_is_err_and c.from_residual.result c.from_residual.ensures.1 in
    rw (p.1, p.2) (ends c.in_err-item.field-0.0 c.loop-at.items.items c.args.count c.loop-at.at c.loop-at.above c.loop-at.rest.now (more_items_at c.args.count 0 c.args.bytes.now) c.requires c.loop-at-test.true c.in_err-item.ensures.gives c.loop-at.invariant.so_far)

pub loop-at-preserved : goal.loop-at-preserved
loop-at-preserved c =
    let x = c.in_ok-item.item in
    let e : c.push.new.self.items ≡ c.loop-at.items.items ++ x ∷ [] = c.in_ok-push.ensures.items in
    record {
      so_far = rw e (goes_on c.loop-at.items.items c.args.count c.loop-at.at c.loop-at.above c.loop-at.rest.now x c.in_ok-item.after.now (more_items_at c.args.count 0 c.args.bytes.now) c.requires c.loop-at-test.true c.in_ok-item.ensures.gives c.loop-at.invariant.so_far);
      low = omega (arith, c.in_ok-item.ensures.below);
    }

pub returns : goal.returns
returns c = is_done c.loop-at.items.items c.args.count c.loop-at.at c.loop-at.above c.loop-at.rest.now (more_items_at c.args.count 0 c.args.bytes.now) c.loop-at-test.false c.loop-at.invariant.so_far
