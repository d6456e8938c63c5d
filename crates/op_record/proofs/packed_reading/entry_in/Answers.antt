use Rattle.std.proofs.Common.{◌≡◌, ap, arith, length}
use Rattle.op_record.proofs.Held.{opens, opening_is_there, opening_shorter, found_here, passes, entry_is_there, entry_shorter}
use Rattle.op_record.proofs.packed_reading.entry_in.Goals as goal

pub opened-requires : goal.opened-requires
opened-requires c = opening_is_there _ _ _ _ _ _ c.in-Some.opening.now c.loop-opening.invariant.is c.in-Some.ensures

pub loop-opening-smaller-in-Some : goal.loop-opening-smaller-in-Some
loop-opening-smaller-in-Some c = omega (arith, opening_shorter _ _ _ c.in_ok-moment.ensures.0, ap length c.in-Some.ensures)

pub loop-opening-preserved-in-Some : goal.loop-opening-preserved-in-Some
loop-opening-preserved-in-Some c = record {
  low = c.in_ok-moment.ensures.1;
  is = opens _ _ _ _ _ _ c.in-Some.opening.now c.in_ok-moment.moment _ c.loop-opening.invariant.is c.in-Some.ensures c.in_ok-moment.ensures.0;
}

pub behind_next-requires-clause-there : goal.behind_next-requires-clause-there
behind_next-requires-clause-there c = entry_is_there _ _ _ _ _ _ c.loop-opening.invariant.is c.in_default.ensures

pub loop-opening-smaller : goal.loop-opening-smaller
loop-opening-smaller c = entry_shorter _ _ c.in_ok-rest.ensures.0 _ c.in_ok-rest.ensures.1

pub loop-opening-preserved : goal.loop-opening-preserved
loop-opening-preserved c = record {
  low = c.loop-opening.invariant.low;
  is = passes _ _ _ _ _ _ c.in_ok-rest.ensures.0 _ c.loop-opening.invariant.is c.in_default.ensures c.in_ok-rest.ensures.1 c.if-left-gt0.true;
}

pub next_in-requires-clause-there : goal.next_in-requires-clause-there
next_in-requires-clause-there c = entry_is_there _ _ _ _ _ _ c.loop-opening.invariant.is c.in_default.ensures

pub returns-else-left-gt0 : goal.returns-else-left-gt0
returns-else-left-gt0 c =
    let none : c.loop-opening.left ≡ 0 = omega (arith, c.if-left-gt0.false) in
    found_here _ _ _ _ _ _ c.in_ok-entry.entry _ c.loop-opening.invariant.is c.in_default.ensures c.in_ok-entry.ensures none
