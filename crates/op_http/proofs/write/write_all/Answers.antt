use Rattle.std.proofs.Common.{◌+◌, ◌-◌, drop, length, arith, ◌∙◌}
use Rattle.std.proofs.lemmas.List.{length-take, length-drop}
use Rattle.op_http.proofs.Stream.{appends_part}
use Rattle.op_http.proofs.write.write_all.Goals as goal

pub loop-done-preserved : goal.loop-done-preserved
loop-done-preserved g c =
    let d = c.loop-done.done in
    let xs = c.args.bytes.now in
    record {
      within = omega (arith, c.in-Ok.ensures.bound, length-take (length xs - d) (drop d xs), length-drop d xs);
      written = appends_part _ _ _ xs d c.in-Ok.count c.loop-done.invariant.written c.in-Ok.ensures.bytes;
      faults = c.in-Ok.ensures.cause.kept ∙ c.loop-done.invariant.faults;
    }

pub returns-in-Err-clause-err : goal.returns-in-Err-clause-err
returns-in-Err-clause-err g c =
    let part = c.in-Err.ensures.bytes in
    (c.loop-done.done + part.0, appends_part _ _ _ c.args.bytes.now c.loop-done.done part.0 c.loop-done.invariant.written part.1)
