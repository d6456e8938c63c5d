use Rattle.std.proofs.Common.{arith}
use Rattle.op_http.proofs.Tables.{rows_step, rows_end}
use Rattle.op_http.proofs.table.router_of.Goals as goal

pub loop-row-preserved : goal.loop-row-preserved
loop-row-preserved c = rows_step c.args.table.now c.loop-row.row-index _ c.loop-row.router _ _ c.loop-row-test.true c.in_ok-add.ensures c.loop-row.invariant

pub returns : goal.returns
returns c = rows_end c.args.table.now c.loop-row.row-index _ _ (omega arith) c.loop-row.invariant
