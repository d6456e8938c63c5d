use Rattle.std.proofs.Common.{◌≡◌, [], map, drop}
use Rattle.op_http.specs.Routers.{rows_from, row_of}
use Rattle.op_http.proofs.table.router_of.Given as goal

abbrev pub invariant-loop-row : goal.invariant-loop-row
invariant-loop-row l = rows_from l.router (drop l.row-index (map row_of l.table)) ≡ rows_from [] (map row_of l.table)
