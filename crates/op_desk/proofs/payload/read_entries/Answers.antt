use Rattle.std.proofs.Common.{ap, arith, inr}
use Rattle.std.specs.Prelude.{Err}
use Rattle.op_desk.proofs.payload.read_entries.Goals as goal

pub overflow_add-result-in-Err-Bad : goal.overflow_add-result-in-Err-Bad
overflow_add-result-in-Err-Bad c =
    let bad = c.in-Err-Bad.ensures.bad c.in-Err-Bad.at (ap Err c.in-Err-Bad.field-0-is) in
    omega (arith, bad.within, c.requires)

pub returns-in-Err-Bad-clause-broken : goal.returns-in-Err-Bad-clause-broken
returns-in-Err-Bad-clause-broken c bad is = (c.in-Err-Bad.at, inr (c.in-Err-Bad.ensures.bad c.in-Err-Bad.at (ap Err c.in-Err-Bad.field-0-is)), cc)
