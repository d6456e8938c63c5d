use Rattle.std.proofs.Common.{◌≤◌, length, take, length-take, ℕ, arith}
use Rattle.op_time.proofs.Fitting.{three_places}
use Rattle.op_time.proofs.moments.milliseconds_of.Goals as goal

pub returns-clause-bound : goal.returns-clause-bound
returns-clause-bound c =
    let kept = length (take c.min.result c.args.fraction.now) in
    let few : kept ≤ 3 = omega (arith, length-take {A = ℕ} c.min.result c.args.fraction.now, c.min.ensures) in
    rw c.pow.ensures (three_places c.number.result kept few c.number.ensures.bound)
