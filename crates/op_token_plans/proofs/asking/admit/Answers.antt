use Rattle.std.proofs.Common.{Some, None}
use Rattle.op_token_plans.proofs.Admitting.{admitted, not_admitted}
use Rattle.op_token_plans.proofs.asking.admit.Goals as goal

pub returns-in-Some : goal.returns-in-Some
returns-in-Some c history looked are is =
    admitted history c.args.asking.now.at c.args.asking.now.verdict.now looked c.in-Ok.n (Some c.in-Some.refusal) (c.in-Ok.ensures.value history are) (λ row there. c.in-Some.ensures history row looked are there is)

pub returns-in-None : goal.returns-in-None
returns-in-None c history looked are is =
    admitted history c.args.asking.now.at c.args.asking.now.verdict.now looked c.in-Ok.n None (c.in-Ok.ensures.value history are) (λ row there. c.in-None.ensures history row looked are there is)

pub returns-in-Err : goal.returns-in-Err
returns-in-Err c history looked are is =
    not_admitted history c.args.asking.now.at c.args.asking.now.verdict.now looked c.in-Err.refusal (c.in-Err.ensures.value history are)
