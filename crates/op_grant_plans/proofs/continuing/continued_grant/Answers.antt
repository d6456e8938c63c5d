use Rattle.std.proofs.Common.{◌∙◌, sym, ap, Err, Option}
use Rattle.std.specs.declared.result.Result.{Result}
use Rattle.op_grant_plans.proofs.Continued.{continues}
use Rattle.op_grant_plans.proofs.Owned.{own_found}
use Rattle.op_model.specs.declared.act.Act.{Act}
use Rattle.op_model.specs.declared.reply.Refusal.{Refusal}
use Rattle.op_grant_plans.proofs.continuing.continued_grant.Goals as goal

pub returns-in-Err-clause-answer : goal.returns-in-Err-clause-answer
returns-in-Err-clause-answer c history same =
    let context = c.args.context.now in
    let value = c.args.grants.now in
    let verdict = context.verdict.now in
    let n = c.in-Some.n in
    continues history context.next.at context.word.now c.args.grant c.args.reference.now verdict value n _ (Err c.in-Err.fault) same (sym c.if-not-is_proved.ensures) (own_found value verdict c.args.grant n c.in-Some.ensures) c.in-Some-token.is c.in-Err.ensures.answer
    ∙ ap (λ (r : Refusal). let x : Result (Option Act) Refusal = Err r in x) (sym c.refusal_of.ensures)
