use Rattle.op_model.specs.declared.request.Request.TheVariants.{Withdraw}
use Rattle.op_api.proofs.provider.read_withdraw.Goals as goal

pub returns-in-Err-clause-meant : goal.returns-in-Err-clause-meant
returns-in-Err-clause-meant c = c.in-Err.ensures.meant (λ transfer account amount. Withdraw transfer account amount)
