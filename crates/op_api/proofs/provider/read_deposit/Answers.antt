use Rattle.op_model.specs.declared.request.Request.TheVariants.{Deposit}
use Rattle.op_api.proofs.provider.read_deposit.Goals as goal

pub returns-in-Err-clause-meant : goal.returns-in-Err-clause-meant
returns-in-Err-clause-meant c = c.in-Err.ensures.meant (λ transfer account amount. Deposit transfer account amount)
