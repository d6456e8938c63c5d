use Rattle.op_model.specs.declared.request.Request.TheVariants.{ListIncomings}
use Rattle.op_api.proofs.parameters.read_list_incomings.Goals as goal

pub returns-in-Err-clause-meant : goal.returns-in-Err-clause-meant
returns-in-Err-clause-meant c = c.in-Err.ensures.meant (λ address first cursor. ListIncomings address first cursor)
