use Rattle.std.proofs.Common.{◌∙◌, sym, ap, subst, List, ℕ, Option}
use Rattle.op_granting.specs.Access.{AreLooksOf}
use Rattle.op_model.specs.Access.{access_refusal}
use Rattle.op_model.specs.Asking.{refuse_with}
use Rattle.op_token_plans.proofs.asking.access.Goals as goal

pub returns : goal.returns
returns c history row looked are there is =
    let same = c.client.ensures in
    ap refuse_with
    (c.access_refusal.ensures history row looked are there (subst (λ (o : Option (List ℕ)). AreLooksOf c.args.looks.now history o looked) (sym same) is)
    ∙ ap (λ (o : Option (List ℕ)). access_refusal history c.args.asking.now.at o c.args.n row looked) same)
