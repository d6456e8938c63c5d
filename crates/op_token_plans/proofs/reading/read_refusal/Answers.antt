use Rattle.std.proofs.Common.{◌∙◌, sym, ap, subst, List, ℕ, Option, Ok, Err}
use Rattle.std.specs.Option.{option_map}
use Rattle.op_granting.specs.Access.{AreLooksOf}
use Rattle.op_model.specs.PaymentAnswers.{looks_at_row}
use Rattle.op_token_plans.specs.Looks.{pair_of}
use Rattle.op_token_plans.specs.declared.looks.Place.{Place}
use Rattle.op_token_plans.proofs.RowsRead.{read_is, rest_of_reading}
use Rattle.op_token_plans.proofs.reading.read_refusal.Goals as goal

pub returns-in-Err : goal.returns-in-Err
returns-in-Err c history are =
    let row = option_map pair_of c.args.row in
    let looked = looks_at_row history c.args.kind 12 8 row in
    let is = subst (λ (o : Option (List ℕ)). AreLooksOf c.looks_at_row-looks.result history o looked) c.client.ensures (c.looks_at_row-looks.ensures history are) in
    read_is history c.args.asking.now.at c.args.kind row c.args.asking.now.verdict.now (Err c.in-Err.refusal) (c.in-Err.ensures history looked are is)

pub returns-in-Some : goal.returns-in-Some
returns-in-Some c history are =
    let row = option_map pair_of c.args.row in
    let looked = looks_at_row history c.args.kind 12 8 row in
    let is = subst (λ (o : Option (List ℕ)). AreLooksOf c.looks_at_row-looks.result history o looked) c.client.ensures (c.looks_at_row-looks.ensures history are) in
    sym (ap (λ (r : Option Place). rest_of_reading (option_map pair_of r) c.in-Ok.field-0) c.in-Some.is)
    ∙ read_is history c.args.asking.now.at c.args.kind row c.args.asking.now.verdict.now (Ok c.in-Ok.field-0) (c.in-Ok.ensures history looked are is)

pub returns-in-None : goal.returns-in-None
returns-in-None c history are =
    let row = option_map pair_of c.args.row in
    let looked = looks_at_row history c.args.kind 12 8 row in
    let is = subst (λ (o : Option (List ℕ)). AreLooksOf c.looks_at_row-looks.result history o looked) c.client.ensures (c.looks_at_row-looks.ensures history are) in
    sym (ap (λ (r : Option Place). rest_of_reading (option_map pair_of r) c.in-Ok.field-0) c.in-None.is)
    ∙ read_is history c.args.asking.now.at c.args.kind row c.args.asking.now.verdict.now (Ok c.in-Ok.field-0) (c.in-Ok.ensures history looked are is)
