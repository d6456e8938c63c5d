use Rattle.op_model.specs.PaymentAnswers.{incoming_place}
use Rattle.op_model.specs.Payments.{incoming_row}
use Rattle.op_token_plans.proofs.RowsRead.{place_there, place_nowhere, place_unnamed}
use Rattle.op_token_plans.proofs.reading.incoming_place.Goals as goal

pub returns-in_default : goal.returns-in_default
returns-in_default c history is = place_unnamed (incoming_row history) incoming_place c.args.incoming c.in_default.is

pub returns-in-Some-incoming : goal.returns-in-Some-incoming
returns-in-Some-incoming c history is =
    place_there (incoming_row history) incoming_place c.args.incoming c.in-Some.number c.in-Some-incoming.row.now c.in-Some.is (c.in-Some-incoming.ensures history is)

pub returns-in-None : goal.returns-in-None
returns-in-None c history is = place_nowhere (incoming_row history) incoming_place c.args.incoming c.in-Some.number c.in-Some.is (c.in-None.ensures history is)
