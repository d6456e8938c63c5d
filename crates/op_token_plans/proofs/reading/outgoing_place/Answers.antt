use Rattle.op_model.specs.PaymentAnswers.{outgoing_place}
use Rattle.op_model.specs.Payments.{outgoing_row}
use Rattle.op_token_plans.proofs.RowsRead.{place_there, place_nowhere, place_unnamed}
use Rattle.op_token_plans.proofs.reading.outgoing_place.Goals as goal

pub returns-in_default : goal.returns-in_default
returns-in_default c history is = place_unnamed (outgoing_row history) outgoing_place c.args.outgoing c.in_default.is

pub returns-in-Some-outgoing : goal.returns-in-Some-outgoing
returns-in-Some-outgoing c history is =
    place_there (outgoing_row history) outgoing_place c.args.outgoing c.in-Some.number c.in-Some-outgoing.row.now c.in-Some.is (c.in-Some-outgoing.ensures history is)

pub returns-in-None : goal.returns-in-None
returns-in-None c history is = place_nowhere (outgoing_row history) outgoing_place c.args.outgoing c.in-Some.number c.in-Some.is (c.in-None.ensures history is)
