use Rattle.op_model.specs.PaymentAnswers.{quote_place}
use Rattle.op_model.specs.Payments.{quote_row}
use Rattle.op_token_plans.proofs.RowsRead.{place_there, place_nowhere, place_unnamed}
use Rattle.op_token_plans.proofs.reading.quote_place.Goals as goal

pub returns-in_default : goal.returns-in_default
returns-in_default c history is = place_unnamed (quote_row history) quote_place c.args.quote c.in_default.is

pub returns-in-Some-quote : goal.returns-in-Some-quote
returns-in-Some-quote c history is =
    place_there (quote_row history) quote_place c.args.quote c.in-Some.number c.in-Some-quote.row.now c.in-Some.is (c.in-Some-quote.ensures history is)

pub returns-in-None : goal.returns-in-None
returns-in-None c history is = place_nowhere (quote_row history) quote_place c.args.quote c.in-Some.number c.in-Some.is (c.in-None.ensures history is)
