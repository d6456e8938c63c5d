use Rattle.std.proofs.Common.{◌∙◌, sym, ap, ℕ, Option}
use Rattle.op_model.specs.Actions as actions
use Rattle.op_model.specs.PaymentAnswers.{incoming_place, read_row}
use Rattle.op_model.specs.Payments.{incoming_row}
use Rattle.op_model.specs.Shown.{incoming_shown}
use Rattle.op_model.specs.declared.reply.ReplyBody.TheVariants as bodies
use Rattle.op_token_plans.specs.Shown.{row_beside}
use Rattle.op_token_plans.proofs.RowsRead.{read_there}
use Rattle.op_token_plans.proofs.Showing.{told_shown}
use Rattle.op_token_plans.proofs.reading.plan_read_incoming.Goals as goal

pub returns-in-Some : goal.returns-in-Some
returns-in-Some c history word fee are =
    sym (c.in-Some.ensures history are.grants_are
    ∙ ap (λ (p : Option (ℕ × ℕ)). read_row history c.args.asking.now.at actions.incoming_payment p c.args.asking.now.verdict.now) (c.incoming_place-place.ensures history are.money_is))

pub returns-in-Some-shown : goal.returns-in-Some-shown
returns-in-Some-shown c history word fee are = (
  sym (c.in_default.ensures history are.grants_are
      ∙ ap (λ (p : Option (ℕ × ℕ)). read_row history c.args.asking.now.at actions.incoming_payment p c.args.asking.now.verdict.now) (c.incoming_place-place.ensures history are.money_is)),
  told_shown (incoming_shown history) bodies.IncomingRead c.in-Some-shown.incoming (row_beside (incoming_row history) c.args.incoming) (sym c.in-Some-shown.is ∙ c.in_ok-shown.ensures history are.names_are are.money_is),
)

pub returns-in-None : goal.returns-in-None
returns-in-None c history word fee are =
    absurd (read_there history c.args.asking.now.at actions.incoming_payment c.args.asking.now.verdict.now (incoming_row history) c.args.incoming (incoming_shown history) incoming_place
    (sym (c.in_default.ensures history are.grants_are
    ∙ ap (λ (p : Option (ℕ × ℕ)). read_row history c.args.asking.now.at actions.incoming_payment p c.args.asking.now.verdict.now) (c.incoming_place-place.ensures history are.money_is)))
    (sym c.in-None.is ∙ c.in_ok-shown.ensures history are.names_are are.money_is))
