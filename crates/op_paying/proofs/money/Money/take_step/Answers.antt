use Rattle.std.proofs.Common.{ap, ◌∙◌, refl, Option}
use Rattle.std.specs.Option.{option_map_or}
use Rattle.op_model.specs.declared.reply.StepAnswer.TheVariants as answers
use Rattle.op_model.specs.declared.row.OutgoingRow.{OutgoingRow}
use Rattle.op_outgoing.specs.Answers.{row_answer}
use Rattle.op_outgoing.specs.Steps.{stepped_ledger, stepped_incomings}
use Rattle.op_paying.proofs.StepMoney.{step_taken, step_money, row_kept, payment_there, accounts_kept, incoming_kept, rate_kept, covered_kept, sound_of}
use Rattle.op_paying.proofs.money.Money.take_step.Goals as goal

pub step-requires-clause-there : goal.step-requires-clause-there
step-requires-clause-there c =
    let can = c.requires.can in
    let taken = step_taken can.history c.args.entry.now c.args.payment c.args.step (c.requires.is can.history) can.next in
    payment_there can.history c.args.self.now c.args.payment taken.row can.is taken.there

pub step-requires-clause-accounts : goal.step-requires-clause-accounts
step-requires-clause-accounts c =
    let can = c.requires.can in
    let taken = step_taken can.history c.args.entry.now c.args.payment c.args.step (c.requires.is can.history) can.next in
    accounts_kept can.history c.args.self.now c.args.payment taken.row can.is taken.there

pub step-requires-clause-incoming : goal.step-requires-clause-incoming
step-requires-clause-incoming c =
    let can = c.requires.can in
    let taken = step_taken can.history c.args.entry.now c.args.payment c.args.step (c.requires.is can.history) can.next in
    incoming_kept can.history c.args.self.now c.args.payment taken.row can.is taken.there

pub step-requires-clause-rate : goal.step-requires-clause-rate
step-requires-clause-rate c =
    let can = c.requires.can in
    let taken = step_taken can.history c.args.entry.now c.args.payment c.args.step (c.requires.is can.history) can.next in
    rate_kept can.history c.args.self.now c.args.payment taken.row can.is taken.there

pub step-requires-clause-covered : goal.step-requires-clause-covered
step-requires-clause-covered c = covered_kept c.requires.can.history c.args.self.now c.requires.can.is

pub returns : goal.returns
returns c history is next =
    let old = c.args.self.now in
    let p = c.args.payment in
    let k = c.args.step in
    let e = c.args.entry.now in
    let reply = c.step.result in
    let taken = step_taken history e p k (c.requires.is history) next in
    let kept = row_kept history old p taken.row is taken.there in
    let sound = sound_of c.row-sound.result taken.row (c.row-sound.ensures.value ∙ kept) c.row-sound.ensures.sound in
    step_money history e old _ p k taken.row reply is next (c.requires.is history) kept sound
    (record {
      answer = c.step.ensures.answer ∙ ap (λ (o : Option OutgoingRow). option_map_or (row_answer old.ledger old.incomings k e.at) o answers.Ended) kept;
      ledger_is = c.step.ensures.money ∙ ap (λ (o : Option OutgoingRow). option_map_or (stepped_ledger old.ledger reply) o old.ledger) kept;
      incomings_are = c.step.ensures.paid ∙ ap (λ (o : Option OutgoingRow). option_map_or (stepped_incomings old.incomings reply) o old.incomings) kept;
      outgoings_are = c.step.ensures.rows;
      pieces_are = refl;
      counted = refl;
    })
