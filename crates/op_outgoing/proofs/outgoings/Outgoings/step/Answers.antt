use Rattle.std.proofs.Common.{List, refl, ap, ◌∙◌, arith}
use Rattle.op_model.specs.declared.row.OutgoingRow.{OutgoingRow}
use Rattle.op_outgoing.specs.Progress.{with_progress}
use Rattle.op_outgoing.specs.Steps.{stepped_row}
use Rattle.op_outgoing.specs.Value.{OutgoingsValue, with_payment}
use Rattle.op_outgoing.proofs.Idle.{idle_changes_nothing}
use Rattle.op_outgoing.proofs.Quotes.{rows_of}
use Rattle.op_outgoing.proofs.Rows.{with_item-agree, with_item-same, tied_changed, hold-le, covered_in, held_in_value, covered_in_value}
use Rattle.op_outgoing.proofs.outgoings.Outgoings.step.Goals as goal

pub take_step-stepped-requires-clause-covered : goal.take_step-stepped-requires-clause-covered
take_step-stepped-requires-clause-covered c =
    let row = c.at-row.result.now in
    let covered = covered_in c.self.inside.payments c.args.self.now c.args.ledger.now (ap (λ value. value.rows) c.self.view_is) c.requires.covered in
    omega (arith, hold-le c.self.inside.payments c.args.payment row c.at-row.ensures.found, covered row.terms.payer)

pub invariant_of-self : goal.invariant_of-self
invariant_of-self c =
    let after = c.take_step-stepped.result.after in
    rw c.set.ensures (tied_changed (with_progress after) c.self.inside.quotes.items c.self.inside.payments c.args.payment (λ row. refl) c.self.invariant)

pub returns-clause-rows : goal.returns-clause-rows
returns-clause-rows c =
    let answer = c.take_step-stepped.result.answer in
    let after = c.take_step-stepped.result.after in
    let rows = c.self.inside.payments in
    let shown : List OutgoingRow → OutgoingsValue = λ xs. record { quotes = rows_of c.self.inside.quotes.items; rows = xs } in
    let is = c.set.ensures ∙ with_item-agree (with_progress after) (stepped_row answer) rows c.args.payment c.at-row.result.now c.at-row.ensures.found c.take_step-stepped.ensures.after in
    ap shown is ∙ ap (λ value. with_payment (stepped_row answer) value c.args.payment) c.self.view_is

pub returns-clause-idle : goal.returns-clause-idle
returns-clause-idle c = λ idle.
    let answer = c.take_step-stepped.result.answer in
    let after = c.take_step-stepped.result.after in
    let row = c.at-row.result.now in
    let stays = idle_changes_nothing answer row c.args.ledger.now c.args.incomings.now idle in
    let shown : List OutgoingRow → OutgoingsValue = λ xs. record { quotes = rows_of c.self.inside.quotes.items; rows = xs } in
    let is = c.set.ensures ∙ with_item-same (with_progress after) c.self.inside.payments c.args.payment row c.at-row.ensures.found (c.take_step-stepped.ensures.after ∙ stays.row_stays) in
    (ap shown is ∙ c.self.view_is, c.take_step-stepped.ensures.money ∙ stays.ledger_stays, c.take_step-stepped.ensures.paid ∙ stays.incomings_stay)

pub returns-clause-held : goal.returns-clause-held
returns-clause-held c =
    let answer = c.take_step-stepped.result.answer in
    let rows = c.self.inside.payments in
    let row = c.at-row.result.now in
    let is = c.set.ensures ∙ with_item-agree (with_progress c.take_step-stepped.result.after) (stepped_row answer) rows c.args.payment row c.at-row.ensures.found c.take_step-stepped.ensures.after in
    held_in_value rows c.set.new.self c.args.self.now c.args.ledger.now c.take_step-stepped.new.ledger (stepped_row answer) c.args.payment row (ap (λ value. value.rows) c.self.view_is) is c.at-row.ensures.found c.take_step-stepped.ensures.held

pub returns-clause-covered : goal.returns-clause-covered
returns-clause-covered c =
    let answer = c.take_step-stepped.result.answer in
    let rows = c.self.inside.payments in
    let row = c.at-row.result.now in
    let is = c.set.ensures ∙ with_item-agree (with_progress c.take_step-stepped.result.after) (stepped_row answer) rows c.args.payment row c.at-row.ensures.found c.take_step-stepped.ensures.after in
    covered_in_value rows c.set.new.self c.args.self.now c.args.ledger.now c.take_step-stepped.new.ledger (stepped_row answer) c.args.payment row (ap (λ value. value.rows) c.self.view_is) is c.at-row.ensures.found c.take_step-stepped.ensures.held c.requires.covered
