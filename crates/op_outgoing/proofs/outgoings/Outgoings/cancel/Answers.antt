use Rattle.std.proofs.Common.{List, refl, ap, ◌∙◌, arith}
use Rattle.op_model.specs.declared.act.FailReason.TheVariants.{Cancelled}
use Rattle.op_model.specs.declared.row.OutgoingRow.{OutgoingRow}
use Rattle.op_outgoing.specs.Progress.{with_progress}
use Rattle.op_outgoing.specs.Steps.{ended_as}
use Rattle.op_outgoing.specs.Value.{OutgoingsValue, with_payment}
use Rattle.op_outgoing.proofs.Quotes.{rows_of}
use Rattle.op_outgoing.proofs.Rows.{with_item-agree, tied_changed, hold-le, covered_in, held_in_value, covered_in_value}
use Rattle.op_outgoing.proofs.outgoings.Outgoings.cancel.Goals as goal

pub void_rest-requires-clause-covered : goal.void_rest-requires-clause-covered
void_rest-requires-clause-covered c =
    let row = c.at-row.result.now in
    let covered = covered_in c.self.inside.payments c.args.self.now c.args.ledger.now (ap (λ value. value.rows) c.self.view_is) c.requires.covered in
    omega (arith, hold-le c.self.inside.payments c.args.payment row c.at-row.ensures.found, covered row.terms.payer)

pub invariant_of-self : goal.invariant_of-self
invariant_of-self c =
    rw c.set.ensures (tied_changed (with_progress c.failed-after.result) c.self.inside.quotes.items c.self.inside.payments c.args.payment (λ row. refl) c.self.invariant)

pub returns-clause-rows : goal.returns-clause-rows
returns-clause-rows c =
    let shown : List OutgoingRow → OutgoingsValue = λ xs. record { quotes = rows_of c.self.inside.quotes.items; rows = xs } in
    let is = c.set.ensures ∙ with_item-agree (with_progress c.failed-after.result) (ended_as Cancelled) c.self.inside.payments c.args.payment c.at-row.result.now c.at-row.ensures.found c.failed-after.ensures.value in
    ap shown is ∙ ap (λ value. with_payment (ended_as Cancelled) value c.args.payment) c.self.view_is

pub returns-clause-held : goal.returns-clause-held
returns-clause-held c =
    let rows = c.self.inside.payments in
    let row = c.at-row.result.now in
    let is = c.set.ensures ∙ with_item-agree (with_progress c.failed-after.result) (ended_as Cancelled) rows c.args.payment row c.at-row.ensures.found c.failed-after.ensures.value in
    held_in_value rows c.set.new.self c.args.self.now c.args.ledger.now c.void_rest.new.ledger (ended_as Cancelled) c.args.payment row (ap (λ value. value.rows) c.self.view_is) is c.at-row.ensures.found (c.void_rest.ensures.held Cancelled)

pub returns-clause-covered : goal.returns-clause-covered
returns-clause-covered c =
    let rows = c.self.inside.payments in
    let row = c.at-row.result.now in
    let is = c.set.ensures ∙ with_item-agree (with_progress c.failed-after.result) (ended_as Cancelled) rows c.args.payment row c.at-row.ensures.found c.failed-after.ensures.value in
    covered_in_value rows c.set.new.self c.args.self.now c.args.ledger.now c.void_rest.new.ledger (ended_as Cancelled) c.args.payment row (ap (λ value. value.rows) c.self.view_is) is c.at-row.ensures.found (c.void_rest.ensures.held Cancelled) c.requires.covered
