use Rattle.std.proofs.Common.{ap, ◌∙◌, ◌++◌, ◌∷◌, [], refl, Option}
use Rattle.std.specs.Option.{option_map_or}
use Rattle.op_model.specs.Legal.{IsNext}
use Rattle.op_model.specs.declared.act.Entry.{Entry}
use Rattle.op_model.specs.declared.act.Act.TheVariants.{OutgoingFailed}
use Rattle.op_model.specs.declared.act.FailReason.TheVariants.{Cancelled}
use Rattle.op_model.specs.declared.row.OutgoingRow.{OutgoingRow}
use Rattle.op_outgoing.specs.Steps.{voided}
use Rattle.op_paying.specs.Money.{IsMoneyOf}
use Rattle.op_paying.specs.declared.money.Money.{Money}
use Rattle.op_paying.proofs.Acts.{with_act, of_act}
use Rattle.op_paying.proofs.CancelMoney.{cancel_taken, cancel_money}
use Rattle.op_paying.proofs.StepMoney.{row_kept, payment_there, accounts_kept, covered_kept}
use Rattle.op_paying.proofs.money.Money.take_cancelling.Goals as goal

pub cancel-requires-clause-there : goal.cancel-requires-clause-there
cancel-requires-clause-there c =
    let can = c.requires.can in
    let act = OutgoingFailed c.args.payment c.args.step Cancelled in
    let taken = cancel_taken can.history c.args.entry.now.at c.args.payment c.args.step (with_act (IsNext can.history) c.args.entry.now act c.requires.is can.next) in
    payment_there can.history c.args.self.now c.args.payment taken.row can.is taken.there

pub cancel-requires-clause-accounts : goal.cancel-requires-clause-accounts
cancel-requires-clause-accounts c =
    let can = c.requires.can in
    let act = OutgoingFailed c.args.payment c.args.step Cancelled in
    let taken = cancel_taken can.history c.args.entry.now.at c.args.payment c.args.step (with_act (IsNext can.history) c.args.entry.now act c.requires.is can.next) in
    accounts_kept can.history c.args.self.now c.args.payment taken.row can.is taken.there

pub cancel-requires-clause-covered : goal.cancel-requires-clause-covered
cancel-requires-clause-covered c = covered_kept c.requires.can.history c.args.self.now c.requires.can.is

pub returns : goal.returns
returns c history is next =
    let old = c.args.self.now in
    let p = c.args.payment in
    let k = c.args.step in
    let e = c.args.entry.now in
    let act = OutgoingFailed p k Cancelled in
    let follows = with_act (IsNext history) e act c.requires.is next in
    let taken = cancel_taken history e.at p k follows in
    let kept = row_kept history old p taken.row is taken.there in
    let new : Money = record { ledger = c.cancel.new.ledger; incomings = old.incomings; outgoings = c.cancel.new.self; pieces = old.pieces; addresses = old.addresses } in
    of_act (λ (x : Entry). IsMoneyOf (history ++ x ∷ []) new) e act c.requires.is
    (cancel_money history e.at p k old new taken.row is follows taken.there
    (c.in-Ok.ensures.money ∙ ap (λ (o : Option OutgoingRow). option_map_or (voided old.ledger) o old.ledger) kept) refl c.in-Ok.ensures.rows refl refl)
