use Rattle.std.proofs.Common.{◌≡◌, ◌∷◌, ◌++◌, [], refl, sym, ap, ◌∙◌, Some, Err}
use Rattle.op_incoming.specs.declared.incoming.IncomingFault.{IncomingFault}
use Rattle.op_model.specs.Legal.{IsNext}
use Rattle.op_model.specs.Payments.{incoming_made}
use Rattle.op_model.specs.declared.act.Act.{Act}
use Rattle.op_model.specs.declared.act.Act.TheVariants as acts
use Rattle.op_model.specs.declared.act.Entry.{Entry}
use Rattle.op_paying.specs.Money.{IsMoneyOf}
use Rattle.op_paying.specs.declared.money.Money.{Money}
use Rattle.op_paying.proofs.Acts.{with_act, of_act}
use Rattle.op_paying.proofs.IncomingMoney.{made_money}
use Rattle.op_paying.proofs.Refusals.{made_by, row_fits, never_zero, never_past}
use Rattle.op_paying.proofs.money.Money.take_incoming.Goals as goal

pub add-requires : goal.add-requires
add-requires c =
    let can = c.requires.can in
    (row_fits can.history c.args.entry.now c.args.row c.requires.is can.next).top

pub unreachable-requires : goal.unreachable-requires
unreachable-requires c =
    let can = c.requires.can in
    let row = c.args.row in
    never_zero c.args.entry.now.at row.expiry row.amount row.metadata (Err c.in-Err-ZeroAmount.field-0) (row_fits can.history c.args.entry.now row c.requires.is can.next) c.in-Err-ZeroAmount.ensures.zero
    (ap (λ (f : IncomingFault). Err f) c.in-Err-ZeroAmount.field-0-is)

pub unreachable-requires-in-Err-ExpiresInPast : goal.unreachable-requires-in-Err-ExpiresInPast
unreachable-requires-in-Err-ExpiresInPast c =
    let can = c.requires.can in
    let row = c.args.row in
    never_past c.args.entry.now.at row.expiry row.amount row.metadata (Err c.in-Err-ExpiresInPast.field-0) (row_fits can.history c.args.entry.now row c.requires.is can.next) c.in-Err-ExpiresInPast.ensures.past
    (ap (λ (f : IncomingFault). Err f) c.in-Err-ExpiresInPast.field-0-is)

pub returns-in-Ok-clause-ok : goal.returns-in-Ok-clause-ok
returns-in-Ok-clause-ok c history is next =
    let old = c.args.self.now in
    let e = c.args.entry.now in
    let row = c.args.row in
    let act = acts.IncomingMade row.grant row.address row.amount row.expiry row.metadata in
    let act_is : e.act ≡ act = made_by e.at e.act row c.requires.is in
    let added : incoming_made e.at act ≡ Some row = ap (λ (a : Act). incoming_made e.at a) (sym act_is) ∙ c.requires.is in
    let new : Money = record { ledger = old.ledger; incomings = c.add.new.self; outgoings = old.outgoings; pieces = old.pieces; addresses = old.addresses } in
    of_act (λ (x : Entry). IsMoneyOf (history ++ x ∷ []) new) e act act_is
    (made_money history e.at row.grant row.address row.amount row.expiry row.metadata old new row is (with_act (IsNext history) e act act_is next) added
    (record { incomings_are = c.in-Ok.ensures.ok.0; ledger_is = refl; outgoings_are = refl; pieces_are = refl; counted = refl }))
