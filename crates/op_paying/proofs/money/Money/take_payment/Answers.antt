use Rattle.std.proofs.Common.{◌∷◌, ◌++◌, [], refl, ap, Err}
use Rattle.op_model.specs.Legal.{IsNext}
use Rattle.op_model.specs.declared.act.Act.TheVariants.{OutgoingMade}
use Rattle.op_model.specs.declared.act.Entry.{Entry}
use Rattle.op_outgoing.specs.declared.outgoings.OutgoingFault.{OutgoingFault}
use Rattle.op_paying.specs.Money.{IsMoneyOf}
use Rattle.op_paying.specs.declared.money.Money.{Money}
use Rattle.op_paying.proofs.Acts.{with_act, of_act}
use Rattle.op_paying.proofs.Facts.{quote_fits}
use Rattle.op_paying.proofs.PaymentMoney.{from_quote_money}
use Rattle.op_paying.proofs.Refusals.{quote_there, never_used, never_expired}
use Rattle.op_paying.proofs.money.Money.take_payment.Goals as goal

pub add-requires : goal.add-requires
add-requires c =
    let can = c.requires.can in
    let e = c.args.entry.now in
    let fits = quote_fits can.history e.at c.args.grant c.args.quote c.args.metadata (with_act (IsNext can.history) e (OutgoingMade c.args.grant c.args.quote c.args.metadata) c.requires.is can.next) in
    quote_there can.history c.args.self.now e.at c.args.quote can.is fits

pub unreachable-requires : goal.unreachable-requires
unreachable-requires c =
    let can = c.requires.can in
    let e = c.args.entry.now in
    let fits = quote_fits can.history e.at c.args.grant c.args.quote c.args.metadata (with_act (IsNext can.history) e (OutgoingMade c.args.grant c.args.quote c.args.metadata) c.requires.is can.next) in
    never_used can.history c.args.self.now e.at c.args.quote (Err c.in-Err-QuoteUsed.field-0) can.is fits c.in-Err-QuoteUsed.ensures.used
    (ap (λ (f : OutgoingFault). Err f) c.in-Err-QuoteUsed.field-0-is)

pub unreachable-requires-in-Err-QuoteExpired : goal.unreachable-requires-in-Err-QuoteExpired
unreachable-requires-in-Err-QuoteExpired c =
    let can = c.requires.can in
    let e = c.args.entry.now in
    let fits = quote_fits can.history e.at c.args.grant c.args.quote c.args.metadata (with_act (IsNext can.history) e (OutgoingMade c.args.grant c.args.quote c.args.metadata) c.requires.is can.next) in
    never_expired can.history c.args.self.now e.at c.args.quote (Err c.in-Err-QuoteExpired.field-0) can.is fits c.in-Err-QuoteExpired.ensures.expired
    (ap (λ (f : OutgoingFault). Err f) c.in-Err-QuoteExpired.field-0-is)

pub returns-in-Ok-clause-ok : goal.returns-in-Ok-clause-ok
returns-in-Ok-clause-ok c history is next =
    let old = c.args.self.now in
    let e = c.args.entry.now in
    let act = OutgoingMade c.args.grant c.args.quote c.args.metadata in
    let follows = with_act (IsNext history) e act c.requires.is next in
    let fits = quote_fits history e.at c.args.grant c.args.quote c.args.metadata follows in
    let new : Money = record { ledger = old.ledger; incomings = old.incomings; outgoings = c.add.new.self; pieces = old.pieces; addresses = old.addresses } in
    of_act (λ (x : Entry). IsMoneyOf (history ++ x ∷ []) new) e act c.requires.is
    (from_quote_money history e.at c.args.grant c.args.quote c.args.metadata old new fits.row is follows fits.there
    (record { outgoings_are = c.in-Ok.ensures.ok.0; ledger_is = refl; incomings_are = refl; pieces_are = refl; counted = refl }))
