use Rattle.op_model.specs.Legal.{IsNext}
use Rattle.op_model.specs.declared.act.Act.TheVariants as acts
use Rattle.op_paying.proofs.Acts.{with_act, makes_no_more, quote_priced}
use Rattle.op_paying.proofs.Facts.{payment_formed, direct_formed}
use Rattle.op_paying.proofs.money.Money.take_payment_row.Goals as goal

pub take_quote-requires-clause-is : goal.take_quote-requires-clause-is
take_quote-requires-clause-is c =
    let a = c.in-QuoteMade in
    (a.mode, a.asked, quote_priced c.args.entry.now.act a.grant a.address a.incoming a.mode a.asked a.debit a.source a.fee a.receive a.num a.den c.price_in.result a.is c.price_in.ensures)

pub read_metadata-requires : goal.read_metadata-requires
read_metadata-requires c =
    let a = c.in-OutgoingMade in
    let can = c.requires.can in
    payment_formed can.history c.args.entry.now.at a.grant a.quote a.metadata (with_act (IsNext can.history) c.args.entry.now (acts.OutgoingMade a.grant a.quote a.metadata) a.is can.next)

pub unreachable-requires : goal.unreachable-requires
unreachable-requires c =
    let d = c.in_default in
    makes_no_more c.args.entry.now.act c.requires.makes d.not-QuoteMade d.not-OutgoingMade d.not-OutgoingDirect

pub read_metadata-requires-in-OutgoingDirect : goal.read_metadata-requires-in-OutgoingDirect
read_metadata-requires-in-OutgoingDirect c =
    let a = c.in-OutgoingDirect in
    let can = c.requires.can in
    let act = acts.OutgoingDirect a.grant a.address a.incoming a.debit a.source a.fee a.receive a.num a.den a.metadata in
    direct_formed can.history c.args.entry.now.at a.grant a.address a.incoming a.debit a.source a.fee a.receive a.num a.den a.metadata (with_act (IsNext can.history) c.args.entry.now act a.is can.next)
