use Rattle.std.proofs.Common.{◌∷◌, ◌++◌, [], refl, sym, subst, ap}
use Rattle.op_model.specs.Legal.{IsNext}
use Rattle.op_model.specs.Payments.{PaymentMade, made_directly}
use Rattle.op_model.specs.declared.act.Act.TheVariants as acts
use Rattle.op_model.specs.declared.act.Entry.{Entry}
use Rattle.op_model.specs.declared.row.Terms.{Terms}
use Rattle.op_outgoing.specs.Sound.{ArePriced}
use Rattle.op_paying.specs.Money.{IsMoneyOf}
use Rattle.op_paying.specs.declared.money.Money.{Money}
use Rattle.op_paying.proofs.Acts.{with_act, of_act}
use Rattle.op_paying.proofs.PaymentMoney.{payment_money}
use Rattle.op_paying.proofs.Prices.{direct_terms}
use Rattle.op_paying.proofs.money.Money.take_direct.Goals as goal

pub add_direct-requires : goal.add_direct-requires
add_direct-requires c =
    let can = c.requires.can in
    let e = c.args.entry.now in
    let price = c.args.price in
    let act = acts.OutgoingDirect c.args.grant c.args.parties.address c.args.parties.incoming price.debit price.source price.fee price.receive price.num price.den c.args.metadata in
    subst ArePriced (sym (c.terms_at-terms.ensures can.history can.is))
    (direct_terms can.history e.at c.args.grant c.args.parties.address c.args.parties.incoming price.debit price.source price.fee price.receive price.num price.den c.args.metadata can.is.legal (with_act (IsNext can.history) e act c.requires.is can.next))

pub returns-clause-ok : goal.returns-clause-ok
returns-clause-ok c history is next =
    let old = c.args.self.now in
    let e = c.args.entry.now in
    let price = c.args.price in
    let act = acts.OutgoingDirect c.args.grant c.args.parties.address c.args.parties.incoming price.debit price.source price.fee price.receive price.num price.den c.args.metadata in
    let made : Terms → PaymentMade = λ terms. made_directly e.at c.args.grant c.args.metadata terms in
    let new : Money = record { ledger = old.ledger; incomings = old.incomings; outgoings = c.add_direct.new.self; pieces = old.pieces; addresses = old.addresses } in
    of_act (λ (x : Entry). IsMoneyOf (history ++ x ∷ []) new) e act c.requires.is
    (payment_money history (record { at = e.at; act = act }) old new (made c.terms_at-terms.result) is (with_act (IsNext history) e act c.requires.is next)
    (record { asset = refl; address = refl }) (record { incoming = λ t. refl; closes = λ i. refl; completes = λ i. refl }) (λ s u. refl) (λ s f. refl)
    (ap (λ terms. made terms ∷ []) (sym (c.terms_at-terms.ensures history is))) (λ p. refl)
    (record { outgoings_are = c.in_ok-add_direct.ensures.ok.0; ledger_is = refl; incomings_are = refl; pieces_are = refl; counted = refl }))
