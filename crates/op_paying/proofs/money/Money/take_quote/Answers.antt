use Rattle.std.proofs.Common.{◌≡◌, ℕ, ◌+◌, min, ◌∙◌, ◌∷◌, ◌++◌, [], refl, sym, subst, ap}
use Rattle.op_model.specs.History.{lifetime_end}
use Rattle.op_model.specs.Legal.{IsNext}
use Rattle.op_model.specs.Payments.{price_lifetime}
use Rattle.op_model.specs.declared.act.Act.TheVariants as acts
use Rattle.op_model.specs.declared.act.Entry.{Entry}
use Rattle.op_model.specs.declared.row.QuoteRow.{QuoteRow}
use Rattle.op_model.specs.declared.row.Terms.{Terms}
use Rattle.op_outgoing.specs.Sound.{ArePriced}
use Rattle.op_paying.specs.Money.{IsMoneyOf}
use Rattle.op_paying.specs.declared.money.Money.{Money}
use Rattle.op_paying.proofs.Acts.{with_act, of_act}
use Rattle.op_paying.proofs.PaymentMoney.{quote_money}
use Rattle.op_paying.proofs.Prices.{quote_terms}
use Rattle.op_paying.proofs.money.Money.take_quote.Goals as goal

pub add_quote-requires : goal.add_quote-requires
add_quote-requires c =
    let can = c.requires.can in
    let e = c.args.entry.now in
    let price = c.args.price in
    let mode = c.requires.is.0 in
    let asked = c.requires.is.1 in
    let act = acts.QuoteMade c.args.grant c.args.parties.address c.args.parties.incoming mode asked price.debit price.source price.fee price.receive price.num price.den in
    subst ArePriced (sym (c.terms_at.ensures can.history can.is))
    (quote_terms can.history e.at c.args.grant c.args.parties.address c.args.parties.incoming mode asked price.debit price.source price.fee price.receive price.num price.den can.is.legal (with_act (IsNext can.history) e act c.requires.is.2 can.next))

pub returns-clause-ok : goal.returns-clause-ok
returns-clause-ok c history is next =
    let old = c.args.self.now in
    let e = c.args.entry.now in
    let price = c.args.price in
    let mode = c.requires.is.0 in
    let asked = c.requires.is.1 in
    let act = acts.QuoteMade c.args.grant c.args.parties.address c.args.parties.incoming mode asked price.debit price.source price.fee price.receive price.num price.den in
    let row : ℕ → Terms → QuoteRow = λ expiry terms. record { grant = c.args.grant; made = e.at; expiry = expiry; terms = terms } in
    let ends : c.at_most_last.result ≡ lifetime_end e.at price_lifetime = c.at_most_last.ensures ∙ ap (λ n. min (n + 300000) 253402300799999) c.ms.ensures.value in
    let new : Money = record { ledger = old.ledger; incomings = old.incomings; outgoings = c.add_quote.new.self; pieces = old.pieces; addresses = old.addresses } in
    of_act (λ (x : Entry). IsMoneyOf (history ++ x ∷ []) new) e act c.requires.is.2
    (quote_money history (record { at = e.at; act = act }) old new (row c.at_most_last.result c.terms_at.result) is (with_act (IsNext history) e act c.requires.is.2 next)
    (record { asset = refl; address = refl }) (record { payment = λ s u. refl; step = λ p. refl }) (record { incoming = λ t. refl; closes = λ i. refl; completes = λ i. refl }) (λ s f. refl)
    (ap (λ terms. row (lifetime_end e.at price_lifetime) terms ∷ []) (sym (c.terms_at.ensures history is)) ∙ ap (λ n. row n c.terms_at.result ∷ []) (sym ends))
    (record { outgoings_are = c.in_ok-add_quote.ensures.ok.0; ledger_is = refl; incomings_are = refl; pieces_are = refl; counted = refl }))
