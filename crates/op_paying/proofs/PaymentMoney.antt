-- Quotes and payments that are made, on money that is its history's.
use Rattle.std.proofs.Common.{◌≡◌, ℕ, false, List, [], ◌∷◌, ◌++◌, refl, ◌∙◌, sym, ap, subst, Some, Option}
use Rattle.std.specs.Option.{option_map, option_map_or, option_to_list}
use Rattle.op_incoming.specs.declared.incoming.Incoming.{Incoming}
use Rattle.op_laws.proofs.Known.{all_known}
use Rattle.op_laws.proofs.Renewed.{made_rows, made_held}
use Rattle.op_ledger.specs.Balances.{LedgerValue}
use Rattle.op_model.specs.Legal.{IsNext}
use Rattle.op_model.specs.History.{nth}
use Rattle.op_model.specs.Payments.{PaymentMade, outgoings, quotes, quote_row, quote_added, made_from_quote, payment_added, incomings, incoming_made, is_step}
use Rattle.op_model.specs.declared.act.Act.TheVariants as acts
use Rattle.op_model.specs.declared.act.Entry.{Entry}
use Rattle.op_model.specs.declared.row.OutgoingRow.{OutgoingRow}
use Rattle.op_model.specs.declared.row.QuoteRow.{QuoteRow}
use Rattle.op_model.proofs.Next.{incomings-next, quotes-next}
use Rattle.op_model.proofs.SumsNext.{received_made}
use Rattle.op_outgoing.specs.Value.{OutgoingsValue, with_quote, with_made, with_fresh, fresh_row}
use Rattle.op_paying.specs.Ledgers.{StandsAs}
use Rattle.op_paying.specs.Money.{AreIncomings, IsMoneyOf}
use Rattle.op_paying.specs.declared.money.Money.{Money}
use Rattle.op_paying.proofs.Ledgers.{still_stands}
use Rattle.op_paying.proofs.Received.{same_incomings}
use Rattle.op_paying.proofs.Stays.{nothing_more, names_stay}
use Rattle.op_paying.proofs.Untouched.{AddsNoNames, AddsNoPayment, AddsNoIncoming, AddsNoQuote, MovesNothing, money_next, payments_stay, incomings_stay, quotes_stay, ledger_stays}

-- only quotes and payments differ
pub record OnlyOutgoings (old new : Money) (value : OutgoingsValue) : Type 0 where
  pub outgoings_are : new.outgoings ≡ value
  pub ledger_is : new.ledger ≡ old.ledger
  pub incomings_are : new.incomings ≡ old.incomings
  pub pieces_are : new.pieces.items ≡ old.pieces.items
  pub counted : new.addresses ≡ old.addresses

pub quote_money : (history : List Entry) (e : Entry) (old new : Money) (row : QuoteRow) → IsMoneyOf history old → IsNext history e → AddsNoNames e.act → AddsNoPayment e.act → AddsNoIncoming e.act → MovesNothing e.act → quote_added history e.at e.act ≡ row ∷ [] → OnlyOutgoings old new (with_quote old.outgoings row)
    → IsMoneyOf (history ++ e ∷ []) new
quote_money history e old new row is next names payments no_incoming still added only =
    let same = payments_stay history e payments in
    money_next history e old new is next names only.pieces_are only.counted
    (record {
      stands = subst (λ (v : LedgerValue). StandsAs (history ++ e ∷ []) v) (sym only.ledger_is) (ledger_stays history e old.ledger names still same is.stands);
      received = subst (λ (l : List Incoming). AreIncomings (history ++ e ∷ []) l) (sym only.incomings_are) (incomings_stay history e old.incomings no_incoming same is.received);
      payments_are = ap (λ (o : OutgoingsValue). o.rows) only.outgoings_are ∙ is.payments_are ∙ sym same;
      quotes_are =
          ap (λ (o : OutgoingsValue). o.quotes) only.outgoings_are ∙ ap (λ (l : List QuoteRow). l ++ row ∷ []) is.quotes_are
          ∙ sym (quotes-next history e ∙ ap (λ (l : List QuoteRow). quotes history ++ l) added);
    })

pub payment_money : (history : List Entry) (e : Entry) (old new : Money) (made : PaymentMade) → IsMoneyOf history old → IsNext history e → AddsNoNames e.act → AddsNoIncoming e.act → AddsNoQuote e.act → MovesNothing e.act → payment_added history e.at e.act ≡ made ∷ [] → ((p : ℕ) → is_step p e.act ≡ false) → OnlyOutgoings old new (with_made old.outgoings made)
    → IsMoneyOf (history ++ e ∷ []) new
payment_money history e old new made is next names no_incoming no_quote still added none only =
    let known = all_known history is.legal in
    let rows : outgoings (history ++ e ∷ []) ≡ outgoings history ++ fresh_row made ∷ [] = made_rows history e made known added none in
    let no_more = nothing_more (incomings history) (incomings (history ++ e ∷ [])) (incoming_made e.at e.act) (incomings-next history e) (no_incoming.incoming e.at) in
    money_next history e old new is next names only.pieces_are only.counted
    (record {
      stands =
          subst (λ (v : LedgerValue). StandsAs (history ++ e ∷ []) v) (sym only.ledger_is)
          (still_stands history e old.ledger is.stands (names_stay history e names.asset names.address) (still history e) (made_held history e made known added none));
      received =
          subst (λ (l : List Incoming). AreIncomings (history ++ e ∷ []) l) (sym only.incomings_are)
          (same_incomings history e old.incomings is.received (record { closes = no_incoming.closes; completes = no_incoming.completes; makes = no_more })
          (λ i. received_made history (history ++ e ∷ []) i made (made_rows history e made known added none)));
      payments_are = ap (λ (o : OutgoingsValue). o.rows) only.outgoings_are ∙ ap (λ (l : List OutgoingRow). l ++ fresh_row made ∷ []) is.payments_are ∙ sym rows;
      quotes_are = ap (λ (o : OutgoingsValue). o.quotes) only.outgoings_are ∙ is.quotes_are ∙ sym (quotes_stay history e no_quote);
    })

-- ---- a quote of the history, as it is kept

pub quote_kept : (history : List Entry) (money : Money) (q : ℕ) (row : QuoteRow) → IsMoneyOf history money → quote_row history q ≡ Some row → nth money.outgoings.quotes q ≡ Some row
quote_kept history money q row is there = ap (λ (l : List QuoteRow). nth l q) is.quotes_are ∙ there

-- ---- a payment from a quote

pub from_quote_money : (history : List Entry) (t grant q : ℕ) (metadata : Option (List ℕ)) (old new : Money) (quote : QuoteRow) → IsMoneyOf history old → IsNext history (record { at = t; act = acts.OutgoingMade grant q metadata }) → quote_row history q ≡ Some quote
    → OnlyOutgoings old new (with_fresh old.outgoings t q grant metadata) → IsMoneyOf (history ++ record { at = t; act = acts.OutgoingMade grant q metadata } ∷ []) new
from_quote_money history t grant q metadata old new quote is next there only =
    let behind : with_fresh old.outgoings t q grant metadata ≡ with_made old.outgoings (made_from_quote t grant q metadata quote) =
    ap (λ (o : Option QuoteRow). option_map_or (λ row. with_made old.outgoings (made_from_quote t grant q metadata row)) o old.outgoings) (quote_kept history old q quote is there) in
    payment_money history (record { at = t; act = acts.OutgoingMade grant q metadata }) old new (made_from_quote t grant q metadata quote) is next
    (record { asset = refl; address = refl }) (record { incoming = λ u. refl; closes = λ i. refl; completes = λ i. refl }) (λ s u. refl) (λ s f. refl)
    (ap (λ (o : Option QuoteRow). option_to_list (option_map (made_from_quote t grant q metadata) o)) there) (λ p. refl)
    (record { outgoings_are = only.outgoings_are ∙ behind; ledger_is = only.ledger_is; incomings_are = only.incomings_are; pieces_are = only.pieces_are; counted = only.counted })
