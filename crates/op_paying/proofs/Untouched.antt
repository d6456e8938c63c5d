-- An entry that touches none payments, and one that leaves all money as it is.
use Rattle.std.proofs.Common.{◌≡◌, ℕ, true, false, List, [], ◌∷◌, ◌++◌, map, length, refl, ◌∙◌, sym, ap, None, append-nil}
use Rattle.op_incoming.specs.declared.incoming.Incoming.{Incoming}
use Rattle.op_ledger.specs.Balances.{LedgerValue}
use Rattle.op_model.specs.Balances.{act_legs}
use Rattle.op_model.specs.History.{AssetRow, AddressRow, asset_added, address_added}
use Rattle.op_model.specs.Incoming.{is_closing, is_completing}
use Rattle.op_model.specs.Legal.{IsNext}
use Rattle.op_model.specs.Payments.{incomings, incoming_made, outgoings, quotes, quote_added, payment_added, is_step}
use Rattle.op_model.specs.declared.act.Act.{Act}
use Rattle.op_model.specs.declared.act.Act.TheVariants as acts
use Rattle.op_model.specs.declared.act.Entry.{Entry}
use Rattle.op_model.specs.declared.row.QuoteRow.{QuoteRow}
use Rattle.op_model.proofs.LegalNext.{legal-next}
use Rattle.op_model.proofs.Next.{incomings-next, quotes-next}
use Rattle.op_model.proofs.Payments.{outgoings_stay}
use Rattle.op_model.proofs.SumsNext.{held_stays, received_stays}
use Rattle.op_paying.specs.Ledgers.{StandsAs}
use Rattle.op_paying.specs.Money.{AreIncomings, IsMoneyOf}
use Rattle.op_paying.specs.Taking.{leaves_money}
use Rattle.op_paying.specs.declared.money.Money.{Money}
use Rattle.op_paying.proofs.Ledgers.{still_stands}
use Rattle.op_paying.proofs.Received.{same_incomings}
use Rattle.op_paying.proofs.Stays.{nothing_more, assets_stay, addresses_stay, names_stay}

-- ---- what an act does not do

pub record AddsNoNames (act : Act) : Type 0 where
  pub asset : asset_added act ≡ None
  pub address : address_added act ≡ None

pub record AddsNoPayment (act : Act) : Type 0 where
  pub payment : (history : List Entry) (t : ℕ) → payment_added history t act ≡ []
  pub step : (p : ℕ) → is_step p act ≡ false

pub record AddsNoIncoming (act : Act) : Type 0 where
  pub incoming : (t : ℕ) → incoming_made t act ≡ None
  pub closes : (i : ℕ) → is_closing i act ≡ false
  pub completes : (i : ℕ) → is_completing i act ≡ false

abbrev pub AddsNoQuote : Act → Type 0
AddsNoQuote act = (history : List Entry) (t : ℕ) → quote_added history t act ≡ []

abbrev pub MovesNothing : Act → Type 0
MovesNothing act = (history : List Entry) (e : Entry) → act_legs history e act ≡ []

-- ---- what stays

pub payments_stay : (history : List Entry) (e : Entry) → AddsNoPayment e.act → outgoings (history ++ e ∷ []) ≡ outgoings history
payments_stay history e none = outgoings_stay history e (none.payment history e.at) none.step

pub quotes_stay : (history : List Entry) (e : Entry) → AddsNoQuote e.act → quotes (history ++ e ∷ []) ≡ quotes history
quotes_stay history e none = quotes-next history e ∙ ap (λ (l : List QuoteRow). quotes history ++ l) (none history e.at) ∙ append-nil (quotes history)

pub incomings_stay : (history : List Entry) (e : Entry) (rows : List Incoming) → AddsNoIncoming e.act → outgoings (history ++ e ∷ []) ≡ outgoings history → AreIncomings history rows → AreIncomings (history ++ e ∷ []) rows
incomings_stay history e rows none same are =
    same_incomings history e rows are
    (record {
      closes = none.closes;
      completes = none.completes;
      makes = nothing_more (incomings history) (incomings (history ++ e ∷ [])) (incoming_made e.at e.act) (incomings-next history e) (none.incoming e.at);
    })
    (λ i. received_stays history (history ++ e ∷ []) i same)

pub ledger_stays : (history : List Entry) (e : Entry) (v : LedgerValue) → AddsNoNames e.act → MovesNothing e.act → outgoings (history ++ e ∷ []) ≡ outgoings history → StandsAs history v → StandsAs (history ++ e ∷ []) v
ledger_stays history e v names still same stands =
    still_stands history e v stands (names_stay history e names.asset names.address) (still history e) (λ a. held_stays history (history ++ e ∷ []) a same)

-- ---- money whose parts are those of the longer history

pub record ArePartsOf (history : List Entry) (e : Entry) (money : Money) : Type 0 where
  pub stands : StandsAs (history ++ e ∷ []) money.ledger
  pub received : AreIncomings (history ++ e ∷ []) money.incomings
  pub payments_are : money.outgoings.rows ≡ outgoings (history ++ e ∷ [])
  pub quotes_are : money.outgoings.quotes ≡ quotes (history ++ e ∷ [])

-- none asset and none address more
pub money_next : (history : List Entry) (e : Entry) (old new : Money) → IsMoneyOf history old → IsNext history e → AddsNoNames e.act → new.pieces.items ≡ old.pieces.items → new.addresses ≡ old.addresses → ArePartsOf history e new → IsMoneyOf (history ++ e ∷ []) new
money_next history e old new is next none same_pieces same_count parts = record {
  legal = (legal-next history e).1 (is.legal, next);
  stands = parts.stands;
  received = parts.received;
  payments_are = parts.payments_are;
  quotes_are = parts.quotes_are;
  pieces_are = same_pieces ∙ is.pieces_are ∙ ap (λ (l : List AssetRow). map (λ row. row.pieces) l) (sym (assets_stay history e none.asset));
  counted = same_count ∙ is.counted ∙ ap (λ (l : List AddressRow). length l) (sym (addresses_stay history e none.address));
}

record LeavesAll (act : Act) : Type 0 where
  names : AddsNoNames act
  payments : AddsNoPayment act
  incomings : AddsNoIncoming act
  no_quote : AddsNoQuote act
  still : MovesNothing act

leaves_all : (act : Act) → leaves_money act ≡ true → LeavesAll act
leaves_all (acts.OriginSet origin) h = record { names = record { asset = refl; address = refl }; payments = record { payment = λ s t. refl; step = λ p. refl }; incomings = record { incoming = λ t. refl; closes = λ i. refl; completes = λ i. refl }; no_quote = λ s t. refl; still = λ s e. refl }
leaves_all (acts.RateSet source target num den) h = record { names = record { asset = refl; address = refl }; payments = record { payment = λ s t. refl; step = λ p. refl }; incomings = record { incoming = λ t. refl; closes = λ i. refl; completes = λ i. refl }; no_quote = λ s t. refl; still = λ s e. refl }
leaves_all (acts.GrantAsked client items finish word) h = record { names = record { asset = refl; address = refl }; payments = record { payment = λ s t. refl; step = λ p. refl }; incomings = record { incoming = λ t. refl; closes = λ i. refl; completes = λ i. refl }; no_quote = λ s t. refl; still = λ s e. refl }
leaves_all (acts.GrantAccepted grant word) h = record { names = record { asset = refl; address = refl }; payments = record { payment = λ s t. refl; step = λ p. refl }; incomings = record { incoming = λ t. refl; closes = λ i. refl; completes = λ i. refl }; no_quote = λ s t. refl; still = λ s e. refl }
leaves_all (acts.GrantRejected grant word) h = record { names = record { asset = refl; address = refl }; payments = record { payment = λ s t. refl; step = λ p. refl }; incomings = record { incoming = λ t. refl; closes = λ i. refl; completes = λ i. refl }; no_quote = λ s t. refl; still = λ s e. refl }
leaves_all (acts.GrantPolled grant) h = record { names = record { asset = refl; address = refl }; payments = record { payment = λ s t. refl; step = λ p. refl }; incomings = record { incoming = λ t. refl; closes = λ i. refl; completes = λ i. refl }; no_quote = λ s t. refl; still = λ s e. refl }
leaves_all (acts.GrantContinued grant word) h = record { names = record { asset = refl; address = refl }; payments = record { payment = λ s t. refl; step = λ p. refl }; incomings = record { incoming = λ t. refl; closes = λ i. refl; completes = λ i. refl }; no_quote = λ s t. refl; still = λ s e. refl }
leaves_all (acts.GrantCancelled grant) h = record { names = record { asset = refl; address = refl }; payments = record { payment = λ s t. refl; step = λ p. refl }; incomings = record { incoming = λ t. refl; closes = λ i. refl; completes = λ i. refl }; no_quote = λ s t. refl; still = λ s e. refl }
leaves_all (acts.TokenRotated grant word) h = record { names = record { asset = refl; address = refl }; payments = record { payment = λ s t. refl; step = λ p. refl }; incomings = record { incoming = λ t. refl; closes = λ i. refl; completes = λ i. refl }; no_quote = λ s t. refl; still = λ s e. refl }
leaves_all (acts.TokenRevoked grant) h = record { names = record { asset = refl; address = refl }; payments = record { payment = λ s t. refl; step = λ p. refl }; incomings = record { incoming = λ t. refl; closes = λ i. refl; completes = λ i. refl }; no_quote = λ s t. refl; still = λ s e. refl }
leaves_all (acts.Attempted event outcome) h = record { names = record { asset = refl; address = refl }; payments = record { payment = λ s t. refl; step = λ p. refl }; incomings = record { incoming = λ t. refl; closes = λ i. refl; completes = λ i. refl }; no_quote = λ s t. refl; still = λ s e. refl }
leaves_all _ h = absurd (let e : false ≡ true = h in cc)

pub money_stays : (history : List Entry) (e : Entry) (money : Money) → leaves_money e.act ≡ true → IsMoneyOf history money → IsNext history e → IsMoneyOf (history ++ e ∷ []) money
money_stays history e money h is next =
    let none = leaves_all e.act h in
    let same = payments_stay history e none.payments in
    money_next history e money money is next none.names refl refl
    (record {
      stands = ledger_stays history e money.ledger none.names none.still same is.stands;
      received = incomings_stay history e money.incomings none.incomings same is.received;
      payments_are = is.payments_are ∙ sym same;
      quotes_are = is.quotes_are ∙ sym (quotes_stay history e none.no_quote);
    })
