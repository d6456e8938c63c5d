-- Refusals that cannot come where the entry may follow: an incoming payment, and a payment from a quote.
use Rattle.std.proofs.Common.{◌≡◌, ℕ, ◌<◌, ◌≤◌, true, false, List, ◌∙◌, sym, ap, arith, Some, Option, Result, Err, IsTrue}
use Rattle.std.specs.Prelude.{◌≢◌, ◌↔◌, is_some}
use Rattle.std.specs.Option.{option_map_or}
use Rattle.op_incoming.specs.declared.incoming.IncomingFault.{IncomingFault}
use Rattle.op_incoming.specs.declared.incoming.IncomingFault.TheVariants as incoming_faults
use Rattle.op_legal.proofs.Chains.{none_is_not, some_is}
use Rattle.op_model.specs.Legal.{IsNext}
use Rattle.op_model.specs.Payments.{incoming_made}
use Rattle.op_model.specs.declared.act.Act.{Act}
use Rattle.op_model.specs.declared.act.Act.TheVariants as acts
use Rattle.op_model.specs.declared.act.Entry.{Entry}
use Rattle.op_model.specs.declared.row.IncomingRow.{IncomingRow}
use Rattle.op_model.specs.declared.row.OutgoingRow.{OutgoingRow}
use Rattle.op_model.specs.declared.row.QuoteRow.{QuoteRow}
use Rattle.op_outgoing.specs.Value.{has_quote, is_paid_in, quote_expiry}
use Rattle.op_outgoing.specs.declared.outgoings.OutgoingFault.{OutgoingFault}
use Rattle.op_outgoing.specs.declared.outgoings.OutgoingFault.TheVariants as outgoing_faults
use Rattle.op_paying.specs.Money.{IsMoneyOf}
use Rattle.op_paying.specs.declared.money.Money.{Money}
use Rattle.op_paying.proofs.Acts.{with_act}
use Rattle.op_paying.proofs.Facts.{IsIncomingFit, incoming_fits, IsQuoteFit}
use Rattle.op_paying.proofs.PaymentMoney.{quote_kept}

-- ---- an incoming payment

-- the act that makes a row
pub made_by : (t : ℕ) (act : Act) (row : IncomingRow) → incoming_made t act ≡ Some row → act ≡ acts.IncomingMade row.grant row.address row.amount row.expiry row.metadata
made_by t (acts.IncomingMade grant address amount expiry metadata) row is =
    ap (λ (r : IncomingRow). acts.IncomingMade r.grant r.address r.amount r.expiry r.metadata)
    (some_is {X = IncomingRow} (record { address = address; grant = grant; amount = amount; expiry = expiry; made = t; metadata = metadata }) row is)
made_by t _ row is = none_is_not row is

pub row_fits : (history : List Entry) (e : Entry) (row : IncomingRow) → incoming_made e.at e.act ≡ Some row → IsNext history e → IsIncomingFit e.at row.amount row.expiry row.metadata
row_fits history e row is next =
    let act = acts.IncomingMade row.grant row.address row.amount row.expiry row.metadata in
    incoming_fits history e.at row.grant row.address row.amount row.expiry row.metadata (with_act (IsNext history) e act (made_by e.at e.act row is) next)

pub never_zero : (t expiry : ℕ) (amount : Option ℕ) (metadata : Option (List ℕ)) (result : Result ℕ IncomingFault) → IsIncomingFit t amount expiry metadata → ((result ≡ Err incoming_faults.ZeroAmount) ↔ (amount ≡ Some 0)) → result ≡ Err incoming_faults.ZeroAmount → ⊥
never_zero t expiry amount metadata result fits zero is = fits.some (zero.0 is)

pub never_past : (t expiry : ℕ) (amount : Option ℕ) (metadata : Option (List ℕ)) (result : Result ℕ IncomingFault) → IsIncomingFit t amount expiry metadata → ((result ≡ Err incoming_faults.ExpiresInPast) ↔ ((amount ≢ Some 0) × (expiry ≤ t))) → result ≡ Err incoming_faults.ExpiresInPast → ⊥
never_past t expiry amount metadata result fits past is =
    let late : expiry ≤ t = (past.0 is).1 in
    let later : t < expiry = fits.later in
    absurd (omega (arith, late, later))

-- ---- a payment from a quote

pub quote_there : (history : List Entry) (money : Money) (t q : ℕ) → IsMoneyOf history money → IsQuoteFit history t q → IsTrue (has_quote money.outgoings q)
quote_there history money t q is fits = ap is_some (quote_kept history money q fits.row is fits.there)

pub never_used : (history : List Entry) (money : Money) (t q : ℕ) (result : Result ℕ OutgoingFault) → IsMoneyOf history money → IsQuoteFit history t q → ((result ≡ Err outgoing_faults.QuoteUsed) ↔ IsTrue (is_paid_in money.outgoings.rows q)) → result ≡ Err outgoing_faults.QuoteUsed → ⊥
never_used history money t q result is fits used fault =
    let paid : is_paid_in money.outgoings.rows q ≡ true = used.0 fault in
    let unpaid : is_paid_in money.outgoings.rows q ≡ false = ap (λ (l : List OutgoingRow). is_paid_in l q) is.payments_are ∙ fits.unpaid in
    let e : true ≡ false = sym paid ∙ unpaid in
    cc

pub never_expired : (history : List Entry) (money : Money) (t q : ℕ) (result : Result ℕ OutgoingFault) → IsMoneyOf history money → IsQuoteFit history t q → ((result ≡ Err outgoing_faults.QuoteExpired) ↔ ((is_paid_in money.outgoings.rows q ≡ false) × (quote_expiry money.outgoings q ≤ t)))
    → result ≡ Err outgoing_faults.QuoteExpired → ⊥
never_expired history money t q result is fits expired fault =
    let late : quote_expiry money.outgoings q ≤ t = (expired.0 fault).1 in
    let at : quote_expiry money.outgoings q ≡ fits.row.expiry = ap (λ (o : Option QuoteRow). option_map_or (λ row. row.expiry) o 0) (quote_kept history money q fits.row is fits.there) in
    let later : t < fits.row.expiry = fits.later in
    absurd (omega (arith, late, at, later))
