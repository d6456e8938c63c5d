-- A payment that may be made: its grant is there, its moment lies in an interval of it, and the cap is not passed.
use Rattle.std.proofs.Common.{◌≡◌, ℕ, true, false, List, [], refl, ◌∙◌, ap, subst, Some, None, Ok, Option}
use Rattle.std.specs.Prelude.{◌==◌, is_some, is_none, not, nat_le, MatchOption}
use Rattle.std.specs.Option.{option_map, option_map_or}
use Rattle.op_amount.specs.declared.Amount.{Amount}
use Rattle.op_amount.specs.declared.Priced.{Priced}
use Rattle.op_names.specs.declared.AddressName.{AddressName}
use Rattle.op_names.specs.declared.Kind.TheVariants as kinds
use Rattle.op_names.specs.declared.RowName.{RowName}
use Rattle.op_model.specs.Access.{Looked, PaymentLooked}
use Rattle.op_model.specs.Asking.{Caller, caller, access, address_named, row_named, Found, found}
use Rattle.op_model.specs.Grants.{current_token, interval_at, items_of}
use Rattle.op_model.specs.History.{asset_of_address}
use Rattle.op_model.specs.Incoming.{is_open}
use Rattle.op_model.specs.Legal.{IsNext, grant_verdict, name_of_address, name_of_row, amount_of}
use Rattle.op_model.specs.PaymentAnswers.{pay_quote, pay_directly, looks_at_quote, looks_at_direct, quoted_payment, direct_payment, direct_price, direct_act, receiver_named, is_paid, is_strange_amount}
use Rattle.op_model.specs.Payments.{quote_row}
use Rattle.op_model.specs.declared.act.Act.{Act}
use Rattle.op_model.specs.declared.act.Act.TheVariants as acts
use Rattle.op_model.specs.declared.act.Entry.{Entry}
use Rattle.op_model.specs.declared.reply.Refusal.TheVariants.{NotFound, QuoteUsed, QuoteExpired, ReceiverClosed}
use Rattle.op_model.specs.declared.request.PaymentAsked.TheVariants.{Quoted, Direct}
use Rattle.op_model.specs.declared.request.Request.TheVariants as requests
use Rattle.op_model.specs.declared.request.Verdict.{Verdict}
use Rattle.op_model.specs.declared.row.GrantRow.{GrantRow}
use Rattle.op_model.specs.declared.row.QuoteRow.{QuoteRow}
use Rattle.op_legal.proofs.Callers.{caller_is}
use Rattle.op_legal.proofs.Chains.{act_in, some_is, past_want, past_refusal, past_step}
use Rattle.op_laws.proofs.Paying.{IsPaying, access_limits, outgoing_acts, direct_pays}
use Rattle.op_granting.specs.declared.next.PaidUnder.{PaidUnder}
use Rattle.op_granting.specs.Spending.{under, paid_by}
use Rattle.op_granting.proofs.Waiting.{spelled}

-- ---- an access that passed has an interval

there_of : (o : Option ℕ) → is_none o ≡ false → is_some o ≡ true
there_of None h = absurd (let e : true ≡ false = h in cc)
there_of (Some j) h = refl

access_lies : (history : List Entry) (t : ℕ) (verdict : Verdict) (who : Caller) (looked : Looked) (payment : PaymentLooked) → looked.payment ≡ Some payment → access history t verdict who looked ≡ Ok tt → is_some (interval_at who.row.items t) ≡ true
access_lies history t verdict who looked payment is h = there_of (interval_at who.row.items t) (access_limits history t verdict who looked payment is h).inside

-- the moment lies in an interval of the grant that an act pays under
abbrev pub LiesFor : List Entry → ℕ → Act → Type 0
LiesFor history t (acts.OutgoingMade grant quote metadata) = is_some (interval_at (items_of history grant) t) ≡ true
LiesFor history t (acts.OutgoingDirect grant address incoming debit source fee receive num den metadata) = is_some (interval_at (items_of history grant) t) ≡ true
LiesFor history t _ = Unit {0}

caller_lies : (history : List Entry) (t : ℕ) (verdict : Verdict) (who : Caller) (looked : Looked) (payment : PaymentLooked) → caller history t verdict ≡ Ok who → looked.payment ≡ Some payment → access history t verdict who looked ≡ Ok tt → is_some (interval_at (items_of history who.grant) t) ≡ true
caller_lies history t verdict who looked payment called is passed =
    ap (λ (o : Option GrantRow). is_some (interval_at (option_map_or (λ row. row.items) o []) t)) (caller_is history t verdict who called).row
    ∙ access_lies history t verdict who looked payment is passed

quote_lies : (history : List Entry) (t : ℕ) (name : Option AddressName) (quote : Option RowName) (metadata : Option (List ℕ)) (verdict : Verdict) (act : Act) → act_in (pay_quote history t name quote metadata verdict) ≡ Some act → LiesFor history t act
quote_lies history t name quote metadata verdict act made =
    let who = past_step (caller history t verdict) _ act made in
    let address = address_named history name in
    let quoted = found (quote_row history) (row_named history kinds.Quote quote) in
    let looked = looks_at_quote history address quoted in
    let may = past_step (access history t verdict who.0 looked) _ act who.2 in
    let there = past_want address NotFound _ act may.2 in
    let row = past_want quoted NotFound _ act there.2 in
    let payer = past_refusal (not (row.0.row.terms.payer == there.0)) NotFound _ act row.2 in
    let unpaid = past_refusal (is_paid history row.0.number) QuoteUsed _ act payer.1 in
    let past = past_refusal (nat_le row.0.row.expiry t) QuoteExpired (λ _. Ok (Some (acts.OutgoingMade who.0.grant row.0.number metadata))) act unpaid.1 in
    let passed : access history t verdict who.0 looked ≡ Ok tt = may.1 in
    subst (LiesFor history t) (some_is (acts.OutgoingMade who.0.grant row.0.number metadata) act past.1)
    (caller_lies history t verdict who.0 looked (quoted_payment row.0.row) who.1 (ap (option_map (λ (x : Found QuoteRow). quoted_payment x.row)) row.1) passed)

direct_lies : (history : List Entry) (t fee : ℕ) (name : Option AddressName) (receiver : Option RowName) (debit : Amount) (metadata : Option (List ℕ)) (verdict : Verdict) (act : Act) → act_in (pay_directly history t fee name receiver debit metadata verdict) ≡ Some act → LiesFor history t act
direct_lies history t fee name receiver debit metadata verdict act made =
    let who = past_step (caller history t verdict) _ act made in
    let address = address_named history name in
    let incoming = receiver_named history receiver in
    let looked = looks_at_direct history fee debit address incoming in
    let may = past_step (access history t verdict who.0 looked) _ act who.2 in
    let there = past_want address NotFound _ act may.2 in
    let named = past_want incoming NotFound _ act there.2 in
    let known = past_refusal (is_strange_amount history debit) NotFound _ act named.2 in
    let opened = past_refusal (not (is_open history named.0.number named.0.row t)) ReceiverClosed _ act known.1 in
    let price = past_step (direct_price history fee debit there.0 named.0) (λ (x : Priced). Ok (Some (direct_act who.0.grant there.0 named.0.number x metadata))) act opened.1 in
    let passed : access history t verdict who.0 looked ≡ Ok tt = may.1 in
    subst (LiesFor history t) (some_is (direct_act who.0.grant there.0 named.0.number price.0 metadata) act price.2)
    (caller_lies history t verdict who.0 looked (direct_payment history fee debit address named.0) who.1 (ap (option_map (direct_payment history fee debit address)) named.1) passed)

pub next_lies : (history : List Entry) (t : ℕ) (act : Act) → IsNext history (record { at = t; act = act }) → LiesFor history t act
next_lies history t (acts.OutgoingMade grant quote metadata) next =
    let act = acts.OutgoingMade grant quote metadata in
    let verdict = grant_verdict history grant current_token in
    let name : Option AddressName = option_map (λ (row : QuoteRow). name_of_address history row.terms.payer) (quote_row history quote) in
    let named : Option RowName = Some (name_of_row history kinds.Quote quote) in
    let made = spelled history (record { at = t; act = act }) (requests.MakeOutgoing name (Quoted named) metadata) verdict refl next in
    quote_lies history t name named metadata verdict act made
next_lies history t (acts.OutgoingDirect grant address incoming debit source fee receive num den metadata) next =
    let act = acts.OutgoingDirect grant address incoming debit source fee receive num den metadata in
    let verdict = grant_verdict history grant current_token in
    let name : Option AddressName = Some (name_of_address history address) in
    let receiver : Option RowName = Some (name_of_row history kinds.Incoming incoming) in
    let amount : Amount = amount_of (asset_of_address history address) debit in
    let made = spelled history (record { at = t; act = act }) (requests.MakeOutgoing name (Direct receiver amount) metadata) verdict refl next in
    direct_lies history t fee name receiver amount metadata verdict act made
next_lies history t _ next = tt

-- ---- what an act pays

-- the payment of an act may be made
pub record IsPaid (history : List Entry) (t : ℕ) (paid : PaidUnder) : Type 0 where
  pub pays : IsPaying history t paid.grant paid.debit paid.receive
  pub lies : is_some (interval_at (items_of history paid.grant) t) ≡ true

quoted_paid : (history : List Entry) (t grant : ℕ) (found : Option QuoteRow) (paid : PaidUnder) → option_map (λ (row : QuoteRow). under grant row.terms.debit row.terms.receive) found ≡ Some paid
    → MatchOption found ⊥ (λ row. IsPaying history t grant row.terms.debit row.terms.receive) → is_some (interval_at (items_of history grant) t) ≡ true → IsPaid history t paid
quoted_paid history t grant None paid is pays lies = absurd pays
quoted_paid history t grant (Some row) paid is pays lies =
    subst (IsPaid history t) (some_is (under grant row.terms.debit row.terms.receive) paid is) (record { pays = pays; lies = lies })

pub is_paid_by : (history : List Entry) (t : ℕ) (act : Act) (paid : PaidUnder) → paid_by history act ≡ Some paid → IsNext history (record { at = t; act = act }) → IsPaid history t paid
is_paid_by history t (acts.OutgoingMade grant quote metadata) paid is next =
    quoted_paid history t grant (quote_row history quote) paid is (outgoing_acts history t grant quote metadata next) (next_lies history t (acts.OutgoingMade grant quote metadata) next)
is_paid_by history t (acts.OutgoingDirect grant address incoming debit source fee receive num den metadata) paid is next =
    subst (IsPaid history t) (some_is (under grant debit receive) paid is)
    (record {
      pays = direct_pays history t grant address incoming debit source fee receive num den metadata next;
      lies = next_lies history t (acts.OutgoingDirect grant address incoming debit source fee receive num den metadata) next;
    })
is_paid_by history t _ paid is next = absurd (let e : None ≡ Some paid = is in cc)
