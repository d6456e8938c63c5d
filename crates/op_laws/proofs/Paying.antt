-- What a payment that is made tells of its grant and the grant's cap.
use Rattle.std.proofs.Common.{◌≡◌, ℕ, ◌+◌, ◌≤◌, Bool, true, false, cond, List, [], ◌∷◌, ◌++◌, refl, ◌∙◌, sym, ap, subst, arith, Some, None, Option}
use Rattle.std.proofs.lemmas.Bool.Decides.{nat_tests}
use Rattle.std.specs.Prelude.{◌==◌, not, nat_le, nat_lt, Ok, MatchOption}
use Rattle.std.specs.List.{AllByRecursion, position_from}
use Rattle.std.specs.Option.{option_map, option_map_or, is_none}
use Rattle.std.specs.Result.{result_ok}
use Rattle.std.specs.declared.result.Result.{Result}
use Rattle.op_amount.specs.Asset.{is_same_asset}
use Rattle.op_amount.specs.Prices.{terms_of}
use Rattle.op_amount.specs.declared.Amount.{Amount}
use Rattle.op_amount.specs.declared.Mode.TheVariants as modes
use Rattle.op_amount.specs.declared.Priced.{Priced}
use Rattle.op_amount.specs.declared.Rate.{Rate}
use Rattle.op_names.specs.declared.AddressName.{AddressName}
use Rattle.op_names.specs.declared.RowName.{RowName}
use Rattle.op_names.specs.declared.Kind.TheVariants as kinds
use Rattle.op_model.specs.Access.{Looked, PaymentLooked, access_refusal, denial, first_failure, failures, item_failures, limit_failures, breaks_cap, capped_value, spent_at}
use Rattle.op_model.specs.Answer.{act_for}
use Rattle.op_model.specs.Asking.{Caller, caller, access, address_named, row_named, Found, found}
use Rattle.op_model.specs.Grants.{grant_row, current_token, interval_at, cap_of}
use Rattle.op_model.specs.History.{asset_of_address}
use Rattle.op_model.specs.Incoming.{is_open}
use Rattle.op_model.specs.Legal.{IsNext, grant_verdict, name_of_address, name_of_row, amount_of}
use Rattle.op_model.specs.PaymentAnswers.{Pricing, pay_quote, pay_directly, looks_at_quote, looks_at_direct, quoted_payment, direct_payment, direct_price, direct_pricing, direct_act, pricing_of, priced, receiver_named, rate_to, is_paid, is_strange_amount}
use Rattle.op_model.specs.Payments.{quote_row}
use Rattle.op_model.specs.declared.act.Act.{Act}
use Rattle.op_model.specs.declared.act.Act.TheVariants as acts
use Rattle.op_model.specs.declared.act.Entry.{Entry}
use Rattle.op_model.specs.declared.grant.Cap.{Cap}
use Rattle.op_model.specs.declared.reply.Refusal.{Refusal}
use Rattle.op_model.specs.declared.reply.Refusal.TheVariants.{NotFound, QuoteUsed, QuoteExpired, ReceiverClosed, AssetMismatch, NoRate}
use Rattle.op_model.specs.declared.request.PaymentAsked.TheVariants.{Quoted, Direct}
use Rattle.op_model.specs.declared.request.QuoteAsked.TheVariants as asked_modes
use Rattle.op_model.specs.declared.request.Request.TheVariants as requests
use Rattle.op_model.specs.declared.request.Verdict.{Verdict}
use Rattle.op_model.specs.declared.row.GrantRow.{GrantRow}
use Rattle.op_model.specs.declared.row.IncomingRow.{IncomingRow}
use Rattle.op_model.specs.declared.row.QuoteRow.{QuoteRow}
use Rattle.op_legal.proofs.Callers.{caller_is, refused_with, no_denial}
use Rattle.op_legal.proofs.Chains.{act_in, outcome_act, some_is, past_want, past_refusal, past_step, within_step, within_refusal, within_want, ok_is}
use Rattle.op_legal.proofs.Clients.{found_there}
use Rattle.op_legal.proofs.Quoting.{price_is}

-- ---- an access that passed

each_passes : (n : ℕ) (fails : List Bool) → position_from (λ f. f) n fails ≡ None → AllByRecursion (λ f. f ≡ false) fails
each_passes n [] h = tt
each_passes n (true ∷ fs) h = absurd (let e : Some n ≡ None = h in cc)
each_passes n (false ∷ fs) h = (refl, each_passes (n + 1) fs h)

-- the limits of the grant and the cap let the payment through
pub record PassesLimits (history : List Entry) (t g : ℕ) (grant : GrantRow) (payment : PaymentLooked) : Type 0 where
  pub inside : is_none (interval_at grant.items t) ≡ false
  pub capped : option_map_or (breaks_cap history t g grant.items payment) (cap_of grant.items) false ≡ false

limits_pass : (history : List Entry) (t : ℕ) (client : Option (List ℕ)) (g : ℕ) (grant : GrantRow) (looked : Looked) (payment : PaymentLooked) → looked.payment ≡ Some payment
    → AllByRecursion (λ f. f ≡ false) (item_failures client grant looked ++ option_map_or (limit_failures history t g grant.items) looked.payment []) → PassesLimits history t g grant payment
limits_pass history t client g grant looked payment is each =
    let all : AllByRecursion (λ f. f ≡ false) (item_failures client grant looked ++ limit_failures history t g grant.items payment) =
    subst (λ (o : Option PaymentLooked). AllByRecursion (λ f. f ≡ false) (item_failures client grant looked ++ option_map_or (limit_failures history t g grant.items) o [])) is each in
    record { inside = all.1.1.1.1.1.1.1.0; capped = all.1.1.1.1.1.1.1.1.0 }

pub access_limits : (history : List Entry) (t : ℕ) (verdict : Verdict) (who : Caller) (looked : Looked) (payment : PaymentLooked) → looked.payment ≡ Some payment → access history t verdict who looked ≡ Ok tt → PassesLimits history t who.grant who.row payment
access_limits history t verdict who looked payment is h =
    limits_pass history t verdict.client who.grant who.row looked payment is
    (each_passes 1 (failures history t verdict.client who.grant who.row looked)
    (no_denial (denial history t who.grant who.row) (first_failure (failures history t verdict.client who.grant who.row looked)) (refused_with (access_refusal history t verdict.client who.grant who.row looked) h)))

-- ---- a payment that is made

-- its grant is there at its moment, and its cap is not passed by so much more
pub record IsPaying (history : List Entry) (t grant debit receive : ℕ) : Type 0 where
  pub granted : GrantRow
  pub grant_is : grant_row history grant ≡ Some granted
  pub capped : MatchOption (cap_of granted.items) (Unit {0}) (λ cap. spent_at history grant granted.items t + cond cap.debit debit receive ≤ cap.sum.value)

not_above : (n top : ℕ) → nat_lt top n ≡ false → n ≤ top
not_above n top h = grind (arith, nat_tests)

capped_where : (spent : ℕ) (o : Option Cap) (payment : PaymentLooked) (debit receive : ℕ) → ((cap : Cap) → capped_value cap payment ≡ Some (cond cap.debit debit receive))
    → option_map_or (λ (cap : Cap). option_map_or (λ value. nat_lt cap.sum.value (spent + value)) (capped_value cap payment) false) o false ≡ false → MatchOption o (Unit {0}) (λ cap. spent + cond cap.debit debit receive ≤ cap.sum.value)
capped_where spent None payment debit receive values h = tt
capped_where spent (Some cap) payment debit receive values h =
    not_above (spent + cond cap.debit debit receive) cap.sum.value (ap (λ (o : Option ℕ). option_map_or (λ value. nat_lt cap.sum.value (spent + value)) o false) (sym (values cap)) ∙ h)

paying : (history : List Entry) (t : ℕ) (verdict : Verdict) (who : Caller) (looked : Looked) (payment : PaymentLooked) (debit receive : ℕ) → caller history t verdict ≡ Ok who → looked.payment ≡ Some payment → access history t verdict who looked ≡ Ok tt
    → ((cap : Cap) → capped_value cap payment ≡ Some (cond cap.debit debit receive)) → IsPaying history t who.grant debit receive
paying history t verdict who looked payment debit receive called is passed values =
    let limits = access_limits history t verdict who looked payment is passed in
    record {
      granted = who.row;
      grant_is = (caller_is history t verdict who called).row;
      capped = capped_where (spent_at history who.grant who.row.items t) (cap_of who.row.items) payment debit receive values limits.capped;
    }

-- what an act pays under its grant
abbrev pub PaysWithin : List Entry → ℕ → Act → Type 0
PaysWithin history t (acts.OutgoingMade grant quote metadata) = MatchOption (quote_row history quote) ⊥ (λ row. IsPaying history t grant row.terms.debit row.terms.receive)
PaysWithin history t (acts.OutgoingDirect grant address incoming debit source fee receive num den metadata) = IsPaying history t grant debit receive
PaysWithin history t _ = Unit {0}

either_some : (b : Bool) (x y : ℕ) → cond b (Some x) (Some y) ≡ Some (cond b x y)
either_some true x y = refl
either_some false x y = refl

looked_at : (quoted : Option (Found QuoteRow)) (it : Found QuoteRow) → quoted ≡ Some it → option_map (λ (x : Found QuoteRow). quoted_payment x.row) quoted ≡ Some (quoted_payment it.row)
looked_at quoted it h = ap (option_map (λ (x : Found QuoteRow). quoted_payment x.row)) h

pays_quote : (history : List Entry) (t : ℕ) (name : Option AddressName) (quote : Option RowName) (metadata : Option (List ℕ)) (verdict : Verdict) (act : Act) → act_in (pay_quote history t name quote metadata verdict) ≡ Some act → PaysWithin history t act
pays_quote history t name quote metadata verdict act made =
    let who = past_step (caller history t verdict) _ act made in
    let address = address_named history name in
    let quoted = found (quote_row history) (row_named history kinds.Quote quote) in
    let looked = looks_at_quote history address quoted in
    let may = past_step (access history t verdict who.0 looked) _ act who.2 in
    let there = past_want address NotFound _ act may.2 in
    let row = past_want quoted NotFound _ act there.2 in
    let payer = past_refusal (not (row.0.row.terms.payer == there.0)) NotFound _ act row.2 in
    let unpaid = past_refusal (is_paid history row.0.number) QuoteUsed _ act payer.1 in
    let past = past_refusal (nat_le row.0.row.expiry t) QuoteExpired (λ _. Ok (Some (acts.OutgoingMade who.0.grant row.0.number metadata))) act unpaid.1 in
    let passed : access history t verdict who.0 looked ≡ Ok tt = may.1 in
    let terms = row.0.row.terms in
    let pays = paying history t verdict who.0 looked (quoted_payment row.0.row) terms.debit terms.receive who.1 (looked_at quoted row.0 row.1) passed (λ cap. either_some cap.debit terms.debit terms.receive) in
    let at = found_there (quote_row history) (row_named history kinds.Quote quote) row.0 row.1 in
    subst (PaysWithin history t) (some_is (acts.OutgoingMade who.0.grant row.0.number metadata) act past.1)
    (subst (λ (o : Option QuoteRow). MatchOption o ⊥ (λ r. IsPaying history t who.0.grant r.terms.debit r.terms.receive)) (sym at.1) pays)

-- the debit of the price is the one that is asked for
debit_is : (history : List Entry) (fee : ℕ) (debit : Amount) (n : ℕ) (it : Found IncomingRow) (price : Priced) → direct_price history fee debit n it ≡ Ok price → debit.value ≡ price.debit
debit_is history fee debit n it price h =
    let pricing = within_step (direct_pricing history debit n it) (λ (p : Pricing). priced fee p) price h in
    let fits = within_refusal (not (is_same_asset debit.asset (asset_of_address history n))) AssetMismatch _ pricing.0 pricing.1 in
    let rate = within_want (rate_to history n it.row) NoRate (λ (r : Rate). let ok : Result Pricing Refusal = Ok (pricing_of history n it (asked_modes.Debit debit) r) in ok) pricing.0 fits.1 in
    let is = ok_is (pricing_of history n it (asked_modes.Debit debit) rate.0) pricing.0 rate.2 in
    let terms : terms_of fee rate.0 (modes.Debit debit.value) ≡ price = ap (λ (p : Pricing). terms_of fee p.rate p.mode) is ∙ price_is fee pricing.0 price pricing.2 in
    ap (λ (x : Priced). x.debit) terms

direct_value : (history : List Entry) (fee : ℕ) (debit : Amount) (n : ℕ) (it : Found IncomingRow) (price : Priced) (cap : Cap) → direct_price history fee debit n it ≡ Ok price → capped_value cap (direct_payment history fee debit (Some n) it) ≡ Some (cond cap.debit price.debit price.receive)
direct_value history fee debit n it price cap h =
    ap (λ (r : Result Priced Refusal). cond cap.debit (Some debit.value) (option_map (λ (x : Priced). x.receive) (result_ok r))) h
    ∙ ap (λ d. cond cap.debit (Some d) (Some price.receive)) (debit_is history fee debit n it price h)
    ∙ either_some cap.debit price.debit price.receive

looked_directly : (history : List Entry) (fee : ℕ) (debit : Amount) (address : Option ℕ) (incoming : Option (Found IncomingRow)) (n : ℕ) (it : Found IncomingRow) → address ≡ Some n → incoming ≡ Some it → option_map (direct_payment history fee debit address) incoming ≡ Some (direct_payment history fee debit (Some n) it)
looked_directly history fee debit address incoming n it a i = ap (option_map (direct_payment history fee debit address)) i ∙ ap (λ (o : Option ℕ). Some (direct_payment history fee debit o it)) a

pays_at_once : (history : List Entry) (t fee : ℕ) (name : Option AddressName) (receiver : Option RowName) (debit : Amount) (metadata : Option (List ℕ)) (verdict : Verdict) (act : Act) → act_in (pay_directly history t fee name receiver debit metadata verdict) ≡ Some act → PaysWithin history t act
pays_at_once history t fee name receiver debit metadata verdict act made =
    let who = past_step (caller history t verdict) _ act made in
    let address = address_named history name in
    let incoming = receiver_named history receiver in
    let looked = looks_at_direct history fee debit address incoming in
    let may = past_step (access history t verdict who.0 looked) _ act who.2 in
    let there = past_want address NotFound _ act may.2 in
    let named = past_want incoming NotFound _ act there.2 in
    let known = past_refusal (is_strange_amount history debit) NotFound _ act named.2 in
    let opened = past_refusal (not (is_open history named.0.number named.0.row t)) ReceiverClosed _ act known.1 in
    let price = past_step (direct_price history fee debit there.0 named.0) (λ (x : Priced). Ok (Some (direct_act who.0.grant there.0 named.0.number x metadata))) act opened.1 in
    let passed : access history t verdict who.0 looked ≡ Ok tt = may.1 in
    let pays = paying history t verdict who.0 looked (direct_payment history fee debit (Some there.0) named.0) price.0.debit price.0.receive who.1
    (looked_directly history fee debit address incoming there.0 named.0 there.1 named.1) passed (λ cap. direct_value history fee debit there.0 named.0 price.0 cap price.1) in
    subst (PaysWithin history t) (some_is (direct_act who.0.grant there.0 named.0.number price.0 metadata) act price.2) pays

pub outgoing_acts : (history : List Entry) (t grant quote : ℕ) (metadata : Option (List ℕ)) → IsNext history (record { at = t; act = acts.OutgoingMade grant quote metadata }) → PaysWithin history t (acts.OutgoingMade grant quote metadata)
outgoing_acts history t grant quote metadata next =
    let act = acts.OutgoingMade grant quote metadata in
    let name : Option AddressName = option_map (λ (row : QuoteRow). name_of_address history row.terms.payer) (quote_row history quote) in
    let named : Option RowName = Some (name_of_row history kinds.Quote quote) in
    let verdict = grant_verdict history grant current_token in
    let request = requests.MakeOutgoing name (Quoted named) metadata in
    let made : act_in (pay_quote history t name named metadata verdict) ≡ Some act = sym (outcome_act history t request verdict (act_for history t [] 0 request verdict)) ∙ next.act in
    pays_quote history t name named metadata verdict act made

pub direct_pays : (history : List Entry) (t grant address incoming debit source fee receive num den : ℕ) (metadata : Option (List ℕ)) → IsNext history (record { at = t; act = acts.OutgoingDirect grant address incoming debit source fee receive num den metadata })
    → IsPaying history t grant debit receive
direct_pays history t grant address incoming debit source fee receive num den metadata next =
    let act = acts.OutgoingDirect grant address incoming debit source fee receive num den metadata in
    let name : Option AddressName = Some (name_of_address history address) in
    let receiver : Option RowName = Some (name_of_row history kinds.Incoming incoming) in
    let amount : Amount = amount_of (asset_of_address history address) debit in
    let verdict = grant_verdict history grant current_token in
    let request = requests.MakeOutgoing name (Direct receiver amount) metadata in
    let made : act_in (pay_directly history t fee name receiver amount metadata verdict) ≡ Some act = sym (outcome_act history t request verdict (act_for history t [] fee request verdict)) ∙ next.act in
    pays_at_once history t fee name receiver amount metadata verdict act made
