-- Quotes, and payments without one: the entry spells the request again, with the fee that was recorded.
use Rattle.std.proofs.Common.{◌≡◌, ℕ, ◌≤◌, Bool, true, false, cond, ◌&&◌, List, refl, ◌∙◌, sym, ap, subst, Some, None}
use Rattle.std.specs.Prelude.{not, IsTrue, MatchOption, Ok, Err, is_none}
use Rattle.std.specs.Option.{option_map_or}
use Rattle.std.specs.declared.option.Option.{Option}
use Rattle.std.specs.declared.result.Result.{Result}
use Rattle.op_amount.specs.Asset.{is_same_asset}
use Rattle.op_amount.specs.Prices.{price_with, terms_of, is_too_large, is_too_small, is_over_receiver, mode_value}
use Rattle.op_amount.specs.declared.Amount.{Amount}
use Rattle.op_amount.specs.declared.Asset.{Asset}
use Rattle.op_amount.specs.declared.Mode.TheVariants as modes
use Rattle.op_amount.specs.declared.Rate.{Rate}
use Rattle.op_amount.specs.declared.Priced.{Priced}
use Rattle.op_amount.specs.declared.PriceFault.{PriceFault}
use Rattle.op_amount.specs.declared.PriceFault.TheVariants as faults
use Rattle.op_names.specs.declared.Kind.TheVariants as kinds
use Rattle.op_names.specs.declared.AddressName.{AddressName}
use Rattle.op_names.specs.declared.RowName.{RowName}
use Rattle.op_model.specs.Answer.{act_for, fee_asked}
use Rattle.op_model.specs.Asking.{caller, access, address_named, row_named, Found}
use Rattle.op_model.specs.Grants.{current_token}
use Rattle.op_model.specs.History.{asset_of_address}
use Rattle.op_model.specs.Incoming.{is_open, room_of}
use Rattle.op_model.specs.Actions as actions
use Rattle.op_model.specs.PaymentAnswers.{Pricing, QuotePricing, FeeAsked, quote_pricing, pricing_of, make_quote, quote_act, priced, or_price_refusal, price_refusal, looks_at_address, is_strange_asked, is_strange_amount, fits_assets, pair_of, is_rest, mode_kind, mode_of, receiver_named, rate_to, direct_pricing, direct_price, direct_act, pay_directly, looks_at_direct}
use Rattle.op_model.specs.Payments.{incoming_row, payee_of}
use Rattle.op_model.specs.Legal.{asked_by, keeps_forms, grant_verdict, name_of_address, name_of_row, quote_spelled, amount_of, word_of, fee_of}
use Rattle.op_model.specs.declared.act.Act.{Act}
use Rattle.op_model.specs.declared.act.Entry.{Entry}
use Rattle.op_model.specs.declared.reply.Refusal.{Refusal}
use Rattle.op_model.specs.declared.reply.Refusal.TheVariants.{NotFound, ReceiverClosed, NoAmount, AssetMismatch, NoRate}
use Rattle.op_model.specs.declared.request.PaymentAsked.TheVariants.{Direct}
use Rattle.op_model.specs.declared.request.QuoteAsked.{QuoteAsked}
use Rattle.op_model.specs.declared.request.QuoteAsked.TheVariants as asked_modes
use Rattle.op_model.specs.declared.request.Request.TheVariants as requests
use Rattle.op_model.specs.declared.request.Task.TheVariants.{Ask}
use Rattle.op_model.specs.declared.request.Verdict.{Verdict}
use Rattle.op_model.specs.declared.row.IncomingRow.{IncomingRow}
use Rattle.op_legal.proofs.Chains.{act_in, outcome_act, some_is, past_refusal, past_want, past_step, within_step, within_want, within_refusal, ok_is}
use Rattle.op_legal.proofs.Names.{not_false, asset_is}
use Rattle.op_legal.proofs.Callers.{caller_verdict}
use Rattle.op_legal.proofs.Clients.{named_found, row_found, found_there}
use Rattle.op_legal.proofs.Tasks.{SpellsItself, spells}

-- ---- the price

kept_price : (large small over : Bool) (room : ℕ) (p price : Priced) → cond large (Err faults.TooLarge) (cond small (Err faults.TooSmall) (cond over (Err (faults.OverReceiver room)) (Ok p))) ≡ Ok price → p ≡ price
kept_price true small over room p price h = absurd (let e : Err faults.TooLarge ≡ Ok price = h in cc)
kept_price false true over room p price h = absurd (let e : Err faults.TooSmall ≡ Ok price = h in cc)
kept_price false false true room p price h = absurd (let e : Err (faults.OverReceiver room) ≡ Ok price = h in cc)
kept_price false false false room p price h = let e : Ok p ≡ Ok price = h in cc

pub priced_ok : (result : Result Priced PriceFault) (price : Priced) → or_price_refusal result ≡ Ok price → result ≡ Ok price
priced_ok (Ok p) price h = ap (λ (x : Priced). Ok x) (ok_is p price h)
priced_ok (Err fault) price h = absurd (let e : Err (price_refusal fault) ≡ Ok price = h in cc)

-- a price that stands is that of its fee, rate and mode
pub price_is : (fee : ℕ) (p : Pricing) (price : Priced) → priced fee p ≡ Ok price → terms_of fee p.rate p.mode ≡ price
price_is fee p price h =
    let terms = terms_of fee p.rate p.mode in
    kept_price (is_too_large terms) (is_too_small terms) (is_over_receiver terms p.room) p.room terms price (priced_ok (price_with fee p.rate p.mode p.room) price h)

charged_at : (asked : Option FeeAsked) (fee kept : ℕ) → kept ≡ fee → MatchOption asked (fee ≡ 0) (λ a. fee ≤ a.amount) → MatchOption asked (Unit {0}) (λ a. kept ≤ a.amount)
charged_at None fee kept same h = tt
charged_at (Some a) fee kept same h = subst (λ (n : ℕ). n ≤ a.amount) (sym same) h

-- ---- what was looked at

record IsPricing (history : List Entry) (name : Option AddressName) (receiver : Option RowName) (asked : QuoteAsked) (verdict : Verdict) (q : QuotePricing) : Type 0 where
  verdict_is : grant_verdict history q.grant current_token ≡ verdict
  name_is : Some (name_of_address history q.address) ≡ name
  receiver_is : Some (name_of_row history kinds.Incoming q.incoming) ≡ receiver
  asked_is : quote_spelled history q.address q.incoming q.kind (mode_value q.pricing.mode) ≡ asked

spelled_again : (history : List Entry) (n i payee room : ℕ) (asked : QuoteAsked) → payee_of history i ≡ payee → fits_assets asked (pair_of history n payee) ≡ true → quote_spelled history n i (mode_kind asked) (mode_value (mode_of asked room)) ≡ asked
spelled_again history n i payee room (asked_modes.Debit amount) is fits =
    ap (λ (a : Asset). asked_modes.Debit (amount_of a amount.value)) (sym (asset_is amount.asset (asset_of_address history n) fits))
spelled_again history n i payee room (asked_modes.Receive amount) is fits =
    ap (λ (m : ℕ). asked_modes.Receive (amount_of (asset_of_address history m) amount.value)) is
    ∙ ap (λ (a : Asset). asked_modes.Receive (amount_of a amount.value)) (sym (asset_is amount.asset (asset_of_address history payee) fits))
spelled_again history n i payee room asked_modes.Rest is fits = refl

-- the name of a receiver that was found
pub receiver_found : (history : List Entry) (receiver : Option RowName) (it : Found IncomingRow) → receiver_named history receiver ≡ Some it → Some (name_of_row history kinds.Incoming it.number) ≡ receiver
receiver_found history receiver it h = sym (row_found history kinds.Incoming receiver it.number (found_there (incoming_row history) (row_named history kinds.Incoming receiver) it h).0)

quote_pricing_is : (history : List Entry) (t : ℕ) (name : Option AddressName) (receiver : Option RowName) (asked : QuoteAsked) (verdict : Verdict) (q : QuotePricing) → quote_pricing history t name receiver asked verdict ≡ Ok q → IsPricing history name receiver asked verdict q
quote_pricing_is history t name receiver asked verdict q h =
    let who = within_step (caller history t verdict) _ q h in
    let address = address_named history name in
    let looked = looks_at_address actions.quote actions.create address in
    let may = within_step (access history t verdict who.0 looked) _ q who.2 in
    let there = within_want address NotFound _ q may.2 in
    let n = there.0 in
    let named = within_want (receiver_named history receiver) NotFound _ q there.2 in
    let it = named.0 in
    let known = within_refusal (is_strange_asked history asked) NotFound _ q named.2 in
    let opened = within_refusal (not (is_open history it.number it.row t)) ReceiverClosed _ q known.1 in
    let some = within_refusal (is_rest asked && is_none it.row.amount) NoAmount _ q opened.1 in
    let fits = within_refusal (not (fits_assets asked (pair_of history n it.row.address))) AssetMismatch _ q some.1 in
    let rate = within_want (rate_to history n it.row) NoRate _ q fits.1 in
    let made : QuotePricing = record { grant = who.0.grant; address = n; incoming = it.number; kind = mode_kind asked; pricing = pricing_of history n it asked rate.0 } in
    let is : made ≡ q = ok_is made q rate.2 in
    let at = found_there (incoming_row history) (row_named history kinds.Incoming receiver) it named.1 in
    let payee : payee_of history it.number ≡ it.row.address = ap (λ (o : Option IncomingRow). option_map_or (λ (r : IncomingRow). r.address) o 0) at.1 in
    subst (IsPricing history name receiver asked verdict) is (record {
      verdict_is = caller_verdict history t verdict who.0 looked who.1 may.1;
      name_is = sym (named_found history name n there.1);
      receiver_is = receiver_found history receiver it named.1;
      asked_is = spelled_again history n it.number it.row.address (room_of history it.number it.row) asked payee (not_false (fits_assets asked (pair_of history n it.row.address)) fits.0);
    })

pub make_quote_spells : (history : List Entry) (t : ℕ) (word : List ℕ) (fee : ℕ) (name : Option AddressName) (receiver : Option RowName) (asked : QuoteAsked) (verdict : Verdict) (act : Act) → IsTrue (keeps_forms (requests.MakeQuote name receiver asked))
    → MatchOption (fee_asked history t (Ask (requests.MakeQuote name receiver asked) verdict)) (fee ≡ 0) (λ a. fee ≤ a.amount)
    → act_in (make_quote history t fee name receiver asked verdict) ≡ Some act → SpellsItself history t act
make_quote_spells history t word fee name receiver asked verdict act forms charged made =
    let q = past_step (quote_pricing history t name receiver asked verdict) _ act made in
    let price = past_step (priced fee q.0.pricing) (λ (x : Priced). Ok (Some (quote_act q.0 x))) act q.2 in
    let is : quote_act q.0 price.0 ≡ act = some_is (quote_act q.0 price.0) act price.2 in
    let same = quote_pricing_is history t name receiver asked verdict q.0 q.1 in
    let kept : fee_of act ≡ fee = sym (ap fee_of is) ∙ sym (ap (λ (x : Priced). x.fee) (price_is fee q.0.pricing price.0 price.1)) in
    let request = requests.MakeQuote name receiver asked in
    let spelled = quote_spelled history q.0.address q.0.incoming q.0.kind (mode_value q.0.pricing.mode) in
    let task : asked_by history act ≡ Ask request verdict =
    sym (ap (asked_by history) is)
    ∙ ap (λ (v : Verdict). Ask (requests.MakeQuote (Some (name_of_address history q.0.address)) (Some (name_of_row history kinds.Incoming q.0.incoming)) spelled) v) same.verdict_is
    ∙ ap (λ (a : Option AddressName). Ask (requests.MakeQuote a (Some (name_of_row history kinds.Incoming q.0.incoming)) spelled) verdict) same.name_is
    ∙ ap (λ (r : Option RowName). Ask (requests.MakeQuote name r spelled) verdict) same.receiver_is
    ∙ ap (λ (a : QuoteAsked). Ask (requests.MakeQuote name receiver a) verdict) same.asked_is in
    spells history t (Ask request verdict) act task forms (charged_at (fee_asked history t (Ask request verdict)) fee (fee_of act) kept charged)
    (outcome_act history t request verdict (act_for history t (word_of act) (fee_of act) request verdict)
    ∙ ap (λ (f : ℕ). act_in (make_quote history t f name receiver asked verdict)) kept ∙ made)

-- ---- a payment without a quote

pub pay_directly_spells : (history : List Entry) (t : ℕ) (word : List ℕ) (fee : ℕ) (name : Option AddressName) (receiver : Option RowName) (debit : Amount) (metadata : Option (List ℕ)) (verdict : Verdict) (act : Act) → IsTrue (keeps_forms (requests.MakeOutgoing name (Direct receiver debit) metadata))
    → MatchOption (fee_asked history t (Ask (requests.MakeOutgoing name (Direct receiver debit) metadata) verdict)) (fee ≡ 0) (λ a. fee ≤ a.amount)
    → act_in (pay_directly history t fee name receiver debit metadata verdict) ≡ Some act → SpellsItself history t act
pay_directly_spells history t word fee name receiver debit metadata verdict act forms charged made =
    let who = past_step (caller history t verdict) _ act made in
    let address = address_named history name in
    let incoming = receiver_named history receiver in
    let looked = looks_at_direct history fee debit address incoming in
    let may = past_step (access history t verdict who.0 looked) _ act who.2 in
    let there = past_want address NotFound _ act may.2 in
    let n = there.0 in
    let named = past_want incoming NotFound _ act there.2 in
    let it = named.0 in
    let known = past_refusal (is_strange_amount history debit) NotFound _ act named.2 in
    let opened = past_refusal (not (is_open history it.number it.row t)) ReceiverClosed _ act known.1 in
    let price = past_step (direct_price history fee debit n it) (λ (x : Priced). Ok (Some (direct_act who.0.grant n it.number x metadata))) act opened.1 in
    let is : direct_act who.0.grant n it.number price.0 metadata ≡ act = some_is (direct_act who.0.grant n it.number price.0 metadata) act price.2 in
    let pricing = within_step (direct_pricing history debit n it) (λ (p : Pricing). priced fee p) price.0 price.1 in
    let fits = within_refusal (not (is_same_asset debit.asset (asset_of_address history n))) AssetMismatch _ pricing.0 pricing.1 in
    let rate = within_want (rate_to history n it.row) NoRate (λ (r : Rate). let ok : Result Pricing Refusal = Ok (pricing_of history n it (asked_modes.Debit debit) r) in ok) pricing.0 fits.1 in
    let pricing_is : pricing_of history n it (asked_modes.Debit debit) rate.0 ≡ pricing.0 = ok_is (pricing_of history n it (asked_modes.Debit debit) rate.0) pricing.0 rate.2 in
    let terms : terms_of fee rate.0 (modes.Debit debit.value) ≡ price.0 =
    ap (λ (p : Pricing). terms_of fee p.rate p.mode) pricing_is ∙ price_is fee pricing.0 price.0 pricing.2 in
    let debited : price.0.debit ≡ debit.value = sym (ap (λ (x : Priced). x.debit) terms) in
    let kept : fee_of act ≡ fee = sym (ap fee_of is) ∙ sym (ap (λ (x : Priced). x.fee) terms) in
    let same = caller_verdict history t verdict who.0 looked who.1 may.1 in
    let request = requests.MakeOutgoing name (Direct receiver debit) metadata in
    let task : asked_by history act ≡ Ask request verdict =
    sym (ap (asked_by history) is)
    ∙ ap (λ (v : Verdict). Ask (requests.MakeOutgoing (Some (name_of_address history n)) (Direct (Some (name_of_row history kinds.Incoming it.number)) (amount_of (asset_of_address history n) price.0.debit)) metadata) v) same
    ∙ ap (λ (a : Option AddressName). Ask (requests.MakeOutgoing a (Direct (Some (name_of_row history kinds.Incoming it.number)) (amount_of (asset_of_address history n) price.0.debit)) metadata) verdict) (sym (named_found history name n there.1))
    ∙ ap (λ (r : Option RowName). Ask (requests.MakeOutgoing name (Direct r (amount_of (asset_of_address history n) price.0.debit)) metadata) verdict) (receiver_found history receiver it named.1)
    ∙ ap (λ (d : ℕ). Ask (requests.MakeOutgoing name (Direct receiver (amount_of (asset_of_address history n) d)) metadata) verdict) debited
    ∙ ap (λ (a : Asset). Ask (requests.MakeOutgoing name (Direct receiver (amount_of a debit.value)) metadata) verdict) (sym (asset_is debit.asset (asset_of_address history n) (not_false (is_same_asset debit.asset (asset_of_address history n)) fits.0))) in
    spells history t (Ask request verdict) act task forms (charged_at (fee_asked history t (Ask request verdict)) fee (fee_of act) kept charged)
    (outcome_act history t request verdict (act_for history t (word_of act) (fee_of act) request verdict)
    ∙ ap (λ (f : ℕ). act_in (pay_directly history t f name receiver debit metadata verdict)) kept ∙ made)
