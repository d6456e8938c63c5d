-- What an act that makes something tells of the numbers that it names.
use Rattle.std.proofs.Common.{◌≡◌, ℕ, zero, suc, ◌+◌, ◌*◌, ◌/◌, ◌<◌, ◌≤◌, Bool, true, false, cond, List, [], length, refl, ◌∙◌, sym, ap, subst, arith, Some, Option}
use Rattle.std.specs.Prelude.{◌==◌, ◌&&◌, not, nat_lt, Ok, Err, is_none, is_some}
use Rattle.std.specs.List.{filter_map}
use Rattle.std.specs.Option.{option_map_or}
use Rattle.std.specs.declared.result.Result.{Result}
use Rattle.std.proofs.Math.Nat.{div-zero}
use Rattle.std.proofs.lemmas.Bool.Decides.{nat_tests}
use Rattle.op_amount.specs.Asset.{is_same_asset}
use Rattle.op_amount.specs.Prices.{price_with, terms_of, source_of, debit_of, is_too_large, is_too_small, is_over_receiver}
use Rattle.op_amount.specs.Rates.{floor_mul}
use Rattle.op_amount.specs.declared.Amount.{Amount}
use Rattle.op_amount.specs.declared.Mode.{Mode}
use Rattle.op_amount.specs.declared.Mode.TheVariants as modes
use Rattle.op_amount.specs.declared.Priced.{Priced}
use Rattle.op_amount.specs.declared.PriceFault.TheVariants as faults
use Rattle.op_amount.specs.declared.Rate.{Rate}
use Rattle.op_amount.specs.declared.TheConstants.{TOP}
use Rattle.op_names.specs.declared.AddressName.{AddressName}
use Rattle.op_names.specs.declared.RowName.{RowName}
use Rattle.op_names.specs.declared.Kind.TheVariants as kinds
use Rattle.op_model.specs.Actions as actions
use Rattle.op_model.specs.AdminAnswers.{has_asset, money_refusals, move_money}
use Rattle.op_model.specs.Answer.{act_for}
use Rattle.op_model.specs.Asking.{caller, access, address_named, row_named, refuse_if, Found}
use Rattle.op_model.specs.Balances.{account_asset, total, available}
use Rattle.op_model.specs.Grants.{current_token}
use Rattle.op_model.specs.History.{addresses, address_asset, asset_of_address, rate_between, rate_set, last}
use Rattle.op_model.specs.Incoming.{is_open}
use Rattle.op_model.specs.Legal.{IsNext, no_verdict, grant_verdict, name_of_account, name_of_address, name_of_row, amount_of, asset_of_account, quote_spelled}
use Rattle.op_model.specs.PaymentAnswers.{Pricing, QuotePricing, quote_pricing, pricing_of, make_quote, priced, looks_at_address, is_strange_asked, fits_assets, pair_of, is_rest, mode_kind, receiver_named, rate_to, direct_pricing, pay_directly}
use Rattle.op_model.specs.Payments.{incoming_row, payee_of, terms_at}
use Rattle.op_model.specs.declared.act.Account.{Account}
use Rattle.op_model.specs.declared.act.Account.TheVariants.{Outside, Pool, Fees, Wallet}
use Rattle.op_model.specs.declared.act.Act.{Act}
use Rattle.op_model.specs.declared.act.Act.TheVariants as acts
use Rattle.op_model.specs.declared.act.Entry.{Entry}
use Rattle.op_model.specs.declared.act.QuoteMode.{QuoteMode}
use Rattle.op_model.specs.declared.reply.Refusal.{Refusal}
use Rattle.op_model.specs.declared.reply.Refusal.TheVariants.{NotFound, ZeroAmount, AssetMismatch, AssetFull, Short, ReceiverClosed, NoAmount, NoRate}
use Rattle.op_model.specs.declared.request.PaymentAsked.TheVariants.{Direct}
use Rattle.op_model.specs.declared.request.QuoteAsked.{QuoteAsked}
use Rattle.op_model.specs.declared.request.QuoteAsked.TheVariants as asked_modes
use Rattle.op_model.specs.declared.request.Request.TheVariants as requests
use Rattle.op_model.specs.declared.request.Verdict.{Verdict}
use Rattle.op_model.specs.declared.row.IncomingRow.{IncomingRow}
use Rattle.op_model.specs.declared.row.Terms.{Terms}
use Rattle.op_legal.specs.Numbers.{HasAddress, HasAccount}
use Rattle.op_legal.proofs.Admin.{new_transfer_of}
use Rattle.op_legal.proofs.Chains.{act_in, outcome_act, some_is, within_refusal, within_want, within_step, ok_is}
use Rattle.op_legal.proofs.Clients.{found_there}
use Rattle.op_legal.proofs.Named.{next_names, address_there, makes_quote, pays_directly}
use Rattle.op_legal.proofs.Quoting.{price_is, priced_ok}
use Rattle.op_laws.proofs.Lists.{is_counted, some_counted, or_left, or_right}

-- ---- addresses and accounts that are there

abbrev pub IsAddress : List Entry → ℕ → Type 0
IsAddress history n = is_counted n (length (addresses history)) ≡ true

abbrev pub IsAccount : List Entry → Account → Type 0
IsAccount history (Wallet n) = IsAddress history n
IsAccount history _ = Unit {0}

pub is_address : (history : List Entry) (n : ℕ) → HasAddress history n → IsAddress history n
is_address history n h = some_counted (addresses history) n h

pub is_account : (history : List Entry) (account : Account) → HasAccount history account → IsAccount history account
is_account history (Outside n) h = tt
is_account history (Pool n) h = tt
is_account history (Fees n) h = tt
is_account history (Wallet n) h = is_address history n h

-- ---- deposits and withdrawals

pub record IsDeposit (history : List Entry) (account : Account) (value : ℕ) : Type 0 where
  pub there : IsAccount history account
  pub fits : total history (account_asset history account) + value ≤ TOP

pub record IsWithdrawal (history : List Entry) (account : Account) (value : ℕ) : Type 0 where
  pub there : IsAccount history account
  pub covered : value ≤ available history account

not_above : (n top : ℕ) → (true && nat_lt top n) ≡ false → n ≤ top
not_above n top h = let e : nat_lt top n ≡ false = h in grind (arith, nat_tests)

not_refused : (b : Bool) (refusal : Refusal) → refuse_if b refusal ≡ Ok tt → b ≡ false
not_refused true refusal h = absurd (let e : Err refusal ≡ Ok tt = h in cc)
not_refused false refusal h = refl

deposit_passes : (history : List Entry) (account : Account) (amount : Amount) → money_refusals history true account amount ≡ Ok tt → total history (account_asset history account) + amount.value ≤ TOP
deposit_passes history account amount h =
    let some = within_refusal (amount.value == 0) ZeroAmount _ tt h in
    let same = within_refusal (not (has_asset history account amount.asset)) AssetMismatch _ tt some.1 in
    let fits = within_refusal (true && nat_lt TOP (total history (account_asset history account) + amount.value)) (AssetFull (total history (account_asset history account))) _ tt same.1 in
    not_above (total history (account_asset history account) + amount.value) TOP fits.0

withdrawal_passes : (history : List Entry) (account : Account) (amount : Amount) → money_refusals history false account amount ≡ Ok tt → amount.value ≤ available history account
withdrawal_passes history account amount h =
    let some = within_refusal (amount.value == 0) ZeroAmount _ tt h in
    let same = within_refusal (not (has_asset history account amount.asset)) AssetMismatch _ tt some.1 in
    not_above amount.value (available history account) (not_refused (true && nat_lt (available history account) amount.value) (Short (available history account)) same.1)

pub deposit_acts : (history : List Entry) (t : ℕ) (id : List ℕ) (account : Account) (value : ℕ) → IsNext history (record { at = t; act = acts.Deposited id account value }) → IsDeposit history account value
deposit_acts history t id account value next =
    let act = acts.Deposited id account value in
    let name = name_of_account history account in
    let amount : Amount = amount_of (asset_of_account history account) value in
    let request = requests.Deposit id name amount in
    let made : act_in (move_money history true id name amount) ≡ Some act = sym (outcome_act history t request no_verdict (act_for history t [] 0 request no_verdict)) ∙ next.act in
    let new = new_transfer_of history true id name amount act made in
    let is : acts.Deposited id account value ≡ acts.Deposited id new.account value = new.is in
    let same : new.account ≡ account = cc in
    record {
      there = is_account history account (next_names history (record { at = t; act = act }) next);
      fits = subst (λ (a : Account). total history (account_asset history a) + value ≤ TOP) same (deposit_passes history new.account amount new.passes);
    }

pub withdrawal_acts : (history : List Entry) (t : ℕ) (id : List ℕ) (account : Account) (value : ℕ) → IsNext history (record { at = t; act = acts.Withdrawn id account value }) → IsWithdrawal history account value
withdrawal_acts history t id account value next =
    let act = acts.Withdrawn id account value in
    let name = name_of_account history account in
    let amount : Amount = amount_of (asset_of_account history account) value in
    let request = requests.Withdraw id name amount in
    let made : act_in (move_money history false id name amount) ≡ Some act = sym (outcome_act history t request no_verdict (act_for history t [] 0 request no_verdict)) ∙ next.act in
    let new = new_transfer_of history false id name amount act made in
    let is : acts.Withdrawn id account value ≡ acts.Withdrawn id new.account value = new.is in
    let same : new.account ≡ account = cc in
    record {
      there = is_account history account (next_names history (record { at = t; act = act }) next);
      covered = subst (λ (a : Account). value ≤ available history a) same (withdrawal_passes history new.account amount new.passes);
    }

-- ---- incoming payments

pub incoming_acts : (history : List Entry) (t grant address : ℕ) (amount : Option ℕ) (expiry : ℕ) (metadata : Option (List ℕ)) → IsNext history (record { at = t; act = acts.IncomingMade grant address amount expiry metadata }) → IsAddress history address
incoming_acts history t grant address value expiry metadata next =
    is_address history address (next_names history (record { at = t; act = acts.IncomingMade grant address value expiry metadata }) next).1

-- ---- quotes

-- the terms of a quote
pub record AreGood (history : List Entry) (terms : Terms) : Type 0 where
  pub payer : IsAddress history terms.payer
  pub payee : IsAddress history terms.payee
  pub incoming : is_some (incoming_row history terms.incoming) ≡ true
  pub plain : address_asset history terms.payer ≡ address_asset history terms.payee → (terms.num ≡ 1) × (terms.den ≡ 1)
  pub debit : terms.debit ≡ terms.source + terms.fee
  pub some : 0 < terms.source
  pub receive : terms.receive ≡ floor_mul terms.source terms.num terms.den
  pub top : terms.receive ≤ TOP
  pub den : 0 < terms.den

record IsPriced (rate : Rate) (p : Priced) : Type 0 where
  debit : p.debit ≡ p.source + p.fee
  some : 0 < p.source
  receive : p.receive ≡ floor_mul p.source p.num p.den
  num : p.num ≡ rate.num
  den : p.den ≡ rate.den
  gives : 0 < p.receive
  top : p.receive ≤ TOP

pub not_small : (large small over : Bool) (room : ℕ) (p price : Priced) → cond large (Err faults.TooLarge) (cond small (Err faults.TooSmall) (cond over (Err (faults.OverReceiver room)) (Ok p))) ≡ Ok price → (small ≡ false) × (large ≡ false)
not_small true small over room p price h = absurd (let e : Err faults.TooLarge ≡ Ok price = h in cc)
not_small false true over room p price h = absurd (let e : Err faults.TooSmall ≡ Ok price = h in cc)
not_small false false over room p price h = (refl, refl)

no_more : (n : ℕ) → nat_lt TOP n ≡ false → n ≤ TOP
no_more n h = grind (arith, nat_tests)

pub not_none : (n : ℕ) → (n == 0) ≡ false → 0 < n
not_none n h = grind (arith, nat_tests)

debit_is : (fee : ℕ) (rate : Rate) (mode : Mode) → 0 < source_of fee rate mode → debit_of fee rate mode ≡ source_of fee rate mode + fee
debit_is fee rate (modes.Debit d) some = omega (arith, some)
debit_is fee rate (modes.Receive r) some = refl

priced_is : (fee : ℕ) (p : Pricing) (price : Priced) → priced fee p ≡ Ok price → IsPriced p.rate price
priced_is fee p price h =
    let terms = terms_of fee p.rate p.mode in
    let small = not_small (is_too_large terms) (is_too_small terms) (is_over_receiver terms p.room) p.room terms price (priced_ok (price_with fee p.rate p.mode p.room) price h) in
    let some : 0 < source_of fee p.rate p.mode = not_none (source_of fee p.rate p.mode) (or_left (terms.source == 0) (terms.receive == 0) small.0) in
    let gives : 0 < terms.receive = not_none terms.receive (or_right (terms.source == 0) (terms.receive == 0) small.0) in
    let top : terms.receive ≤ TOP = no_more terms.receive (or_right (nat_lt TOP terms.source) (nat_lt TOP terms.receive) (or_right (nat_lt TOP terms.fee) _ (or_right (nat_lt TOP terms.debit) _ small.1))) in
    subst (IsPriced p.rate) (price_is fee p price h) (record { debit = debit_is fee p.rate p.mode some; some = some; receive = refl; num = refl; den = refl; gives = gives; top = top })

some_den : (a num den : ℕ) → 0 < floor_mul a num den → 0 < den
some_den a num zero h = let none : a * num / zero ≡ zero = div-zero (a * num) in omega (arith, h, none)
some_den a num (suc d) h = omega arith

-- between an address and an incoming payment that are there, at their rate
record IsPricing (history : List Entry) (address incoming : ℕ) (p : Pricing) : Type 0 where
  payer : IsAddress history address
  row : IncomingRow
  there : incoming_row history incoming ≡ Some row
  rate : rate_between history (address_asset history address) (address_asset history row.address) ≡ Some p.rate

quote_pricing_is : (history : List Entry) (t : ℕ) (name : Option AddressName) (receiver : Option RowName) (asked : QuoteAsked) (verdict : Verdict) (q : QuotePricing) → quote_pricing history t name receiver asked verdict ≡ Ok q → IsPricing history q.address q.incoming q.pricing
quote_pricing_is history t name receiver asked verdict q h =
    let who = within_step (caller history t verdict) _ q h in
    let address = address_named history name in
    let may = within_step (access history t verdict who.0 (looks_at_address actions.quote actions.create address)) _ q who.2 in
    let there = within_want address NotFound _ q may.2 in
    let n = there.0 in
    let named = within_want (receiver_named history receiver) NotFound _ q there.2 in
    let it = named.0 in
    let known = within_refusal (is_strange_asked history asked) NotFound _ q named.2 in
    let opened = within_refusal (not (is_open history it.number it.row t)) ReceiverClosed _ q known.1 in
    let some = within_refusal (is_rest asked && is_none it.row.amount) NoAmount _ q opened.1 in
    let fits = within_refusal (not (fits_assets asked (pair_of history n it.row.address))) AssetMismatch _ q some.1 in
    let rate = within_want (rate_to history n it.row) NoRate _ q fits.1 in
    let made : QuotePricing = record { grant = who.0.grant; address = n; incoming = it.number; kind = mode_kind asked; pricing = pricing_of history n it asked rate.0 } in
    subst (λ (x : QuotePricing). IsPricing history x.address x.incoming x.pricing) (ok_is made q rate.2)
    (record {
      payer = is_address history n (address_there history name n there.1);
      row = it.row;
      there = (found_there (incoming_row history) (row_named history kinds.Incoming receiver) it named.1).1;
      rate = rate.1;
    })

direct_pricing_is : (history : List Entry) (debit : Amount) (n : ℕ) (it : Found IncomingRow) (p : Pricing) → IsAddress history n → incoming_row history it.number ≡ Some it.row → direct_pricing history debit n it ≡ Ok p → IsPricing history n it.number p
direct_pricing_is history debit n it p payer there h =
    let fits = within_refusal (not (is_same_asset debit.asset (asset_of_address history n))) AssetMismatch _ p h in
    let rate = within_want (rate_to history n it.row) NoRate (λ (r : Rate). let ok : Result Pricing Refusal = Ok (pricing_of history n it (asked_modes.Debit debit) r) in ok) p fits.1 in
    subst (IsPricing history n it.number) (ok_is (pricing_of history n it (asked_modes.Debit debit) rate.0) p rate.2) (record { payer = payer; row = it.row; there = there; rate = rate.1 })

rate_where : (b : Bool) (s t : ℕ) (found : Option Rate) (rate : Rate) → (s == t) ≡ b → s ≡ t → cond b (Some (record { num = 1; den = 1 })) found ≡ Some rate → (rate.num ≡ 1) × (rate.den ≡ 1)
rate_where true s t found rate is same h =
    let one : Rate = record { num = 1; den = 1 } in
    let e : one ≡ rate = some_is one rate h in
    (sym (ap (λ (r : Rate). r.num) e), sym (ap (λ (r : Rate). r.den) e))
rate_where false s t found rate is same h = absurd (let e : (s == t) ≡ true = grind (arith, nat_tests) in let f : true ≡ false = sym e ∙ is in cc)

-- an incoming payment's address is there
abbrev pub AreAddressed : List Entry → Type 0
AreAddressed history = (i : ℕ) (row : IncomingRow) → incoming_row history i ≡ Some row → IsAddress history row.address

good_of : (history : List Entry) (address incoming : ℕ) (p : Pricing) (x : Priced) → AreAddressed history → IsPricing history address incoming p → IsPriced p.rate x → AreGood history (terms_at history address incoming x)
good_of history address incoming p x addressed is price =
    let payee : payee_of history incoming ≡ is.row.address = ap (λ (o : Option IncomingRow). option_map_or (λ (r : IncomingRow). r.address) o 0) is.there in
    record {
      payer = is.payer;
      payee = subst (IsAddress history) (sym payee) (addressed incoming is.row is.there);
      incoming = ap is_some is.there;
      plain =
          λ same.
          let one = rate_where (address_asset history address == address_asset history is.row.address) (address_asset history address) (address_asset history is.row.address) (last (filter_map (λ (e : Entry). rate_set (address_asset history address) (address_asset history is.row.address) e.act) history)) p.rate refl (same ∙ ap (address_asset history) payee) is.rate in
          (price.num ∙ one.0, price.den ∙ one.1);
      debit = price.debit;
      some = price.some;
      receive = price.receive;
      top = price.top;
      den = some_den x.source x.num x.den (subst (λ (n : ℕ). 0 < n) price.receive price.gives);
    }

-- the terms that an act prices
abbrev pub PricesGood : List Entry → Act → Type 0
PricesGood history (acts.QuoteMade grant address incoming mode asked debit source fee receive num den) =
    AreGood history (terms_at history address incoming (record { debit = debit; source = source; fee = fee; receive = receive; num = num; den = den }))
PricesGood history (acts.OutgoingDirect grant address incoming debit source fee receive num den metadata) =
    AreGood history (terms_at history address incoming (record { debit = debit; source = source; fee = fee; receive = receive; num = num; den = den }))
PricesGood history _ = Unit {0}

pub quote_acts : (history : List Entry) (t grant address incoming : ℕ) (mode : QuoteMode) (asked debit source fee receive num den : ℕ) → AreAddressed history
    → IsNext history (record { at = t; act = acts.QuoteMade grant address incoming mode asked debit source fee receive num den }) → PricesGood history (acts.QuoteMade grant address incoming mode asked debit source fee receive num den)
quote_acts history t grant address incoming mode asked debit source fee receive num den addressed next =
    let act = acts.QuoteMade grant address incoming mode asked debit source fee receive num den in
    let name : Option AddressName = Some (name_of_address history address) in
    let receiver : Option RowName = Some (name_of_row history kinds.Incoming incoming) in
    let spelled = quote_spelled history address incoming mode asked in
    let verdict = grant_verdict history grant current_token in
    let request = requests.MakeQuote name receiver spelled in
    let made : act_in (make_quote history t fee name receiver spelled verdict) ≡ Some act = sym (outcome_act history t request verdict (act_for history t [] fee request verdict)) ∙ next.act in
    makes_quote (PricesGood history) history t fee name receiver spelled verdict act
    (λ q price is is_priced. good_of history q.address q.incoming q.pricing price addressed (quote_pricing_is history t name receiver spelled verdict q is) (priced_is fee q.pricing price is_priced))
    made

pub direct_acts : (history : List Entry) (t grant address incoming debit source fee receive num den : ℕ) (metadata : Option (List ℕ)) → AreAddressed history
    → IsNext history (record { at = t; act = acts.OutgoingDirect grant address incoming debit source fee receive num den metadata }) → PricesGood history (acts.OutgoingDirect grant address incoming debit source fee receive num den metadata)
direct_acts history t grant address incoming debit source fee receive num den metadata addressed next =
    let act = acts.OutgoingDirect grant address incoming debit source fee receive num den metadata in
    let name : Option AddressName = Some (name_of_address history address) in
    let receiver : Option RowName = Some (name_of_row history kinds.Incoming incoming) in
    let amount : Amount = amount_of (asset_of_address history address) debit in
    let verdict = grant_verdict history grant current_token in
    let request = requests.MakeOutgoing name (Direct receiver amount) metadata in
    let made : act_in (pay_directly history t fee name receiver amount metadata verdict) ≡ Some act = sym (outcome_act history t request verdict (act_for history t [] fee request verdict)) ∙ next.act in
    pays_directly (PricesGood history) history t fee name receiver amount metadata verdict act
    (λ g n it price there named waits is.
    let pricing = within_step (direct_pricing history amount n it) (λ (p : Pricing). priced fee p) price is in
    good_of history n it.number pricing.0 price addressed (direct_pricing_is history amount n it pricing.0 (is_address history n named) waits pricing.1) (priced_is fee pricing.0 price pricing.2))
    made
