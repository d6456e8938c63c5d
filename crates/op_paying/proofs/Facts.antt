-- What an entry that may follow tells of the incoming payment or the quote that it names.
use Rattle.std.proofs.Common.{◌≡◌, ℕ, zero, suc, ◌<◌, ◌≤◌, Bool, true, false, List, [], refl, ◌∙◌, sym, subst, arith, Some, None, Option}
use Rattle.std.specs.Prelude.{◌≢◌, ◌==◌, not, nat_le, Ok, Err, IfSome}
use Rattle.std.specs.Option.{option_map, option_map_or}
use Rattle.std.proofs.lemmas.Bool.Decides.{nat_tests}
use Rattle.op_amount.specs.Asset.{is_same_asset}
use Rattle.op_amount.specs.declared.Amount.{Amount}
use Rattle.op_amount.specs.declared.TheConstants.{TOP}
use Rattle.op_model.specs.Actions as actions
use Rattle.op_model.specs.Answer.{act_for, noted_outcome}
use Rattle.op_model.specs.Asking.{caller, access, address_named, row_named, refuse_if, Found, found}
use Rattle.op_model.specs.Grants.{current_token}
use Rattle.op_model.specs.History.{asset_of_address}
use Rattle.op_model.specs.Incoming.{is_open}
use Rattle.op_model.specs.Legal.{IsNext, grant_verdict, name_of_address, name_of_row, amount_of, is_amount, passes}
use Rattle.op_model.specs.Metadata.{is_metadata}
use Rattle.op_model.specs.PaymentAnswers.{complete_incoming, looks_at_row, looks_at_address, incoming_place, make_incoming, is_strange_amount, incoming_refusals, pay_quote, looks_at_quote, is_paid}
use Rattle.op_model.specs.Payments.{incoming_row, quote_row}
use Rattle.op_model.specs.Steps.{is_incoming_due}
use Rattle.op_model.specs.declared.act.Act.{Act}
use Rattle.op_model.specs.declared.act.Act.TheVariants as acts
use Rattle.op_model.specs.declared.act.Entry.{Entry}
use Rattle.op_model.specs.declared.reply.Refusal.{Refusal}
use Rattle.op_model.specs.declared.reply.Refusal.TheVariants.{NotFound, AlreadyClosed, ZeroAmount, AssetMismatch, ExpiresInPast, QuoteUsed, QuoteExpired}
use Rattle.op_model.specs.declared.request.PaymentAsked.TheVariants.{Quoted}
use Rattle.op_model.specs.declared.request.Request.TheVariants as requests
use Rattle.op_model.specs.declared.row.IncomingRow.{IncomingRow}
use Rattle.op_model.specs.declared.row.QuoteRow.{QuoteRow}
use Rattle.op_names.specs.declared.Kind.TheVariants as kinds
use Rattle.op_legal.proofs.Chains.{act_in, outcome_act, none_is_not, some_is, past_step, past_want, past_refusal, within_refusal}
use Rattle.op_legal.proofs.Clients.{found_there}
use Rattle.op_legal.proofs.Names.{not_false, both_left, both_right}
use Rattle.op_legal.proofs.Values.{value_small}

-- ---- completed

pub record IsOpenThere (history : List Entry) (t i : ℕ) : Type 0 where
  pub row : IncomingRow
  pub there : incoming_row history i ≡ Some row
  pub opened : is_open history i row t ≡ true

opened_at : (history : List Entry) (t k i : ℕ) (row : IncomingRow) → k ≡ i → incoming_row history k ≡ Some row → is_open history k row t ≡ true → IsOpenThere history t i
opened_at history t k i row same there h =
    subst (λ n. IsOpenThere history t n) same (record { row = row; there = there; opened = h })

pub completed_fits : (history : List Entry) (t grant i : ℕ) → IsNext history (record { at = t; act = acts.IncomingCompleted grant i }) → IsOpenThere history t i
completed_fits history t grant i next =
    let act = acts.IncomingCompleted grant i in
    let verdict = grant_verdict history grant current_token in
    let request = requests.CompleteIncoming (Some i) in
    let made : act_in (complete_incoming history t (Some i) verdict) ≡ Some act = sym (outcome_act history t request verdict (act_for history t [] 0 request verdict)) ∙ next.act in
    let who = past_step (caller history t verdict) _ act made in
    let it = found (incoming_row history) (Some i) in
    let may = past_step (access history t verdict who.0 (looks_at_row history actions.incoming_payment actions.complete 0 (option_map (λ (x : Found IncomingRow). incoming_place x.row) it))) _ act who.2 in
    let there = past_want it NotFound _ act may.2 in
    let past = past_refusal (not (is_open history there.0.number there.0.row t)) AlreadyClosed (λ _. Ok (Some (acts.IncomingCompleted who.0.grant there.0.number))) act there.2 in
    let at = found_there (incoming_row history) (Some i) there.0 there.1 in
    let same : i ≡ there.0.number = some_is i there.0.number at.0 in
    opened_at history t there.0.number i there.0.row (sym same) at.1 (not_false (is_open history there.0.number there.0.row t) past.0)

-- ---- expired

noted_where : (history : List Entry) (b : Bool) (made act : Act) → (noted_outcome history b made).act ≡ Some act → b ≡ true
noted_where history true made act h = refl
noted_where history false made act h = none_is_not act h

pub expired_fits : (history : List Entry) (t i : ℕ) → IsNext history (record { at = t; act = acts.IncomingExpired i }) → is_incoming_due history i t ≡ true
expired_fits history t i next = noted_where history (is_incoming_due history i t) (acts.IncomingExpired i) (acts.IncomingExpired i) next.act

-- ---- made

pub record IsIncomingFit (t : ℕ) (amount : Option ℕ) (expiry : ℕ) (metadata : Option (List ℕ)) : Type 0 where
  pub some : amount ≢ Some 0
  pub later : t < expiry
  pub top : IfSome amount (λ a. a ≤ TOP)
  pub formed : passes is_metadata metadata ≡ true

zero_not : (asset : _) (amount : Option ℕ) → option_map_or (λ (a : Amount). a.value == 0) (option_map (amount_of asset) amount) false ≡ false → amount ≢ Some 0
zero_not asset None h = λ e. cc
zero_not asset (Some zero) h = absurd (let e : true ≡ false = h in cc)
zero_not asset (Some (suc n)) h = λ e. let f : suc n ≡ 0 = some_is (suc n) 0 e in omega (arith, f)

top_of : (asset : _) (amount : Option ℕ) → passes is_amount (option_map (amount_of asset) amount) ≡ true → IfSome amount (λ a. a ≤ TOP)
top_of asset None h = tt
top_of asset (Some v) h = value_small (amount_of asset v) h

refusal_not : (b : Bool) (refusal : Refusal) (x : Unit {0}) → refuse_if b refusal ≡ Ok x → b ≡ false
refusal_not true refusal x h = absurd (let e : Err refusal ≡ Ok x = h in cc)
refusal_not false refusal x h = refl

below : (t expiry : ℕ) → nat_le expiry t ≡ false → t < expiry
below t expiry h = grind (arith, nat_tests)

pub incoming_fits : (history : List Entry) (t grant address : ℕ) (amount : Option ℕ) (expiry : ℕ) (metadata : Option (List ℕ)) → IsNext history (record { at = t; act = acts.IncomingMade grant address amount expiry metadata }) → IsIncomingFit t amount expiry metadata
incoming_fits history t grant address amount expiry metadata next =
    let act = acts.IncomingMade grant address amount expiry metadata in
    let verdict = grant_verdict history grant current_token in
    let name = Some (name_of_address history address) in
    let asset = asset_of_address history address in
    let asked = option_map (amount_of asset) amount in
    let request = requests.MakeIncoming name asked (Some expiry) metadata in
    let made : act_in (make_incoming history t name asked (Some expiry) metadata verdict) ≡ Some act = sym (outcome_act history t request verdict (act_for history t [] 0 request verdict)) ∙ next.act in
    let who = past_step (caller history t verdict) _ act made in
    let may = past_step (access history t verdict who.0 (looks_at_address actions.incoming_payment actions.create (address_named history name))) _ act who.2 in
    let there = past_want (address_named history name) NotFound _ act may.2 in
    let known = past_refusal (option_map_or (is_strange_amount history) asked false) NotFound _ act there.2 in
    let act_is : Act = acts.IncomingMade who.0.grant there.0 (option_map (λ a. a.value) asked) expiry metadata in
    let past = past_step (incoming_refusals t (asset_of_address history there.0) asked expiry) (λ _. Ok (Some act_is)) act known.1 in
    let none = within_refusal (option_map_or (λ (a : Amount). a.value == 0) asked false) ZeroAmount _ past.0 past.1 in
    let same = within_refusal (option_map_or (λ (a : Amount). not (is_same_asset a.asset (asset_of_address history there.0))) asked false) AssetMismatch _ past.0 none.1 in
    let late = refusal_not (nat_le expiry t) ExpiresInPast past.0 same.1 in
    record {
      some = zero_not asset amount none.0;
      later = below t expiry late;
      top = top_of asset amount (both_left (passes is_amount asked) _ next.proper);
      formed = both_right _ (passes is_metadata metadata) (both_right (passes is_amount asked) _ next.proper);
    }

-- ---- a payment from a quote

pub record IsQuoteFit (history : List Entry) (t q : ℕ) : Type 0 where
  pub row : QuoteRow
  pub there : quote_row history q ≡ Some row
  pub unpaid : is_paid history q ≡ false
  pub later : t < row.expiry

quote_at : (history : List Entry) (t k q : ℕ) (row : QuoteRow) → k ≡ q → quote_row history k ≡ Some row → is_paid history k ≡ false → t < row.expiry → IsQuoteFit history t q
quote_at history t k q row same there unpaid later =
    subst (λ n. IsQuoteFit history t n) same (record { row = row; there = there; unpaid = unpaid; later = later })

pub quote_fits : (history : List Entry) (t grant q : ℕ) (metadata : Option (List ℕ)) → IsNext history (record { at = t; act = acts.OutgoingMade grant q metadata }) → IsQuoteFit history t q
quote_fits history t grant q metadata next =
    let act = acts.OutgoingMade grant q metadata in
    let verdict = grant_verdict history grant current_token in
    let name = option_map (λ (row : QuoteRow). name_of_address history row.terms.payer) (quote_row history q) in
    let quote = Some (name_of_row history kinds.Quote q) in
    let request = requests.MakeOutgoing name (Quoted quote) metadata in
    let made : act_in (pay_quote history t name quote metadata verdict) ≡ Some act = sym (outcome_act history t request verdict (act_for history t [] 0 request verdict)) ∙ next.act in
    let who = past_step (caller history t verdict) _ act made in
    let address = address_named history name in
    let quoted = found (quote_row history) (row_named history kinds.Quote quote) in
    let may = past_step (access history t verdict who.0 (looks_at_quote history address quoted)) _ act who.2 in
    let there = past_want address NotFound _ act may.2 in
    let row = past_want quoted NotFound _ act there.2 in
    let payer = past_refusal (not (row.0.row.terms.payer == there.0)) NotFound _ act row.2 in
    let unpaid = past_refusal (is_paid history row.0.number) QuoteUsed _ act payer.1 in
    let past = past_refusal (nat_le row.0.row.expiry t) QuoteExpired (λ _. Ok (Some (acts.OutgoingMade who.0.grant row.0.number metadata))) act unpaid.1 in
    let is : acts.OutgoingMade who.0.grant row.0.number metadata ≡ acts.OutgoingMade grant q metadata = some_is (acts.OutgoingMade who.0.grant row.0.number metadata) act past.1 in
    let same : row.0.number ≡ q = cc in
    quote_at history t row.0.number q row.0.row same (found_there (quote_row history) (row_named history kinds.Quote quote) row.0 row.1).1 unpaid.0 (below t row.0.row.expiry past.0)

-- ---- metadata

pub payment_formed : (history : List Entry) (t grant q : ℕ) (metadata : Option (List ℕ)) → IsNext history (record { at = t; act = acts.OutgoingMade grant q metadata }) → passes is_metadata metadata ≡ true
payment_formed history t grant q metadata next = both_right true (passes is_metadata metadata) next.proper

pub direct_formed : (history : List Entry) (t grant address incoming debit source fee receive num den : ℕ) (metadata : Option (List ℕ)) → IsNext history (record { at = t; act = acts.OutgoingDirect grant address incoming debit source fee receive num den metadata }) → passes is_metadata metadata ≡ true
direct_formed history t grant address incoming debit source fee receive num den metadata next = both_right _ (passes is_metadata metadata) next.proper
