-- What an act names is there.
use Rattle.std.proofs.Common.{◌≡◌, ℕ, Bool, true, false, cond, ◌&&◌, ◌||◌, List, [], ◌∷◌, length, refl, ◌∙◌, sym, ap, subst, Some, None, Option, is_some}
use Rattle.std.specs.Prelude.{◌==◌, not, nat_le, Ok, is_none, IfSome}
use Rattle.std.specs.List.{AllByRecursion, list_any}
use Rattle.std.specs.Option.{option_map, option_map_or, option_and_then}
use Rattle.std.specs.Str.{bytes_eq}
use Rattle.std.specs.declared.result.Result.{Result}
use Rattle.op_amount.specs.Asset.{is_same_asset}
use Rattle.op_amount.specs.declared.Amount.{Amount}
use Rattle.op_amount.specs.declared.Asset.{Asset}
use Rattle.op_amount.specs.declared.Priced.{Priced}
use Rattle.op_amount.specs.declared.Rate.{Rate}
use Rattle.op_names.specs.declared.AddressName.{AddressName}
use Rattle.op_names.specs.declared.Kind.TheVariants as kinds
use Rattle.op_names.specs.declared.RowName.{RowName}
use Rattle.op_model.specs.Access.{is_same_client}
use Rattle.op_model.specs.Actions as actions
use Rattle.op_model.specs.AdminAnswers as admin
use Rattle.op_model.specs.AdminAnswers.{account_named, account_meant, transfer_act}
use Rattle.op_model.specs.Answer.{act_for}
use Rattle.op_model.specs.Asking.{Caller, caller, access, address_named, row_named, own_grant, is_own, caller_with, Found, found}
use Rattle.op_model.specs.Events.{event_row, is_event_due}
use Rattle.op_model.specs.GrantAnswers.{ask_grant, items_asked, limits_asked, cap_asked, address_asked, receiver_asked, receiver_there, is_strange, has_strange_limits, is_strange_item, is_redirect, grant_act, decide, continue_grant, continuation_refusals, holds_continuation, is_pending, is_issued, cancel_grant, change_token}
use Rattle.op_model.specs.Grants.{grant_row, is_outgoing, is_secret, is_cancelled, current_token}
use Rattle.op_model.specs.History.{AssetRow, AddressRow, origins, assets, asset_number, addresses, path_number, origin_of, asset_of_address}
use Rattle.op_model.specs.Incoming.{is_open}
use Rattle.op_model.specs.Legal.{asked_by, word_of, fee_of, IsNext, is_outcome}
use Rattle.op_model.specs.PaymentAnswers.{QuotePricing, make_incoming, complete_incoming, make_quote, quote_pricing, pricing_of, priced, quote_act, pay_quote, pay_directly, direct_price, direct_act, looks_at_address, looks_at_row, looks_at_quote, looks_at_direct, is_strange_amount, is_strange_asked, is_rest, fits_assets, pair_of, mode_kind, receiver_named, rate_to, incoming_refusals, expiry_of, incoming_place, quote_place, outgoing_place, is_paid}
use Rattle.op_model.specs.Payments.{incoming_row, quote_row, outgoing_row, is_ended}
use Rattle.op_model.specs.Steps.{step_act, is_incoming_due}
use Rattle.op_model.specs.declared.act.Account.{Account}
use Rattle.op_model.specs.declared.act.Account.TheVariants.{Pool, Fees, Wallet}
use Rattle.op_model.specs.declared.act.Act.{Act}
use Rattle.op_model.specs.declared.act.Act.TheVariants as acts
use Rattle.op_model.specs.declared.act.Entry.{Entry}
use Rattle.op_model.specs.declared.act.FailReason.TheVariants.{Cancelled}
use Rattle.op_model.specs.declared.grant.Interact.{Interact}
use Rattle.op_model.specs.declared.grant.Cap.{Cap}
use Rattle.op_model.specs.declared.reply.Refusal.{Refusal}
use Rattle.op_model.specs.declared.reply.Refusal.TheVariants.{NotFound, AssetMismatch, AlreadyExists, OriginFixed, AlreadyClosed, AlreadyEnded, SameAsset, InvalidClient, InvalidToken, InvalidContinuation, InvalidInteraction, RequestDenied, NotPending, QuoteUsed, QuoteExpired, ReceiverClosed, NoAmount, NoRate}
use Rattle.op_model.specs.declared.reply.StepAnswer.{StepAnswer}
use Rattle.op_model.specs.declared.reply.StepAnswer.TheVariants as answers
use Rattle.op_model.specs.declared.request.AccountName.{AccountName}
use Rattle.op_model.specs.declared.request.AccountName.TheVariants as names
use Rattle.op_model.specs.declared.request.AskedCap.{AskedCap}
use Rattle.op_model.specs.declared.request.AskedItem.{AskedItem}
use Rattle.op_model.specs.declared.request.AskedLimits.{AskedLimits}
use Rattle.op_model.specs.declared.request.PaymentAsked.TheVariants.{Quoted, Direct}
use Rattle.op_model.specs.declared.request.QuoteAsked.{QuoteAsked}
use Rattle.op_model.specs.declared.request.Request.{Request}
use Rattle.op_model.specs.declared.request.Request.TheVariants as requests
use Rattle.op_model.specs.declared.request.Task.TheVariants.{Ask, Step, Expire, Attempt}
use Rattle.op_model.specs.declared.request.Verdict.{Verdict}
use Rattle.op_model.specs.declared.row.IncomingRow.{IncomingRow}
use Rattle.op_model.proofs.LegalNext.{legal_from-split}
use Rattle.op_legal.specs.Numbers.{HasAsset, HasAddress, HasIncoming, HasQuote, HasOutgoing, HasGrant, HasAccount, LimitsNameMade, ItemNamesMade, NamesMade, AnswersNameMade, EntriesNameMade}
use Rattle.op_legal.proofs.Admin.{new_transfer_of}
use Rattle.op_legal.proofs.Callers.{caller_is}
use Rattle.op_legal.proofs.Chains.{act_in, outcome_act, none_is_not, some_is, past_refusal, past_want, past_step, within_want, within_refusal, within_step, ok_is}
use Rattle.op_legal.proofs.Clients.{found_there}
use Rattle.op_legal.proofs.Names.{both_left, number_found}
use Rattle.op_legal.proofs.Readings.{reads_asset, reads_address, shows_address, reads_payment, lists_rows, reads_row}
use Rattle.op_legal.proofs.Tasks.{step_taken, noted_act}
use Rattle.op_legal.proofs.Tokens.{caller_found}

-- ---- names that were found

pub asset_there : (history : List Entry) (asset : Asset) (n : ℕ) → asset_number history asset ≡ Some n → HasAsset history n
asset_there history asset n h = ap is_some (number_found (λ (row : AssetRow). is_same_asset row.asset asset) (assets history) n h).there

path_there : (history : List Entry) (path : List ℕ) (n : ℕ) → path_number history path ≡ Some n → HasAddress history n
path_there history path n h = ap is_some (number_found (λ (row : AddressRow). bytes_eq row.path path) (addresses history) n h).there

under_where : (history : List Entry) (name : AddressName) (n : ℕ) (b : Bool) → cond b (path_number history name.path) None ≡ Some n → HasAddress history n
under_where history name n true h = path_there history name.path n h
under_where history name n false h = none_is_not n h

pub address_there : (history : List Entry) (name : Option AddressName) (n : ℕ) → address_named history name ≡ Some n → HasAddress history n
address_there history None n h = none_is_not n h
address_there history (Some name) n h = under_where history name n (bytes_eq name.origin (origin_of history)) h

pub receiver_is_there : (history : List Entry) (receiver : Option RowName) (it : Found IncomingRow) → receiver_named history receiver ≡ Some it → HasIncoming history it.number
receiver_is_there history receiver it h = ap is_some (found_there (incoming_row history) (row_named history kinds.Incoming receiver) it h).1

grant_there : (history : List Entry) (t : ℕ) (verdict : Verdict) (who : Caller) → caller history t verdict ≡ Ok who → HasGrant history who.grant
grant_there history t verdict who h = ap is_some (caller_is history t verdict who h).row

made_there : (history : List Entry) (make : ℕ → Account) (found : Option ℕ) (account : Account) → ((n : ℕ) → found ≡ Some n → HasAccount history (make n)) → option_map make found ≡ Some account → HasAccount history account
made_there history make None account each h = none_is_not account h
made_there history make (Some n) account each h = subst (HasAccount history) (some_is (make n) account h) (each n refl)

account_there : (history : List Entry) (name : AccountName) (asset : Asset) (account : Account) → account_named history name asset ≡ Some account → HasAccount history account
account_there history names.Pool asset account h = made_there history Pool (asset_number history asset) account (λ n is. asset_there history asset n is) h
account_there history names.Fees asset account h = made_there history Fees (asset_number history asset) account (λ n is. asset_there history asset n is) h
account_there history (names.Address name) asset account h = made_there history Wallet (address_named history name) account (λ n is. address_there history name n is) h

meant_there : (history : List Entry) (deposit : Bool) (name : AccountName) (asset : Asset) (account : Account) → account_meant history deposit name asset ≡ Some account → HasAccount history account
meant_there history true names.Fees asset account h = none_is_not account h
meant_there history true names.Pool asset account h = account_there history names.Pool asset account h
meant_there history true (names.Address name) asset account h = account_there history (names.Address name) asset account h
meant_there history false name asset account h = account_there history name asset account h

-- ---- the provider's acts

pub adds_address : (Q : Act → Type 0) (history : List Entry) (path : List ℕ) (asset : Asset) (name : Option (List ℕ)) (act : Act) → ((n : ℕ) → HasAsset history n → Q (acts.AddressAdded path n name)) → act_in (admin.add_address history path asset name) ≡ Some act → Q act
adds_address Q history path asset name act each made =
    let want = past_want (asset_number history asset) NotFound _ act made in
    let past = past_refusal (is_some (path_number history path)) AlreadyExists (λ _. Ok (Some (acts.AddressAdded path want.0 name))) act want.2 in
    subst Q (some_is (acts.AddressAdded path want.0 name) act past.1) (each want.0 (asset_there history asset want.0 want.1))

sets_rate : (history : List Entry) (source target : Asset) (rate : Rate) (act : Act) → act_in (admin.set_rate history source target rate) ≡ Some act → NamesMade history act
sets_rate history source target rate act made =
    let one = past_want (asset_number history source) NotFound _ act made in
    let two = past_want (asset_number history target) NotFound _ act one.2 in
    let past = past_refusal (one.0 == two.0) SameAsset (λ _. Ok (Some (acts.RateSet one.0 two.0 rate.num rate.den))) act two.2 in
    subst (NamesMade history) (some_is (acts.RateSet one.0 two.0 rate.num rate.den) act past.1) (asset_there history source one.0 one.1, asset_there history target two.0 two.1)

transferred : (history : List Entry) (deposit : Bool) (id : List ℕ) (account : Account) (value : ℕ) → HasAccount history account → NamesMade history (transfer_act deposit id account value)
transferred history true id account value h = h
transferred history false id account value h = h

pub moves_money : (Q : Act → Type 0) (history : List Entry) (deposit : Bool) (id : List ℕ) (name : AccountName) (amount : Amount) (act : Act) → ((account : Account) → account_meant history deposit name amount.asset ≡ Some account → Q (transfer_act deposit id account amount.value)) → act_in (admin.move_money history deposit id name amount) ≡ Some act → Q act
moves_money Q history deposit id name amount act each made =
    let new = new_transfer_of history deposit id name amount act made in
    subst Q (sym new.is) (each new.account new.meant)

-- a number whose row is there, of which an act is made
made_of : (P : ℕ → Type 0) (Q : Act → Type 0) (make : ℕ → Act) (n : Option ℕ) (act : Act) → ((k : ℕ) → n ≡ Some k → Q (make k)) → option_map make n ≡ Some act → Q act
made_of P Q make None act each h = none_is_not act h
made_of P Q make (Some k) act each h = subst Q (some_is (make k) act h) (each k refl)

row_at : {X : Type 0} (rows : ℕ → Option X) (n : Option ℕ) (k : ℕ) (row : X) → option_and_then rows n ≡ Some row → n ≡ Some k → is_some (rows k) ≡ true
row_at rows n k row there is = ap is_some (ap (option_and_then rows) (sym is) ∙ there)

decides : (history : List Entry) (make : ℕ → Act) (g : Option ℕ) (act : Act) → ((k : ℕ) → HasGrant history k → NamesMade history (make k)) → act_in (decide history make g) ≡ Some act → NamesMade history act
decides history make g act each made =
    let row = past_want (option_and_then (grant_row history) g) NotFound _ act made in
    let past = past_refusal (not (is_pending row.0.state)) NotPending (λ _. Ok (option_map make g)) act row.2 in
    made_of (HasGrant history) (NamesMade history) make g act (λ k is. each k (row_at (grant_row history) g k row.0 row.1 is)) past.1

cancels_payment : (history : List Entry) (p : Option ℕ) (act : Act) → act_in (admin.cancel_outgoing history p) ≡ Some act → NamesMade history act
cancels_payment history p act made =
    let row = past_want (option_and_then (outgoing_row history) p) NotFound _ act made in
    let past = past_refusal (is_ended row.0.state) AlreadyEnded (λ _. Ok (option_map (λ n. acts.OutgoingFailed n row.0.step Cancelled) p)) act row.2 in
    made_of (HasOutgoing history) (NamesMade history) (λ n. acts.OutgoingFailed n row.0.step Cancelled) p act (λ k is. row_at (outgoing_row history) p k row.0 row.1 is) past.1

-- ---- a client's acts on a grant of its own

own_there : (history : List Entry) (verdict : Verdict) (g : Option ℕ) (refusal : Refusal) (who : Caller) → own_grant history verdict g refusal ≡ Ok who → HasGrant history who.grant
own_there history verdict g refusal who h =
    let there = within_want (caller_with history g) refusal _ who h in
    let own = within_refusal (not (is_own verdict there.0.row)) refusal (λ _. let ok : Result Caller Refusal = Ok there.0 in ok) who there.2 in
    let same : there.0 ≡ who = ok_is there.0 who own.1 in
    subst (λ (c : Caller). HasGrant history c.grant) same (ap is_some (caller_found history g there.0 there.1).1)

changes_token : (history : List Entry) (make : ℕ → Act) (g : Option ℕ) (verdict : Verdict) (act : Act) → ((k : ℕ) → HasGrant history k → NamesMade history (make k)) → act_in (change_token history make g verdict) ≡ Some act → NamesMade history act
changes_token history make g verdict act each made =
    let proof = past_refusal (not (verdict.proved && is_some verdict.client)) InvalidClient _ act made in
    let who = past_step (own_grant history verdict g InvalidToken) _ act proof.1 in
    let token = past_refusal (not (option_map_or (is_secret (current_token who.0.row)) verdict.token false)) InvalidToken (λ _. Ok (Some (make who.0.grant))) act who.2 in
    subst (NamesMade history) (some_is (make who.0.grant) act token.1) (each who.0.grant (own_there history verdict g InvalidToken who.0 who.1))

cancels_grant : (history : List Entry) (g : Option ℕ) (verdict : Verdict) (act : Act) → act_in (cancel_grant history g verdict) ≡ Some act → NamesMade history act
cancels_grant history g verdict act made =
    let proof = past_refusal (not (verdict.proved && is_some verdict.client)) InvalidClient _ act made in
    let who = past_step (own_grant history verdict g InvalidContinuation) _ act proof.1 in
    let past = past_refusal (is_cancelled who.0.row.state || not (holds_continuation verdict who.0.row)) InvalidContinuation (λ _. Ok (Some (acts.GrantCancelled who.0.grant))) act who.2 in
    subst (NamesMade history) (some_is (acts.GrantCancelled who.0.grant) act past.1) (own_there history verdict g InvalidContinuation who.0 who.1)

polled_or_issued : (history : List Entry) (b : Bool) (g : ℕ) (word : List ℕ) → HasGrant history g → NamesMade history (cond b (acts.GrantPolled g) (acts.GrantContinued g word))
polled_or_issued history true g word h = h
polled_or_issued history false g word h = h

continues : (history : List Entry) (t : ℕ) (word : List ℕ) (g : Option ℕ) (reference : Option (Option (List ℕ))) (verdict : Verdict) (act : Act) → act_in (continue_grant history t word g reference verdict) ≡ Some act → NamesMade history act
continues history t word g reference verdict act made =
    let proof = past_refusal (not (verdict.proved && is_some verdict.client)) InvalidClient _ act made in
    let who = past_step (own_grant history verdict g InvalidContinuation) _ act proof.1 in
    let row = who.0.row in
    let held = past_refusal (is_cancelled row.state || (is_issued row.state || not (holds_continuation verdict row))) InvalidContinuation _ act who.2 in
    let act_is : Act = cond (is_pending row.state) (acts.GrantPolled who.0.grant) (acts.GrantContinued who.0.grant word) in
    let past = past_step (continuation_refusals t row reference) (λ _. Ok (Some act_is)) act held.1 in
    subst (NamesMade history) (some_is act_is act past.2) (polled_or_issued history (is_pending row.state) who.0.grant word (own_there history verdict g InvalidContinuation who.0 who.1))

-- ---- what is asked for under a grant that is to be made

either_false : (a b : Bool) → (a || b) ≡ false → (a ≡ false) × (b ≡ false)
either_false true b h = absurd (let e : true ≡ false = h in cc)
either_false false b h = (refl, h)

identifier_where : (history : List Entry) (name : Option AddressName) (found : Option ℕ) → address_named history name ≡ found → IfSome found (HasAddress history)
identifier_where history name None is = tt
identifier_where history name (Some n) is = address_there history name n is

identifier_made : (history : List Entry) (name : Option (Option AddressName)) → IfSome (address_asked history name) (HasAddress history)
identifier_made history None = tt
identifier_made history (Some name) = identifier_where history name (address_named history name) refl

there_where : (history : List Entry) (n : ℕ) (row : Option IncomingRow) → is_none (option_map (λ (r : IncomingRow). n) row) ≡ false → is_some row ≡ true
there_where history n None h = absurd (let e : true ≡ false = h in cc)
there_where history n (Some r) h = refl

receiver_where : (history : List Entry) (found : Option ℕ) → is_none (option_and_then (λ i. option_map (λ row. i) (incoming_row history i)) found) ≡ false → IfSome found (HasIncoming history)
receiver_where history None h = tt
receiver_where history (Some n) h = there_where history n (incoming_row history n) h

receiver_made : (history : List Entry) (name : Option (Option RowName)) → is_strange name (receiver_there history name) ≡ false → IfSome (receiver_asked history name) (HasIncoming history)
receiver_made history None h = tt
receiver_made history (Some name) h = receiver_where history (row_named history kinds.Incoming name) h

cap_where : (history : List Entry) (cap : AskedCap) (found : Option ℕ) → asset_number history cap.amount.asset ≡ found
    → IfSome (option_map (λ n. let c : Cap = record { debit = cap.debit; sum = record { asset = n; value = cap.amount.value } } in c) found) (λ c. HasAsset history c.sum.asset)
cap_where history cap None is = tt
cap_where history cap (Some n) is = asset_there history cap.amount.asset n is

cap_made : (history : List Entry) (cap : Option AskedCap) → IfSome (option_and_then (cap_asked history) cap) (λ c. HasAsset history c.sum.asset)
cap_made history None = tt
cap_made history (Some cap) = cap_where history cap (asset_number history cap.amount.asset) refl

limits_made : (history : List Entry) (limits : Option AskedLimits) → option_map_or (has_strange_limits history) limits false ≡ false → IfSome (option_map (limits_asked history) limits) (LimitsNameMade history)
limits_made history None h = tt
limits_made history (Some l) h =
    let parts = either_false (is_strange l.receiver (receiver_there history l.receiver)) (option_map_or (λ cap. is_none (cap_asked history cap)) l.cap false) h in
    record { receiver = receiver_made history l.receiver parts.0; cap = cap_made history l.cap }

items_made : (history : List Entry) (items : List AskedItem) → list_any (is_strange_item history) items ≡ false → AllByRecursion (ItemNamesMade history) (items_asked history items)
items_made history [] h = tt
items_made history (x ∷ xs) h =
    let parts = either_false (is_strange_item history x) (list_any (is_strange_item history) xs) h in
    let own = either_false (is_strange x.identifier (address_asked history x.identifier)) (option_map_or (has_strange_limits history) x.limits false) parts.0 in
    (record { identifier = identifier_made history x.identifier; limits = limits_made history x.limits own.1 }, items_made history xs parts.1)

pub asks_grant : (Q : Act → Type 0) (history : List Entry) (word : List ℕ) (asked : List AskedItem) (client : Option (List ℕ)) (interact : Interact) (verdict : Verdict) (act : Act) → ((name : List ℕ) → list_any (is_strange_item history) asked ≡ false → Q (grant_act (items_asked history asked) interact word name)) → act_in (ask_grant history word asked client interact verdict) ≡ Some act → Q act
asks_grant Q history word asked client interact verdict act each made =
    let items = items_asked history asked in
    let proof = past_refusal (not (verdict.proved && is_some verdict.client)) InvalidClient _ act made in
    let name = past_want client InvalidClient _ act proof.1 in
    let own = past_refusal (not (is_same_client verdict.client name.0)) InvalidClient _ act name.2 in
    let passing = past_refusal (list_any is_outgoing items && not (is_redirect interact)) InvalidInteraction _ act own.1 in
    let known = past_refusal (list_any (is_strange_item history) asked) RequestDenied (λ _. Ok (Some (grant_act items interact word name.0))) act passing.1 in
    subst Q (some_is (grant_act items interact word name.0) act known.1) (each name.0 known.0)

-- ---- payments

pub makes_incoming : (Q : Act → Type 0) (history : List Entry) (t : ℕ) (name : Option AddressName) (amount : Option Amount) (expiry : Option ℕ) (metadata : Option (List ℕ)) (verdict : Verdict) (act : Act) → ((g n : ℕ) (value : Option ℕ) (ends : ℕ) → HasGrant history g → HasAddress history n → Q (acts.IncomingMade g n value ends metadata)) → act_in (make_incoming history t name amount expiry metadata verdict) ≡ Some act → Q act
makes_incoming Q history t name amount expiry metadata verdict act each made =
    let who = past_step (caller history t verdict) _ act made in
    let address = address_named history name in
    let may = past_step (access history t verdict who.0 (looks_at_address actions.incoming_payment actions.create address)) _ act who.2 in
    let there = past_want address NotFound _ act may.2 in
    let known = past_refusal (option_map_or (is_strange_amount history) amount false) NotFound _ act there.2 in
    let act_is : Act = acts.IncomingMade who.0.grant there.0 (option_map (λ a. a.value) amount) (expiry_of t expiry) metadata in
    let past = past_step (incoming_refusals t (asset_of_address history there.0) amount (expiry_of t expiry)) (λ _. Ok (Some act_is)) act known.1 in
    subst Q (some_is act_is act past.2) (each who.0.grant there.0 (option_map (λ a. a.value) amount) (expiry_of t expiry) (grant_there history t verdict who.0 who.1) (address_there history name there.0 there.1))

pub completes_incoming : (Q : Act → Type 0) (history : List Entry) (t : ℕ) (incoming : Option ℕ) (verdict : Verdict) (act : Act) → ((g i : ℕ) → HasGrant history g → incoming ≡ Some i → HasIncoming history i → Q (acts.IncomingCompleted g i)) → act_in (complete_incoming history t incoming verdict) ≡ Some act → Q act
completes_incoming Q history t incoming verdict act each made =
    let who = past_step (caller history t verdict) _ act made in
    let it = found (incoming_row history) incoming in
    let may = past_step (access history t verdict who.0 (looks_at_row history actions.incoming_payment actions.complete 0 (option_map (λ (x : Found IncomingRow). incoming_place x.row) it))) _ act who.2 in
    let there = past_want it NotFound _ act may.2 in
    let past = past_refusal (not (is_open history there.0.number there.0.row t)) AlreadyClosed (λ _. Ok (Some (acts.IncomingCompleted who.0.grant there.0.number))) act there.2 in
    let at = found_there (incoming_row history) incoming there.0 there.1 in
    subst Q (some_is (acts.IncomingCompleted who.0.grant there.0.number) act past.1) (each who.0.grant there.0.number (grant_there history t verdict who.0 who.1) at.0 (ap is_some at.1))

-- what a quote's price begins with
pub record QuotesMade (history : List Entry) (q : QuotePricing) : Type 0 where
  pub grant : HasGrant history q.grant
  pub address : HasAddress history q.address
  pub incoming : HasIncoming history q.incoming

pub quotes_made : (history : List Entry) (t : ℕ) (name : Option AddressName) (receiver : Option RowName) (asked : QuoteAsked) (verdict : Verdict) (q : QuotePricing) → quote_pricing history t name receiver asked verdict ≡ Ok q → QuotesMade history q
quotes_made history t name receiver asked verdict q h =
    let who = within_step (caller history t verdict) _ q h in
    let address = address_named history name in
    let may = within_step (access history t verdict who.0 (looks_at_address actions.quote actions.create address)) _ q who.2 in
    let there = within_want address NotFound _ q may.2 in
    let n = there.0 in
    let named = within_want (receiver_named history receiver) NotFound _ q there.2 in
    let it = named.0 in
    let known = within_refusal (is_strange_asked history asked) NotFound _ q named.2 in
    let opened = within_refusal (not (is_open history it.number it.row t)) ReceiverClosed _ q known.1 in
    let some = within_refusal (is_rest asked && is_none it.row.amount) NoAmount _ q opened.1 in
    let fits = within_refusal (not (fits_assets asked (pair_of history n it.row.address))) AssetMismatch _ q some.1 in
    let rate = within_want (rate_to history n it.row) NoRate _ q fits.1 in
    let made : QuotePricing = record { grant = who.0.grant; address = n; incoming = it.number; kind = mode_kind asked; pricing = pricing_of history n it asked rate.0 } in
    subst (QuotesMade history) (ok_is made q rate.2)
    (record { grant = grant_there history t verdict who.0 who.1; address = address_there history name n there.1; incoming = receiver_is_there history receiver it named.1 })

pub makes_quote : (Q : Act → Type 0) (history : List Entry) (t fee : ℕ) (name : Option AddressName) (receiver : Option RowName) (asked : QuoteAsked) (verdict : Verdict) (act : Act) → ((q : QuotePricing) (price : Priced) → quote_pricing history t name receiver asked verdict ≡ Ok q → priced fee q.pricing ≡ Ok price → Q (quote_act q price)) → act_in (make_quote history t fee name receiver asked verdict) ≡ Some act → Q act
makes_quote Q history t fee name receiver asked verdict act each made =
    let q = past_step (quote_pricing history t name receiver asked verdict) _ act made in
    let price = past_step (priced fee q.0.pricing) (λ (x : Priced). Ok (Some (quote_act q.0 x))) act q.2 in
    subst Q (some_is (quote_act q.0 price.0) act price.2) (each q.0 price.0 q.1 price.1)

pub pays_quote : (Q : Act → Type 0) (history : List Entry) (t : ℕ) (name : Option AddressName) (quote : Option RowName) (metadata : Option (List ℕ)) (verdict : Verdict) (act : Act) → ((g q : ℕ) → HasGrant history g → HasQuote history q → Q (acts.OutgoingMade g q metadata)) → act_in (pay_quote history t name quote metadata verdict) ≡ Some act → Q act
pays_quote Q history t name quote metadata verdict act each made =
    let who = past_step (caller history t verdict) _ act made in
    let address = address_named history name in
    let quoted = found (quote_row history) (row_named history kinds.Quote quote) in
    let may = past_step (access history t verdict who.0 (looks_at_quote history address quoted)) _ act who.2 in
    let there = past_want address NotFound _ act may.2 in
    let row = past_want quoted NotFound _ act there.2 in
    let payer = past_refusal (not (row.0.row.terms.payer == there.0)) NotFound _ act row.2 in
    let unpaid = past_refusal (is_paid history row.0.number) QuoteUsed _ act payer.1 in
    let past = past_refusal (nat_le row.0.row.expiry t) QuoteExpired (λ _. Ok (Some (acts.OutgoingMade who.0.grant row.0.number metadata))) act unpaid.1 in
    subst Q (some_is (acts.OutgoingMade who.0.grant row.0.number metadata) act past.1)
    (each who.0.grant row.0.number (grant_there history t verdict who.0 who.1) (ap is_some (found_there (quote_row history) (row_named history kinds.Quote quote) row.0 row.1).1))

pub pays_directly : (Q : Act → Type 0) (history : List Entry) (t fee : ℕ) (name : Option AddressName) (receiver : Option RowName) (debit : Amount) (metadata : Option (List ℕ)) (verdict : Verdict) (act : Act) → ((g n : ℕ) (it : Found IncomingRow) (price : Priced) → HasGrant history g → HasAddress history n → incoming_row history it.number ≡ Some it.row → direct_price history fee debit n it ≡ Ok price → Q (direct_act g n it.number price metadata)) → act_in (pay_directly history t fee name receiver debit metadata verdict) ≡ Some act → Q act
pays_directly Q history t fee name receiver debit metadata verdict act each made =
    let who = past_step (caller history t verdict) _ act made in
    let address = address_named history name in
    let incoming = receiver_named history receiver in
    let may = past_step (access history t verdict who.0 (looks_at_direct history fee debit address incoming)) _ act who.2 in
    let there = past_want address NotFound _ act may.2 in
    let named = past_want incoming NotFound _ act there.2 in
    let known = past_refusal (is_strange_amount history debit) NotFound _ act named.2 in
    let opened = past_refusal (not (is_open history named.0.number named.0.row t)) ReceiverClosed _ act known.1 in
    let price = past_step (direct_price history fee debit there.0 named.0) (λ (x : Priced). Ok (Some (direct_act who.0.grant there.0 named.0.number x metadata))) act opened.1 in
    subst Q (some_is (direct_act who.0.grant there.0 named.0.number price.0 metadata) act price.2)
    (each who.0.grant there.0 named.0 price.0 (grant_there history t verdict who.0 who.1) (address_there history name there.0 there.1) (found_there (incoming_row history) (row_named history kinds.Incoming receiver) named.0 named.1).1 price.1)

-- ---- all requests

request_names : (history : List Entry) (t : ℕ) (word : List ℕ) (fee : ℕ) (request : Request) (verdict : Verdict) (act : Act) → act_in (act_for history t word fee request verdict) ≡ Some act → NamesMade history act
request_names history t word fee (requests.SetOrigin origin) verdict act made =
    let past = past_refusal (not (length (origins history) == 0) || not (length (addresses history) == 0)) OriginFixed (λ _. Ok (Some (acts.OriginSet origin))) act made in
    subst (NamesMade history) (some_is (acts.OriginSet origin) act past.1) tt
request_names history t word fee (requests.AddAsset asset pieces) verdict act made =
    let past = past_refusal (is_some (asset_number history asset)) AlreadyExists (λ _. Ok (Some (acts.AssetAdded asset.code asset.scale pieces))) act made in
    subst (NamesMade history) (some_is (acts.AssetAdded asset.code asset.scale pieces) act past.1) tt
request_names history t word fee (requests.InspectAsset asset) verdict act made = reads_asset history asset act made
request_names history t word fee (requests.AddAddress path asset name) verdict act made = adds_address (NamesMade history) history path asset name act (λ n there. there) made
request_names history t word fee (requests.InspectAddress address) verdict act made = reads_address history address act made
request_names history t word fee (requests.Deposit id name amount) verdict act made =
    moves_money (NamesMade history) history true id name amount act (λ account meant. transferred history true id account amount.value (meant_there history true name amount.asset account meant)) made
request_names history t word fee (requests.Withdraw id name amount) verdict act made =
    moves_money (NamesMade history) history false id name amount act (λ account meant. transferred history false id account amount.value (meant_there history false name amount.asset account meant)) made
request_names history t word fee (requests.SetRate source target rate) verdict act made = sets_rate history source target rate act made
request_names history t word fee (requests.AcceptGrant grant) verdict act made = decides history (λ g. acts.GrantAccepted g word) grant act (λ k h. h) made
request_names history t word fee (requests.RejectGrant grant) verdict act made = decides history (λ g. acts.GrantRejected g word) grant act (λ k h. h) made
request_names history t word fee (requests.InspectOutgoing payment) verdict act made = reads_payment history payment act made
request_names history t word fee (requests.CancelOutgoing payment) verdict act made = cancels_payment history payment act made
request_names history t word fee (requests.ReadAddress path) verdict act made = shows_address history path act made
request_names history t word fee (requests.AskGrant items client interact) verdict act made = asks_grant (NamesMade history) history word items client interact verdict act (λ name known. items_made history items known) made
request_names history t word fee (requests.ContinueGrant grant reference) verdict act made = continues history t word grant reference verdict act made
request_names history t word fee (requests.CancelGrant grant) verdict act made = cancels_grant history grant verdict act made
request_names history t word fee (requests.RotateToken grant) verdict act made = changes_token history (λ g. acts.TokenRotated g word) grant verdict act (λ k h. h) made
request_names history t word fee (requests.RevokeToken grant) verdict act made = changes_token history acts.TokenRevoked grant verdict act (λ k h. h) made
request_names history t word fee (requests.MakeIncoming address amount expiry metadata) verdict act made = makes_incoming (NamesMade history) history t address amount expiry metadata verdict act (λ g n value ends grant there. (grant, there)) made
request_names history t word fee (requests.ListIncomings address first cursor) verdict act made = lists_rows history t actions.incoming_payment address verdict act made
request_names history t word fee (requests.ReadIncoming incoming) verdict act made = reads_row history t actions.incoming_payment (option_map incoming_place (option_and_then (incoming_row history) incoming)) verdict act made
request_names history t word fee (requests.CompleteIncoming incoming) verdict act made = completes_incoming (NamesMade history) history t incoming verdict act (λ g i grant is there. (grant, there)) made
request_names history t word fee (requests.MakeQuote address receiver asked) verdict act made =
    makes_quote (NamesMade history) history t fee address receiver asked verdict act (λ q price is priced. let are = quotes_made history t address receiver asked verdict q is in (are.grant, are.address, are.incoming)) made
request_names history t word fee (requests.ReadQuote quote) verdict act made = reads_row history t actions.quote (option_map quote_place (option_and_then (quote_row history) quote)) verdict act made
request_names history t word fee (requests.MakeOutgoing address (Quoted quote) metadata) verdict act made = pays_quote (NamesMade history) history t address quote metadata verdict act (λ g q grant there. (grant, there)) made
request_names history t word fee (requests.MakeOutgoing address (Direct receiver debit) metadata) verdict act made =
    pays_directly (NamesMade history) history t fee address receiver debit metadata verdict act (λ g n it price grant there incoming is. (grant, there, ap is_some incoming)) made
request_names history t word fee (requests.ListOutgoings address first cursor) verdict act made = lists_rows history t actions.outgoing_payment address verdict act made
request_names history t word fee (requests.ReadOutgoing outgoing) verdict act made = reads_row history t actions.outgoing_payment (option_map outgoing_place (option_and_then (outgoing_row history) outgoing)) verdict act made
request_names history t word fee (requests.ReadFeed address page) verdict act made = lists_rows history t actions.outgoing_payment address verdict act made

-- ---- all tasks

step_names : (history : List Entry) (p k : ℕ) (answer : StepAnswer) (act : Act) → HasOutgoing history p → step_act p k answer ≡ Some act → NamesMade history act
step_names history p k answers.Funded act there is = subst (NamesMade history) (some_is (acts.OutgoingFunded p k) act is) there
step_names history p k answers.Sent act there is = subst (NamesMade history) (some_is (acts.OutgoingSent p k) act is) there
step_names history p k answers.Completed act there is = subst (NamesMade history) (some_is (acts.OutgoingCompleted p k) act is) there
step_names history p k (answers.Failed reason) act there is = subst (NamesMade history) (some_is (acts.OutgoingFailed p k reason) act is) there
step_names history p k (answers.Stale now) act there is = none_is_not act is
step_names history p k answers.Ended act there is = none_is_not act is
step_names history p k (answers.Waiting shortage) act there is = none_is_not act is

pub answer_names : AnswersNameMade
answer_names history t word fee (Ask request verdict) act proper made =
    request_names history t word fee request verdict act (sym (outcome_act history t request verdict (act_for history t word fee request verdict)) ∙ made)
answer_names history t word fee (Step payment k) act proper made =
    let taken = step_taken history t word fee payment k act made in step_names history payment k taken.0 act proper taken.1
answer_names history t word fee (Expire incoming) act proper made =
    subst (NamesMade history) (noted_act history (is_incoming_due history incoming t) (acts.IncomingExpired incoming) act made) proper
answer_names history t word fee (Attempt event outcome) act proper made =
    subst (NamesMade history) (noted_act history (is_event_due history event t) (acts.Attempted event outcome) act made) (both_left (is_some (event_row history event)) (is_outcome outcome) proper)

pub next_names : (history : List Entry) (e : Entry) → IsNext history e → NamesMade history e.act
next_names history e next = answer_names history e.at (word_of e.act) (fee_of e.act) (asked_by history e.act) e.act next.proper next.act

pub entries_name : EntriesNameMade
entries_name before e after legal = next_names before e (legal_from-split [] before (e ∷ after) legal).1.0
