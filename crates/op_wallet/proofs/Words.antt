-- The word that an act draws is its task's.
use Rattle.std.proofs.Common.{◌≡◌, ℕ, Bool, true, false, cond, ◌&&◌, ◌||◌, List, length, refl, sym, subst, Some, None, Option, is_some}
use Rattle.std.specs.Prelude.{◌==◌, not, Ok}
use Rattle.std.specs.Option.{option_map, option_map_or, option_and_then}
use Rattle.op_amount.specs.declared.Asset.{Asset}
use Rattle.op_amount.specs.declared.Rate.{Rate}
use Rattle.op_model.specs.Actions as actions
use Rattle.op_model.specs.AdminAnswers as admin
use Rattle.op_model.specs.AdminAnswers.{transfer_act}
use Rattle.op_model.specs.Answer.{act_for}
use Rattle.op_model.specs.Asking.{own_grant}
use Rattle.op_model.specs.GrantAnswers.{decide, continue_grant, continuation_refusals, holds_continuation, is_pending, is_issued, cancel_grant, change_token}
use Rattle.op_model.specs.Grants.{grant_row, is_secret, is_cancelled, current_token}
use Rattle.op_model.specs.History.{origins, asset_number, addresses}
use Rattle.op_model.specs.Legal.{word_of}
use Rattle.op_model.specs.PaymentAnswers.{incoming_place, quote_place, outgoing_place}
use Rattle.op_model.specs.Payments.{incoming_row, quote_row, outgoing_row, is_ended}
use Rattle.op_model.specs.declared.act.Account.{Account}
use Rattle.op_model.specs.declared.act.Act.{Act}
use Rattle.op_model.specs.declared.act.Act.TheVariants as acts
use Rattle.op_model.specs.declared.act.Entry.{Entry}
use Rattle.op_model.specs.declared.act.FailReason.TheVariants.{Cancelled}
use Rattle.op_model.specs.declared.reply.Refusal.TheVariants.{NotFound, AlreadyExists, OriginFixed, AlreadyEnded, SameAsset, InvalidClient, InvalidToken, InvalidContinuation, NotPending}
use Rattle.op_model.specs.declared.request.PaymentAsked.TheVariants.{Quoted, Direct}
use Rattle.op_model.specs.declared.request.Request.{Request}
use Rattle.op_model.specs.declared.request.Request.TheVariants as requests
use Rattle.op_model.specs.declared.request.Verdict.{Verdict}
use Rattle.op_legal.proofs.Chains.{act_in, none_is_not, some_is, past_refusal, past_want, past_step}
use Rattle.op_legal.proofs.Named.{adds_address, moves_money, asks_grant, makes_incoming, completes_incoming, makes_quote, pays_quote, pays_directly}
use Rattle.op_legal.proofs.Readings.{reads_asset, reads_address, shows_address, reads_payment, lists_rows, reads_row}
use Rattle.op_legal.specs.Records.{DrawsWord}
use Rattle.op_record.specs.Recordable.{IsWord}
use Rattle.op_granting.specs.Drawn.{draws_word}

abbrev pub Draws : List ℕ → Act → Type 0
Draws word act = draws_word act ≡ true → word_of act ≡ word

no_word : {P : Type 0} → false ≡ true → P
no_word h = absurd (let e : false ≡ true = h in cc)

transfer_draws : (word : List ℕ) (deposit : Bool) (id : List ℕ) (account : Account) (value : ℕ) → Draws word (transfer_act deposit id account value)
transfer_draws word true id account value h = no_word h
transfer_draws word false id account value h = no_word h

of_number : (word : List ℕ) (make : ℕ → Act) (n : Option ℕ) (act : Act) → ((k : ℕ) → Draws word (make k)) → option_map make n ≡ Some act → Draws word act
of_number word make None act each h = none_is_not act h
of_number word make (Some k) act each h = subst (Draws word) (some_is (make k) act h) (each k)

sets_rate : (history : List Entry) (word : List ℕ) (source target : Asset) (rate : Rate) (act : Act) → act_in (admin.set_rate history source target rate) ≡ Some act → Draws word act
sets_rate history word source target rate act made =
    let one = past_want (asset_number history source) NotFound _ act made in
    let two = past_want (asset_number history target) NotFound _ act one.2 in
    let act_is : Act = acts.RateSet one.0 two.0 rate.num rate.den in
    let past = past_refusal (one.0 == two.0) SameAsset (λ _. Ok (Some act_is)) act two.2 in
    subst (Draws word) (some_is act_is act past.1) no_word

decides : (history : List Entry) (word : List ℕ) (make : ℕ → Act) (g : Option ℕ) (act : Act) → ((k : ℕ) → Draws word (make k)) → act_in (decide history make g) ≡ Some act → Draws word act
decides history word make g act each made =
    let row = past_want (option_and_then (grant_row history) g) NotFound _ act made in
    let past = past_refusal (not (is_pending row.0.state)) NotPending (λ _. Ok (option_map make g)) act row.2 in
    of_number word make g act each past.1

cancels_payment : (history : List Entry) (word : List ℕ) (p : Option ℕ) (act : Act) → act_in (admin.cancel_outgoing history p) ≡ Some act → Draws word act
cancels_payment history word p act made =
    let row = past_want (option_and_then (outgoing_row history) p) NotFound _ act made in
    let make : ℕ → Act = λ n. acts.OutgoingFailed n row.0.step Cancelled in
    let past = past_refusal (is_ended row.0.state) AlreadyEnded (λ _. Ok (option_map make p)) act row.2 in
    of_number word make p act (λ k. no_word) past.1

changes_token : (history : List Entry) (word : List ℕ) (make : ℕ → Act) (g : Option ℕ) (verdict : Verdict) (act : Act) → ((k : ℕ) → Draws word (make k)) → act_in (change_token history make g verdict) ≡ Some act → Draws word act
changes_token history word make g verdict act each made =
    let proof = past_refusal (not (verdict.proved && is_some verdict.client)) InvalidClient _ act made in
    let who = past_step (own_grant history verdict g InvalidToken) _ act proof.1 in
    let token = past_refusal (not (option_map_or (is_secret (current_token who.0.row)) verdict.token false)) InvalidToken (λ _. Ok (Some (make who.0.grant))) act who.2 in
    subst (Draws word) (some_is (make who.0.grant) act token.1) (each who.0.grant)

cancels_grant : (history : List Entry) (word : List ℕ) (g : Option ℕ) (verdict : Verdict) (act : Act) → act_in (cancel_grant history g verdict) ≡ Some act → Draws word act
cancels_grant history word g verdict act made =
    let proof = past_refusal (not (verdict.proved && is_some verdict.client)) InvalidClient _ act made in
    let who = past_step (own_grant history verdict g InvalidContinuation) _ act proof.1 in
    let act_is : Act = acts.GrantCancelled who.0.grant in
    let past = past_refusal (is_cancelled who.0.row.state || not (holds_continuation verdict who.0.row)) InvalidContinuation (λ _. Ok (Some act_is)) act who.2 in
    subst (Draws word) (some_is act_is act past.1) no_word

polled_or_issued : (word : List ℕ) (waits : Bool) (g : ℕ) → Draws word (cond waits (acts.GrantPolled g) (acts.GrantContinued g word))
polled_or_issued word true g h = no_word h
polled_or_issued word false g h = refl

continues : (history : List Entry) (t : ℕ) (word : List ℕ) (g : Option ℕ) (reference : Option (Option (List ℕ))) (verdict : Verdict) (act : Act) → act_in (continue_grant history t word g reference verdict) ≡ Some act → Draws word act
continues history t word g reference verdict act made =
    let proof = past_refusal (not (verdict.proved && is_some verdict.client)) InvalidClient _ act made in
    let who = past_step (own_grant history verdict g InvalidContinuation) _ act proof.1 in
    let row = who.0.row in
    let held = past_refusal (is_cancelled row.state || (is_issued row.state || not (holds_continuation verdict row))) InvalidContinuation _ act who.2 in
    let act_is : Act = cond (is_pending row.state) (acts.GrantPolled who.0.grant) (acts.GrantContinued who.0.grant word) in
    let past = past_step (continuation_refusals t row reference) (λ _. Ok (Some act_is)) act held.1 in
    subst (Draws word) (some_is act_is act past.2) (polled_or_issued word (is_pending row.state) who.0.grant)

pub request_draws : (history : List Entry) (t : ℕ) (word : List ℕ) (fee : ℕ) (request : Request) (verdict : Verdict) (act : Act) → act_in (act_for history t word fee request verdict) ≡ Some act → Draws word act
request_draws history t word fee (requests.SetOrigin origin) verdict act made =
    let past = past_refusal (not (length (origins history) == 0) || not (length (addresses history) == 0)) OriginFixed (λ _. Ok (Some (acts.OriginSet origin))) act made in
    subst (Draws word) (some_is (acts.OriginSet origin) act past.1) no_word
request_draws history t word fee (requests.AddAsset asset pieces) verdict act made =
    let past = past_refusal (is_some (asset_number history asset)) AlreadyExists (λ _. Ok (Some (acts.AssetAdded asset.code asset.scale pieces))) act made in
    subst (Draws word) (some_is (acts.AssetAdded asset.code asset.scale pieces) act past.1) no_word
request_draws history t word fee (requests.InspectAsset asset) verdict act made = reads_asset history asset act made
request_draws history t word fee (requests.AddAddress path asset name) verdict act made = adds_address (Draws word) history path asset name act (λ n there. no_word) made
request_draws history t word fee (requests.InspectAddress address) verdict act made = reads_address history address act made
request_draws history t word fee (requests.Deposit id name amount) verdict act made = moves_money (Draws word) history true id name amount act (λ account meant. transfer_draws word true id account amount.value) made
request_draws history t word fee (requests.Withdraw id name amount) verdict act made = moves_money (Draws word) history false id name amount act (λ account meant. transfer_draws word false id account amount.value) made
request_draws history t word fee (requests.SetRate source target rate) verdict act made = sets_rate history word source target rate act made
request_draws history t word fee (requests.AcceptGrant grant) verdict act made = decides history word (λ g. acts.GrantAccepted g word) grant act (λ k h. refl) made
request_draws history t word fee (requests.RejectGrant grant) verdict act made = decides history word (λ g. acts.GrantRejected g word) grant act (λ k h. refl) made
request_draws history t word fee (requests.InspectOutgoing payment) verdict act made = reads_payment history payment act made
request_draws history t word fee (requests.CancelOutgoing payment) verdict act made = cancels_payment history word payment act made
request_draws history t word fee (requests.ReadAddress path) verdict act made = shows_address history path act made
request_draws history t word fee (requests.AskGrant items client interact) verdict act made = asks_grant (Draws word) history word items client interact verdict act (λ name known h. refl) made
request_draws history t word fee (requests.ContinueGrant grant reference) verdict act made = continues history t word grant reference verdict act made
request_draws history t word fee (requests.CancelGrant grant) verdict act made = cancels_grant history word grant verdict act made
request_draws history t word fee (requests.RotateToken grant) verdict act made = changes_token history word (λ g. acts.TokenRotated g word) grant verdict act (λ k h. refl) made
request_draws history t word fee (requests.RevokeToken grant) verdict act made = changes_token history word acts.TokenRevoked grant verdict act (λ k. no_word) made
request_draws history t word fee (requests.MakeIncoming address amount expiry metadata) verdict act made = makes_incoming (Draws word) history t address amount expiry metadata verdict act (λ g n value ends grant there. no_word) made
request_draws history t word fee (requests.ListIncomings address first cursor) verdict act made = lists_rows history t actions.incoming_payment address verdict act made
request_draws history t word fee (requests.ReadIncoming incoming) verdict act made = reads_row history t actions.incoming_payment (option_map incoming_place (option_and_then (incoming_row history) incoming)) verdict act made
request_draws history t word fee (requests.CompleteIncoming incoming) verdict act made = completes_incoming (Draws word) history t incoming verdict act (λ g i grant is there. no_word) made
request_draws history t word fee (requests.MakeQuote address receiver asked) verdict act made = makes_quote (Draws word) history t fee address receiver asked verdict act (λ q price is priced. no_word) made
request_draws history t word fee (requests.ReadQuote quote) verdict act made = reads_row history t actions.quote (option_map quote_place (option_and_then (quote_row history) quote)) verdict act made
request_draws history t word fee (requests.MakeOutgoing address (Quoted quote) metadata) verdict act made = pays_quote (Draws word) history t address quote metadata verdict act (λ g q grant there. no_word) made
request_draws history t word fee (requests.MakeOutgoing address (Direct receiver debit) metadata) verdict act made =
    pays_directly (Draws word) history t fee address receiver debit metadata verdict act (λ g n it price grant there incoming is. no_word) made
request_draws history t word fee (requests.ListOutgoings address first cursor) verdict act made = lists_rows history t actions.outgoing_payment address verdict act made
request_draws history t word fee (requests.ReadOutgoing outgoing) verdict act made = reads_row history t actions.outgoing_payment (option_map outgoing_place (option_and_then (outgoing_row history) outgoing)) verdict act made
request_draws history t word fee (requests.ReadFeed address page) verdict act made = lists_rows history t actions.outgoing_payment address verdict act made

-- such a word has sixteen bytes, where the task's has
pub drawn : (word : List ℕ) (act : Act) → IsWord word → Draws word act → DrawsWord act
drawn word (acts.GrantAsked client items finish w) size draws = subst IsWord (sym (draws refl)) size
drawn word (acts.GrantAccepted grant w) size draws = subst IsWord (sym (draws refl)) size
drawn word (acts.GrantRejected grant w) size draws = subst IsWord (sym (draws refl)) size
drawn word (acts.GrantContinued grant w) size draws = subst IsWord (sym (draws refl)) size
drawn word (acts.TokenRotated grant w) size draws = subst IsWord (sym (draws refl)) size
drawn word _ size draws = tt
