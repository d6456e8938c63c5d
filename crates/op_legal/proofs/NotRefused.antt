-- What acts is not refused: a row that the reply tells is there behind the act.
use Rattle.std.proofs.Common.{◌≡◌, ℕ, suc, ◌+◌, Bool, true, false, cond, ◌&&◌, List, [], ◌∷◌, ◌++◌, length, refl, ◌∙◌, sym, ap, arith, Some, None, Option, is_some, append-nil, length-append, codes}
use Rattle.std.specs.Prelude.{not, Ok, Err, unwrap_or}
use Rattle.std.specs.List.{position_from}
use Rattle.std.specs.Option.{option_map, option_map_or, option_and_then, option_to_list, option_or}
use Rattle.std.specs.Str.{bytes_eq}
use Rattle.std.specs.declared.result.Result.{Result}
use Rattle.std.proofs.lemmas.Slice.Eq.{bytes_eq-Decides}
use Rattle.op_amount.specs.Asset.{is_same_asset}
use Rattle.op_amount.specs.declared.Amount.{Amount}
use Rattle.op_amount.specs.declared.Asset.{Asset}
use Rattle.op_model.specs.Actions as actions
use Rattle.op_model.specs.AdminAnswers.{account_meant, account_named, transfer_act}
use Rattle.op_model.specs.Answer.{answer, act_for, body_for, ask_outcome, told, told_of, step_outcome, replied, noted_outcome, asked_body, continued_body, rotated_body, grant_decided_body, made_body, transferred_body}
use Rattle.op_model.specs.Asking.{Caller, own_grant, caller_with}
use Rattle.op_model.specs.Events.{is_event_due}
use Rattle.op_model.specs.GrantAnswers.{is_issued, grant_act, items_asked}
use Rattle.op_model.specs.Grants.{grants_made, grant_row}
use Rattle.op_model.specs.History.{nth, last, AddressRow, AssetRow, assets, asset_added, addresses, address_added, path_number, origins, origin_set, origin_of, number_of}
use Rattle.op_model.specs.PaymentAnswers.{quote_act, direct_act, incoming_place, quote_place, outgoing_place}
use Rattle.op_model.specs.Payments.{made_from_quote, payments_made, outgoing_row, incoming_row, incomings, quote_row, quotes}
use Rattle.op_model.specs.Shown.{account_shown, address_shown, progress_shown, incoming_shown, quote_shown}
use Rattle.op_model.specs.Steps.{is_incoming_due}
use Rattle.op_model.specs.declared.act.Account.{Account}
use Rattle.op_model.specs.declared.act.Account.TheVariants.{Pool, Fees, Wallet}
use Rattle.op_model.specs.declared.act.Act.{Act}
use Rattle.op_model.specs.declared.act.Act.TheVariants as acts
use Rattle.op_model.specs.declared.act.Entry.{Entry}
use Rattle.op_model.specs.declared.reply.Refusal.{Refusal}
use Rattle.op_model.specs.declared.reply.Refusal.TheVariants.{NotFound, InvalidClient, InvalidToken, InvalidContinuation}
use Rattle.op_model.specs.declared.reply.ReplyBody.{ReplyBody}
use Rattle.op_model.specs.declared.reply.ReplyBody.TheVariants as bodies
use Rattle.op_model.specs.declared.request.AccountName.{AccountName}
use Rattle.op_model.specs.declared.request.AccountName.TheVariants as names
use Rattle.op_model.specs.declared.request.PaymentAsked.TheVariants.{Quoted, Direct}
use Rattle.op_model.specs.declared.request.Request.{Request}
use Rattle.op_model.specs.declared.request.Request.TheVariants as requests
use Rattle.op_model.specs.declared.request.Task.{Task}
use Rattle.op_model.specs.declared.request.Task.TheVariants.{Ask, Step, Expire, Attempt}
use Rattle.op_model.specs.declared.request.Verdict.{Verdict}
use Rattle.op_model.specs.declared.row.GrantRow.{GrantRow}
use Rattle.op_model.specs.declared.row.OutgoingRow.{OutgoingRow}
use Rattle.op_model.specs.declared.row.QuoteRow.{QuoteRow}
use Rattle.op_model.proofs.Next.{position_from-append, assets-next, addresses-next, origins-next, incomings-next, quotes-next, payments_made-next, grants_made-next}
use Rattle.op_legal.specs.Replies.{ActsAreNotRefused}
use Rattle.op_legal.proofs.Chains.{act_in, outcome_act, none_is_not, some_is, past_want, past_refusal, past_step, within_want}
use Rattle.op_legal.proofs.Named.{adds_address, moves_money, asks_grant, makes_incoming, completes_incoming, makes_quote, pays_quote, pays_directly}
use Rattle.op_legal.proofs.Readings.{reads_asset, reads_address, shows_address, reads_payment, lists_rows, reads_row}
use Rattle.op_legal.proofs.RoundsLegal.{seam}
use Rattle.op_legal.proofs.Stays.{outgoing_made, outgoing_stays, incoming_stays}
use Rattle.op_legal.proofs.Tokens.{caller_found}
use Rattle.op_legal.proofs.Unnamed.{grant_made, grant_stays_there}

abbrev pub is_refused : ReplyBody → Bool
is_refused (bodies.Refused refusal) = true
is_refused _ = false

-- ---- a row that is told

told_some : {X : Type 0} (body : X → ReplyBody) (row : Option X) → ((x : X) → is_refused (body x) ≡ false) → is_some row ≡ true → is_refused (told body row) ≡ false
told_some body None each h = absurd (let e : false ≡ true = h in cc)
told_some body (Some x) each h = each x

paired : {X : Type 0} (k : ℕ) (row : Option X) → is_some row ≡ true → is_some (option_map (λ (x : X). let p : ℕ × X = (k, x) in p) row) ≡ true
paired k None h = h
paired k (Some x) h = refl

told_at : {X : Type 0} (rows : ℕ → Option X) (body : ℕ × X → ReplyBody) (k : ℕ) → ((p : ℕ × X) → is_refused (body p) ≡ false) → is_some (rows k) ≡ true → is_refused (told_of rows body (Some k)) ≡ false
told_at rows body k each there = told_some body (option_map (λ x. let p : ℕ × _ = (k, x) in p) (rows k)) each (paired k (rows k) there)

-- a row with a number that was there, and is
told_there : {X : Type 0} (before after : ℕ → Option X) (body : ℕ × X → ReplyBody) (n : Option ℕ) (row : X) → ((p : ℕ × X) → is_refused (body p) ≡ false) → ((k : ℕ) → is_some (before k) ≡ true → is_some (after k) ≡ true) → option_and_then before n ≡ Some row
    → is_refused (told_of after body n) ≡ false
told_there before after body None row each stays h = none_is_not row h
told_there before after body (Some k) row each stays h = told_at after body k each (stays k (ap is_some h))

told_number : {X : Type 0} (before after : ℕ → Option X) (body : ℕ × X → ReplyBody) (n : Option ℕ) (k : ℕ) → ((p : ℕ × X) → is_refused (body p) ≡ false) → ((j : ℕ) → is_some (before j) ≡ true → is_some (after j) ≡ true) → n ≡ Some k → is_some (before k) ≡ true
    → is_refused (told_of after body n) ≡ false
told_number before after body n k each stays is there = ap (λ (o : Option ℕ). is_refused (told_of after body o)) is ∙ told_at after body k each (stays k there)

-- the last of a longer list
last_there : {X : Type 0} (xs : List X) (x : X) → is_some (nth (xs ++ x ∷ []) (length (xs ++ x ∷ []))) ≡ true
last_there xs x =
    let longer : length (xs ++ x ∷ []) ≡ suc (length xs) = omega (arith, length-append xs (x ∷ [])) in
    ap (λ n. is_some (nth (xs ++ x ∷ []) n)) longer ∙ ap is_some (seam xs [] x)

last_of : {X : Type 0} (xs all : List X) (x : X) → all ≡ xs ++ x ∷ [] → is_some (nth all (length all)) ≡ true
last_of {X = X} xs all x is = ap (λ (l : List X). is_some (nth l (length l))) is ∙ last_there xs x

-- a number that is found in a list is found in a longer one
or_there : (a b : Option ℕ) → is_some a ≡ true → is_some (option_or a b) ≡ true
or_there None b h = absurd (let e : false ≡ true = h in cc)
or_there (Some n) b h = refl

or_else : (a : Option ℕ) (n : ℕ) → is_some (option_or a (Some n)) ≡ true
or_else None n = refl
or_else (Some m) n = refl

number_last : {X : Type 0} (test : X → Bool) (xs all : List X) (x : X) → all ≡ xs ++ x ∷ [] → test x ≡ true → is_some (number_of test all) ≡ true
number_last {X = X} test xs all x is passes =
    ap (λ (l : List X). is_some (number_of test l)) is
    ∙ ap is_some (position_from-append test 1 xs (x ∷ []))
    ∙ ap (λ b. is_some (option_or (position_from test 1 xs) (cond b (Some (1 + length xs)) None))) passes
    ∙ or_else (position_from test 1 xs) (1 + length xs)

-- ---- accounts, behind an act that leaves assets, addresses and the origin

record LeavesNames (history longer : List Entry) : Type 0 where
  assets_same : assets longer ≡ assets history
  addresses_same : addresses longer ≡ addresses history
  origins_same : origins longer ≡ origins history

named_same : (history longer : List Entry) (name : AccountName) (asset : Asset) → LeavesNames history longer → account_named longer name asset ≡ account_named history name asset
named_same history longer names.Pool asset same = ap (λ (l : List AssetRow). option_map Pool (number_of (λ row. is_same_asset row.asset asset) l)) same.assets_same
named_same history longer names.Fees asset same = ap (λ (l : List AssetRow). option_map Fees (number_of (λ row. is_same_asset row.asset asset) l)) same.assets_same
named_same history longer (names.Address None) asset same = refl
named_same history longer (names.Address (Some name)) asset same =
    ap (λ (l : List (List ℕ)). option_map Wallet (cond (bytes_eq name.origin (unwrap_or (last l) (codes "https://wallet.example"))) (path_number longer name.path) None)) same.origins_same
    ∙ ap (λ (l : List AddressRow). option_map Wallet (cond (bytes_eq name.origin (origin_of history)) (number_of (λ row. bytes_eq row.path name.path) l) None)) same.addresses_same

meant_same : (history longer : List Entry) (deposit : Bool) (name : AccountName) (asset : Asset) → LeavesNames history longer → account_meant longer deposit name asset ≡ account_meant history deposit name asset
meant_same history longer true names.Fees asset same = refl
meant_same history longer true names.Pool asset same = named_same history longer names.Pool asset same
meant_same history longer true (names.Address name) asset same = named_same history longer (names.Address name) asset same
meant_same history longer false name asset same = named_same history longer name asset same

leaves : (history : List Entry) (e : Entry) → asset_added e.act ≡ None → address_added e.act ≡ None → origin_set e.act ≡ None → LeavesNames history (history ++ e ∷ [])
leaves history e a b c = record {
  assets_same = assets-next history e ∙ ap (λ (o : Option AssetRow). assets history ++ option_to_list o) a ∙ append-nil (assets history);
  addresses_same = addresses-next history e ∙ ap (λ (o : Option AddressRow). addresses history ++ option_to_list o) b ∙ append-nil (addresses history);
  origins_same = origins-next history e ∙ ap (λ (o : Option (List ℕ)). origins history ++ option_to_list o) c ∙ append-nil (origins history);
}

transfer_leaves : (history : List Entry) (t : ℕ) (deposit : Bool) (id : List ℕ) (account : Account) (value : ℕ) → LeavesNames history (history ++ record { at = t; act = transfer_act deposit id account value } ∷ [])
transfer_leaves history t true id account value = leaves history (record { at = t; act = acts.Deposited id account value }) refl refl refl
transfer_leaves history t false id account value = leaves history (record { at = t; act = acts.Withdrawn id account value }) refl refl refl

-- ---- bodies that are chosen

either_body : (b : Bool) (x y : ReplyBody) → is_refused x ≡ false → is_refused y ≡ false → is_refused (cond b x y) ≡ false
either_body true x y h k = h
either_body false x y h k = k

asked_is : (after : List Entry) (p : ℕ × GrantRow) → is_refused (asked_body after p) ≡ false
asked_is after (g, row) = either_body (is_issued row.state) _ _ refl refl

continued_is : (after : List Entry) (p : ℕ × GrantRow) → is_refused (continued_body after p) ≡ false
continued_is after (g, row) = either_body (is_issued row.state) _ _ refl refl

-- a payment from a quote that is there is the last
paid_last : (history : List Entry) (t g q : ℕ) (metadata : Option (List ℕ)) (found : Option QuoteRow) → quote_row history q ≡ found → is_some found ≡ true
    → (let longer = history ++ record { at = t; act = acts.OutgoingMade g q metadata } ∷ [] in is_some (nth (payments_made longer) (length (payments_made longer))) ≡ true)
paid_last history t g q metadata None is h = absurd (let e : false ≡ true = h in cc)
paid_last history t g q metadata (Some row) is h =
    let e : Entry = record { at = t; act = acts.OutgoingMade g q metadata } in
    let made = made_from_quote t g q metadata row in
    last_of (payments_made history) (payments_made (history ++ e ∷ [])) made
    (payments_made-next history e ∙ ap (λ (o : Option QuoteRow). payments_made history ++ option_to_list (option_map (made_from_quote t g q metadata) o)) is)

-- ---- each request that acts

module _ (history : List Entry) (t : ℕ) where
  grants_stay : (act : Act) (k : ℕ) → is_some (grant_row history k) ≡ true → is_some (grant_row (history ++ record { at = t; act = act } ∷ []) k) ≡ true
  grants_stay act k there = grant_stays_there history (record { at = t; act = act }) k there

  moved : (deposit : Bool) (id : List ℕ) (name : AccountName) (amount : Amount) (account : Account) → account_meant history deposit name amount.asset ≡ Some account
      → is_refused (transferred_body (history ++ record { at = t; act = transfer_act deposit id account amount.value } ∷ []) deposit id name amount) ≡ false
  moved deposit id name amount account meant =
      let longer = history ++ record { at = t; act = transfer_act deposit id account amount.value } ∷ [] in
      told_some (λ a. bodies.Transferred id (account_shown longer a) amount) (account_meant longer deposit name amount.asset) (λ a. refl)
      (ap is_some (meant_same history longer deposit name amount.asset (transfer_leaves history t deposit id account amount.value) ∙ meant))

  own_told : (make : ℕ → Act) (g : Option ℕ) (verdict : Verdict) (refusal : Refusal) (who : Caller) (act : Act) (body : List Entry → ℕ × GrantRow → ReplyBody) → ((after : List Entry) (p : ℕ × GrantRow) → is_refused (body after p) ≡ false) → own_grant history verdict g refusal ≡ Ok who
      → is_refused (told_of (grant_row (history ++ record { at = t; act = act } ∷ [])) (body (history ++ record { at = t; act = act } ∷ [])) g) ≡ false
  own_told make g verdict refusal who act body each h =
      let longer = history ++ record { at = t; act = act } ∷ [] in
      let there = within_want (caller_with history g) refusal _ who h in
      let found = caller_found history g there.0 there.1 in
      told_number (grant_row history) (grant_row longer) (body longer) g there.0.grant (each longer) (grants_stay act) found.0 (ap is_some found.1)

  request_told : (word : List ℕ) (fee : ℕ) (request : Request) (verdict : Verdict) (act : Act) → act_in (act_for history t word fee request verdict) ≡ Some act → is_refused (body_for (history ++ record { at = t; act = act } ∷ []) t request verdict) ≡ false
  request_told word fee (requests.SetOrigin origin) verdict act made = refl
  request_told word fee (requests.AddAsset asset pieces) verdict act made = refl
  request_told word fee (requests.InspectAsset asset) verdict act made = reads_asset history asset act made
  request_told word fee (requests.AddAddress path asset name) verdict act made =
      adds_address (λ a. is_refused (body_for (history ++ record { at = t; act = a } ∷ []) t (requests.AddAddress path asset name) verdict) ≡ false) history path asset name act
      (λ n there.
      let e : Entry = record { at = t; act = acts.AddressAdded path n name } in
      let longer = history ++ e ∷ [] in
      told_some (λ m. bodies.AddressAdded m (address_shown longer m)) (path_number longer path) (λ m. refl)
      (number_last (λ (row : AddressRow). bytes_eq row.path path) (addresses history) (addresses longer) (record { path = path; asset = n; name = name }) (addresses-next history e) ((bytes_eq-Decides path path).1 refl)))
      made
  request_told word fee (requests.InspectAddress address) verdict act made = reads_address history address act made
  request_told word fee (requests.Deposit id name amount) verdict act made =
      moves_money (λ a. is_refused (body_for (history ++ record { at = t; act = a } ∷ []) t (requests.Deposit id name amount) verdict) ≡ false) history true id name amount act (λ account meant. moved true id name amount account meant) made
  request_told word fee (requests.Withdraw id name amount) verdict act made =
      moves_money (λ a. is_refused (body_for (history ++ record { at = t; act = a } ∷ []) t (requests.Withdraw id name amount) verdict) ≡ false) history false id name amount act (λ account meant. moved false id name amount account meant) made
  request_told word fee (requests.SetRate source target rate) verdict act made = refl
  request_told word fee (requests.AcceptGrant grant) verdict act made =
      let row = past_want (option_and_then (grant_row history) grant) NotFound _ act made in
      told_there (grant_row history) (grant_row (history ++ record { at = t; act = act } ∷ [])) grant_decided_body grant row.0 (λ p. refl) (grants_stay act) row.1
  request_told word fee (requests.RejectGrant grant) verdict act made =
      let row = past_want (option_and_then (grant_row history) grant) NotFound _ act made in
      told_there (grant_row history) (grant_row (history ++ record { at = t; act = act } ∷ [])) grant_decided_body grant row.0 (λ p. refl) (grants_stay act) row.1
  request_told word fee (requests.InspectOutgoing payment) verdict act made = reads_payment history payment act made
  request_told word fee (requests.CancelOutgoing payment) verdict act made =
      let row = past_want (option_and_then (outgoing_row history) payment) NotFound _ act made in
      told_there (outgoing_row history) (outgoing_row (history ++ record { at = t; act = act } ∷ [])) (λ (p, r). bodies.OutgoingInspected p (progress_shown r)) payment row.0 (λ p. refl)
      (λ k there. outgoing_stays history (record { at = t; act = act } ∷ []) k there) row.1
  request_told word fee (requests.ReadAddress path) verdict act made = shows_address history path act made
  request_told word fee (requests.AskGrant items client interact) verdict act made =
      asks_grant (λ a. is_refused (body_for (history ++ record { at = t; act = a } ∷ []) t (requests.AskGrant items client interact) verdict) ≡ false) history word items client interact verdict act
      (λ name known.
      let e : Entry = record { at = t; act = grant_act (items_asked history items) interact word name } in
      let longer = history ++ e ∷ [] in
      told_at (grant_row longer) (asked_body longer) (length (grants_made longer)) (asked_is longer)
      (grant_made longer (length (grants_made longer)) ∙ last_of (grants_made history) (grants_made longer) _ (grants_made-next history e)))
      made
  request_told word fee (requests.ContinueGrant grant reference) verdict act made =
      let proof = past_refusal (not (verdict.proved && is_some verdict.client)) InvalidClient _ act made in
      let who = past_step (own_grant history verdict grant InvalidContinuation) _ act proof.1 in
      own_told acts.GrantPolled grant verdict InvalidContinuation who.0 act continued_body continued_is who.1
  request_told word fee (requests.CancelGrant grant) verdict act made = refl
  request_told word fee (requests.RotateToken grant) verdict act made =
      let proof = past_refusal (not (verdict.proved && is_some verdict.client)) InvalidClient _ act made in
      let who = past_step (own_grant history verdict grant InvalidToken) _ act proof.1 in
      own_told acts.TokenRevoked grant verdict InvalidToken who.0 act rotated_body (λ after p. refl) who.1
  request_told word fee (requests.RevokeToken grant) verdict act made = refl
  request_told word fee (requests.MakeIncoming address amount expiry metadata) verdict act made =
      makes_incoming (λ a. is_refused (body_for (history ++ record { at = t; act = a } ∷ []) t (requests.MakeIncoming address amount expiry metadata) verdict) ≡ false) history t address amount expiry metadata verdict act
      (λ g n value ends grant there.
      let e : Entry = record { at = t; act = acts.IncomingMade g n value ends metadata } in
      let longer = history ++ e ∷ [] in
      told_at (incoming_row longer) (λ i. bodies.IncomingMade (incoming_shown longer i)) (length (incomings longer)) (λ p. refl) (last_of (incomings history) (incomings longer) _ (incomings-next history e)))
      made
  request_told word fee (requests.ListIncomings address first cursor) verdict act made = lists_rows history t actions.incoming_payment address verdict act made
  request_told word fee (requests.ReadIncoming incoming) verdict act made = reads_row history t actions.incoming_payment (option_map incoming_place (option_and_then (incoming_row history) incoming)) verdict act made
  request_told word fee (requests.CompleteIncoming incoming) verdict act made =
      completes_incoming (λ a. is_refused (body_for (history ++ record { at = t; act = a } ∷ []) t (requests.CompleteIncoming incoming) verdict) ≡ false) history t incoming verdict act
      (λ g i grant is there.
      let e : Entry = record { at = t; act = acts.IncomingCompleted g i } in
      told_number (incoming_row history) (incoming_row (history ++ e ∷ [])) (λ p. bodies.IncomingRead (incoming_shown (history ++ e ∷ []) p)) incoming i (λ p. refl) (λ j h. incoming_stays history (e ∷ []) j h) is there)
      made
  request_told word fee (requests.MakeQuote address receiver asked) verdict act made =
      makes_quote (λ a. is_refused (body_for (history ++ record { at = t; act = a } ∷ []) t (requests.MakeQuote address receiver asked) verdict) ≡ false) history t fee address receiver asked verdict act
      (λ q price is priced.
      let e : Entry = record { at = t; act = quote_act q price } in
      let longer = history ++ e ∷ [] in
      told_at (quote_row longer) (λ p. bodies.QuoteMade (quote_shown longer p)) (length (quotes longer)) (λ p. refl) (last_of (quotes history) (quotes longer) _ (quotes-next history e)))
      made
  request_told word fee (requests.ReadQuote quote) verdict act made = reads_row history t actions.quote (option_map quote_place (option_and_then (quote_row history) quote)) verdict act made
  request_told word fee (requests.MakeOutgoing address (Quoted quote) metadata) verdict act made =
      pays_quote (λ a. is_refused (body_for (history ++ record { at = t; act = a } ∷ []) t (requests.MakeOutgoing address (Quoted quote) metadata) verdict) ≡ false) history t address quote metadata verdict act
      (λ g q grant there.
      let e : Entry = record { at = t; act = acts.OutgoingMade g q metadata } in
      let longer = history ++ e ∷ [] in
      told_at (outgoing_row longer) (made_body longer) (length (payments_made longer)) (λ p. refl)
      (outgoing_made longer (length (payments_made longer)) ∙ paid_last history t g q metadata (quote_row history q) refl there))
      made
  request_told word fee (requests.MakeOutgoing address (Direct receiver debit) metadata) verdict act made =
      pays_directly (λ a. is_refused (body_for (history ++ record { at = t; act = a } ∷ []) t (requests.MakeOutgoing address (Direct receiver debit) metadata) verdict) ≡ false) history t fee address receiver debit metadata verdict act
      (λ g n it price grant there incoming is.
      let e : Entry = record { at = t; act = direct_act g n it.number price metadata } in
      let longer = history ++ e ∷ [] in
      told_at (outgoing_row longer) (made_body longer) (length (payments_made longer)) (λ p. refl)
      (outgoing_made longer (length (payments_made longer)) ∙ last_of (payments_made history) (payments_made longer) _ (payments_made-next history e)))
      made
  request_told word fee (requests.ListOutgoings address first cursor) verdict act made = lists_rows history t actions.outgoing_payment address verdict act made
  request_told word fee (requests.ReadOutgoing outgoing) verdict act made = reads_row history t actions.outgoing_payment (option_map outgoing_place (option_and_then (outgoing_row history) outgoing)) verdict act made
  request_told word fee (requests.ReadFeed address page) verdict act made = lists_rows history t actions.outgoing_payment address verdict act made

ask_told : (history : List Entry) (t : ℕ) (request : Request) (verdict : Verdict) (result : Result (Option Act) Refusal) (act : Act) → act_in result ≡ Some act
    → is_refused (body_for (history ++ record { at = t; act = act } ∷ []) t request verdict) ≡ false → is_refused (ask_outcome history t request verdict result).reply.body ≡ false
ask_told history t request verdict (Err refusal) act is h = none_is_not act is
ask_told history t request verdict (Ok None) act is h = none_is_not act is
ask_told history t request verdict (Ok (Some a)) act is h = ap (λ (x : Act). is_refused (body_for (history ++ record { at = t; act = x } ∷ []) t request verdict)) (some_is a act is) ∙ h

stepped : (history : List Entry) (t p k : ℕ) (found : Option OutgoingRow) (act : Act) → (option_map_or (step_outcome history t p k) found (replied history bodies.NotDue None)).act ≡ Some act → is_refused (option_map_or (step_outcome history t p k) found (replied history bodies.NotDue None)).reply.body ≡ false
stepped history t p k None act is = refl
stepped history t p k (Some row) act is = refl

noted : (history : List Entry) (due : Bool) (made : Act) → is_refused (noted_outcome history due made).reply.body ≡ false
noted history true made = refl
noted history false made = refl

answer_told : (history : List Entry) (t : ℕ) (word : List ℕ) (fee : ℕ) (task : Task) (act : Act) → (answer history t word fee task).act ≡ Some act → is_refused (answer history t word fee task).reply.body ≡ false
answer_told history t word fee (Ask request verdict) act made =
    let result = act_for history t word fee request verdict in
    let is : act_in result ≡ Some act = sym (outcome_act history t request verdict result) ∙ made in
    ask_told history t request verdict result act is (request_told history t word fee request verdict act is)
answer_told history t word fee (Step payment k) act made = stepped history t payment k (outgoing_row history payment) act made
answer_told history t word fee (Expire incoming) act made = noted history (is_incoming_due history incoming t) (acts.IncomingExpired incoming)
answer_told history t word fee (Attempt event outcome) act made = noted history (is_event_due history event t) (acts.Attempted event outcome)

pub not_refused : ActsAreNotRefused
not_refused history t word fee task act refusal made is =
    absurd (let e : true ≡ false = sym (ap is_refused is) ∙ answer_told history t word fee task act made in cc)
