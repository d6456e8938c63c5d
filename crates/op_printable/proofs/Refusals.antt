-- What a request is refused with, and what its act records, is text: the steps of each answer, one after another.
use Rattle.std.proofs.Common.{◌≡◌, ◌+◌, ℕ, Bool, true, false, cond, ◌&&◌, List, Some, None, Option, IfSome, IsUtf8}
use Rattle.std.specs.Prelude.{⊤, not, Ok, Err, ok_or, ◌||◌, ◌==◌, nat_lt, nat_le, length, is_some, is_none}
use Rattle.std.specs.List.{list_any}
use Rattle.std.specs.Option.{option_map, option_map_or, option_and_then}
use Rattle.std.specs.declared.result.Result.{Result}
use Rattle.std.proofs.lemmas.Bool.{and_parts}
use Rattle.op_amount.specs.Asset.{is_same_asset}
use Rattle.op_amount.specs.Prices.{price_with}
use Rattle.op_amount.specs.declared.TheConstants.{TOP}
use Rattle.op_amount.specs.declared.Amount.{Amount}
use Rattle.op_amount.specs.declared.Asset.{Asset}
use Rattle.op_amount.specs.declared.PriceFault.{PriceFault}
use Rattle.op_amount.specs.declared.PriceFault.TheVariants as faults
use Rattle.op_amount.specs.declared.Priced.{Priced}
use Rattle.op_amount.specs.declared.Rate.{Rate}
use Rattle.op_names.specs.Forms.{is_origin, is_path}
use Rattle.op_names.specs.declared.AddressName.{AddressName}
use Rattle.op_names.specs.declared.Kind.TheVariants as kinds
use Rattle.op_names.specs.declared.RowName.{RowName}
use Rattle.op_model.specs.Access.{Looked, denial, first_failure, failures, is_same_client}
use Rattle.op_model.specs.Actions as actions
use Rattle.op_model.specs.AdminAnswers as admin
use Rattle.op_model.specs.Answer.{act_for}
use Rattle.op_model.specs.Asking.{◌>>=◌, refuse_if, refuse_with, proved, caller, caller_with, access, own_grant, is_own, Caller, Found, address_named, row_named}
use Rattle.op_model.specs.Asking as asking
use Rattle.op_model.specs.Balances.{account_asset, total, available}
use Rattle.op_model.specs.Grants.{grant_row, grant_of_token, is_outgoing, is_secret, is_cancelled, current_token}
use Rattle.op_model.specs.History.{nth, origins, addresses, asset_number, path_number, asset_of_address}
use Rattle.op_model.specs.Incoming.{is_open}
use Rattle.op_model.specs.Payments.{incoming_row, quote_row, outgoing_row, is_ended}
use Rattle.op_model.specs.GrantAnswers as grants
use Rattle.op_model.specs.Legal.{keeps_forms, are_items, is_interact}
use Rattle.op_model.specs.PaymentAnswers as payments
use Rattle.op_model.specs.PaymentAnswers.{Pricing}
use Rattle.op_model.specs.declared.act.Account.{Account}
use Rattle.op_model.specs.declared.act.Act.{Act}
use Rattle.op_model.specs.declared.act.Act.TheVariants as acts
use Rattle.op_model.specs.declared.act.Entry.{Entry}
use Rattle.op_model.specs.declared.act.FailReason.TheVariants.{Cancelled}
use Rattle.op_model.specs.declared.grant.Interact.{Interact}
use Rattle.op_model.specs.declared.reply.Refusal.{Refusal}
use Rattle.op_model.specs.declared.reply.Refusal.TheVariants as refusals
use Rattle.op_model.specs.declared.request.AccountName.{AccountName}
use Rattle.op_model.specs.declared.request.AskedItem.{AskedItem}
use Rattle.op_model.specs.declared.request.PaymentAsked.{PaymentAsked}
use Rattle.op_model.specs.declared.request.PaymentAsked.TheVariants.{Quoted, Direct}
use Rattle.op_model.specs.declared.request.QuoteAsked.{QuoteAsked}
use Rattle.op_model.specs.declared.request.Request.{Request}
use Rattle.op_model.specs.declared.request.Request.TheVariants as requests
use Rattle.op_model.specs.declared.request.Verdict.{Verdict}
use Rattle.op_model.specs.declared.row.GrantRow.{GrantRow}
use Rattle.op_model.specs.declared.row.IncomingRow.{IncomingRow}
use Rattle.op_reply.specs.Printable.{IsRefusalText}
use Rattle.op_printable.proofs.Acts.{HasActTexts, name_text, items_text, finish_kept_text}
use Rattle.op_printable.proofs.Paths.{origin_text, path_text}

-- ---- a chain of refusals

-- a refusal is a text, and a value has what is asked of it
abbrev TextOf : {X : Type 0} → (X → Type 0) → Result X Refusal → Type 0
TextOf P (Ok x) = P x
TextOf P (Err refusal) = IsRefusalText refusal

pub record IsTextual {X : Type 0} (P : X → Type 0) (result : Result X Refusal) : Type 0 where
  pub text : TextOf P result

-- nothing is asked of the value
abbrev IsTold : {X : Type 0} → Result X Refusal → Type 0
IsTold result = IsTextual (λ x. ⊤) result

-- the act of an answer, where it has one
abbrev pub HasOwnTexts : Option Act → Type 0
HasOwnTexts act = IfSome act HasActTexts

value : {X : Type 0} {P : X → Type 0} (x : X) → P x → IsTextual P (Ok x)
value x h = record { text = h }

-- behind a refusal that may come
past : {X : Type 0} {P : X → Type 0} (holds : Bool) (refusal : Refusal) (rest : Unit {0} → Result X Refusal) → IsRefusalText refusal → IsTextual P (rest tt) → IsTextual P (refuse_if holds refusal >>= rest)
past true refusal rest told more = record { text = told }
past false refusal rest told more = more

-- with what has to be there
found : {X Y : Type 0} {P : X → Type 0} (o : Option Y) (refusal : Refusal) (rest : Y → Result X Refusal) → IsRefusalText refusal → ((y : Y) → IsTextual P (rest y)) → IsTextual P (ok_or o refusal >>= rest)
found None refusal rest told more = record { text = told }
found (Some y) refusal rest told more = more y

-- behind a step that may refuse
behind : {X Y : Type 0} {P : X → Type 0} (first : Result Y Refusal) (rest : Y → Result X Refusal) → IsTold first → ((y : Y) → IsTextual P (rest y)) → IsTextual P (first >>= rest)
behind (Ok y) rest told more = more y
behind (Err refusal) rest told more = record { text = told.text }

may_refuse : (holds : Bool) (refusal : Refusal) → IsRefusalText refusal → IsTold (refuse_if holds refusal)
may_refuse true refusal told = record { text = told }
may_refuse false refusal told = record { text = tt }

wanted : {Y : Type 0} (o : Option Y) (refusal : Refusal) → IsRefusalText refusal → IsTold (ok_or o refusal)
wanted None refusal told = record { text = told }
wanted (Some y) refusal told = record { text = tt }

either : {X : Type 0} {P : X → Type 0} (b : Bool) (x y : Result X Refusal) → IsTextual P x → IsTextual P y → IsTextual P (cond b x y)
either true x y p q = p
either false x y p q = q

-- acts that are made of a number, where it is there
numbered : (make : ℕ → Act) (n : Option ℕ) → ((k : ℕ) → HasActTexts (make k)) → HasOwnTexts (option_map make n)
numbered make None each = tt
numbered make (Some k) each = each k

-- ---- the provider

set_origin : (history : List Entry) (origin : List ℕ) → is_origin origin ≡ true → IsTextual HasOwnTexts (admin.set_origin history origin)
set_origin history origin h = past (not (length (origins history) == 0) || not (length (addresses history) == 0)) refusals.OriginFixed _ tt (value _ (origin_text origin h))

add_asset : (history : List Entry) (asset : Asset) (pieces : ℕ) → IsTextual HasOwnTexts (admin.add_asset history asset pieces)
add_asset history asset pieces = past (is_some (asset_number history asset)) refusals.AlreadyExists _ tt (value _ tt)

inspect_asset : (history : List Entry) (asset : Option Asset) → IsTextual HasOwnTexts (admin.inspect_asset history asset)
inspect_asset history asset = found (option_and_then (asset_number history) asset) refusals.NotFound _ tt (λ n. value _ tt)

add_address : (history : List Entry) (path : List ℕ) (asset : Asset) (name : Option (List ℕ)) → IsUtf8 path → IfSome name IsUtf8 → IsTextual HasOwnTexts (admin.add_address history path asset name)
add_address history path asset name own called =
    found (asset_number history asset) refusals.NotFound _ tt (λ n. past (is_some (path_number history path)) refusals.AlreadyExists _ tt (value _ (own, called)))

inspect_address : (history : List Entry) (n : Option ℕ) → IsTextual HasOwnTexts (admin.inspect_address history n)
inspect_address history n = found (option_and_then (nth (addresses history)) n) refusals.NotFound _ tt (λ row. value _ tt)

read_address : (history : List Entry) (path : List ℕ) → IsTextual HasOwnTexts (admin.read_address history path)
read_address history path = found (path_number history path) refusals.NotFound _ tt (λ n. value _ tt)

set_rate : (history : List Entry) (source target : Asset) (rate : Rate) → IsTextual HasOwnTexts (admin.set_rate history source target rate)
set_rate history source target rate =
    found (asset_number history source) refusals.NotFound _ tt (λ s. found (asset_number history target) refusals.NotFound _ tt (λ t. past (s == t) refusals.SameAsset _ tt (value _ tt)))

money_refusals : (history : List Entry) (deposit : Bool) (account : Account) (amount : Amount) → IsTold (admin.money_refusals history deposit account amount)
money_refusals history deposit account amount =
    let held = total history (account_asset history account) in
    past (amount.value == 0) refusals.ZeroAmount _ tt
    (past (not (admin.has_asset history account amount.asset)) refusals.AssetMismatch _ tt
    (past (deposit && nat_lt TOP (held + amount.value)) (refusals.AssetFull held) _ tt
    (may_refuse (not deposit && nat_lt (available history account) amount.value) (refusals.Short (available history account)) tt)))

transfer_text : (deposit : Bool) (id : List ℕ) (account : Account) (value : ℕ) → HasActTexts (admin.transfer_act deposit id account value)
transfer_text true id account value = tt
transfer_text false id account value = tt

new_transfer : (history : List Entry) (deposit : Bool) (id : List ℕ) (account : Account) (amount : Amount) → IsTextual HasOwnTexts (admin.new_transfer history deposit id account amount)
new_transfer history deposit id account amount =
    behind (admin.money_refusals history deposit account amount) _ (money_refusals history deposit account amount) (λ u. value _ (transfer_text deposit id account amount.value))

move_money : (history : List Entry) (deposit : Bool) (id : List ℕ) (name : AccountName) (amount : Amount) → IsTextual HasOwnTexts (admin.move_money history deposit id name amount)
move_money history deposit id name amount =
    found (admin.account_meant history deposit name amount.asset) refusals.NotFound _ tt (λ account.
    found (asset_number history amount.asset) refusals.NotFound _ tt (λ n.
    past (admin.is_used history deposit id account amount) refusals.TransferIdUsed _ tt
    (either (is_some (admin.transfer_named history id)) (Ok None) (admin.new_transfer history deposit id account amount) (value None tt) (new_transfer history deposit id account amount))))

inspect_outgoing : (history : List Entry) (p : Option ℕ) → IsTextual HasOwnTexts (admin.inspect_outgoing history p)
inspect_outgoing history p = found (option_and_then (outgoing_row history) p) refusals.NotFound _ tt (λ row. value _ tt)

cancel_outgoing : (history : List Entry) (p : Option ℕ) → IsTextual HasOwnTexts (admin.cancel_outgoing history p)
cancel_outgoing history p =
    found (option_and_then (outgoing_row history) p) refusals.NotFound _ tt (λ row.
    past (is_ended row.state) refusals.AlreadyEnded _ tt (value _ (numbered (λ n. acts.OutgoingFailed n row.step Cancelled) p (λ n. tt))))

-- ---- who asks

is_proved : (verdict : Verdict) → IsTold (proved verdict)
is_proved verdict = may_refuse (not (verdict.proved && is_some verdict.client)) refusals.InvalidClient tt

the_caller : (history : List Entry) (t : ℕ) (verdict : Verdict) → IsTold (caller history t verdict)
the_caller history t verdict =
    behind (proved verdict) _ (is_proved verdict) (λ u. wanted (caller_with history (option_and_then (grant_of_token history t) verdict.token)) refusals.InvalidToken tt)

denied : (history : List Entry) (t g : ℕ) (grant : GrantRow) (rule : Option ℕ) → IsTold (refuse_with (option_map (denial history t g grant) rule))
denied history t g grant None = record { text = tt }
denied history t g grant (Some rule) = record { text = tt }

may_access : (history : List Entry) (t : ℕ) (verdict : Verdict) (who : Caller) (looked : Looked) → IsTold (access history t verdict who looked)
may_access history t verdict who looked = denied history t who.grant who.row (first_failure (failures history t verdict.client who.grant who.row looked))

the_owner : (history : List Entry) (verdict : Verdict) (g : Option ℕ) (refusal : Refusal) → IsRefusalText refusal → IsTold (own_grant history verdict g refusal)
the_owner history verdict g refusal told = found (caller_with history g) refusal _ told (λ who. past (not (is_own verdict who.row)) refusal _ told (value who tt))

-- a proved client with a live token whose grant allows what is looked at
allowed : {X : Type 0} {P : X → Type 0} (history : List Entry) (t : ℕ) (verdict : Verdict) (looked : Caller → Looked) (rest : Caller → Unit {0} → Result X Refusal) → ((who : Caller) → IsTextual P (rest who tt))
    → IsTextual P (caller history t verdict >>= λ who. access history t verdict who (looked who) >>= rest who)
allowed history t verdict looked rest more =
    behind (caller history t verdict) _ (the_caller history t verdict) (λ who. behind (access history t verdict who (looked who)) _ (may_access history t verdict who (looked who)) (λ u. more who))

-- ---- grants

ask_grant : (history : List Entry) (word : List ℕ) (asked : List AskedItem) (client : Option (List ℕ)) (interact : Interact) (verdict : Verdict) → are_items asked ≡ true → is_interact interact ≡ true
    → IsTextual HasOwnTexts (grants.ask_grant history word asked client interact verdict)
ask_grant history word asked client interact verdict items finish =
    let made = grants.items_asked history asked in
    behind (proved verdict) _ (is_proved verdict) (λ u.
    found client refusals.InvalidClient _ tt (λ name.
    past (not (is_same_client verdict.client name)) refusals.InvalidClient _ tt
    (past (list_any is_outgoing made && not (grants.is_redirect interact)) refusals.InvalidInteraction _ tt
    (past (list_any (grants.is_strange_item history) asked) refusals.RequestDenied _ tt
    (value _ (items_text history asked items, finish_kept_text made interact finish))))))

decide : (history : List Entry) (act : ℕ → Act) (g : Option ℕ) → ((k : ℕ) → HasActTexts (act k)) → IsTextual HasOwnTexts (grants.decide history act g)
decide history act g each =
    found (option_and_then (grant_row history) g) refusals.NotFound _ tt (λ row. past (not (grants.is_pending row.state)) refusals.NotPending _ tt (value _ (numbered act g each)))

continuation_refusals : (t : ℕ) (row : GrantRow) (reference : Option (Option (List ℕ))) → IsTold (grants.continuation_refusals t row reference)
continuation_refusals t row reference =
    past (grants.is_rejected row.state) refusals.UserDenied _ tt
    (past (is_none reference && nat_lt t (row.last + grants.poll_wait)) refusals.TooFast _ tt
    (past (option_map_or (grants.is_wrong_reference row) reference false) refusals.InvalidInteraction _ tt
    (may_refuse (not (grants.is_pending row.state) && (is_some row.finish && is_none reference)) refusals.InvalidInteraction tt)))

polled_or_issued : (b : Bool) (g : ℕ) (word : List ℕ) → HasActTexts (cond b (acts.GrantPolled g) (acts.GrantContinued g word))
polled_or_issued true g word = tt
polled_or_issued false g word = tt

continue_grant : (history : List Entry) (t : ℕ) (word : List ℕ) (g : Option ℕ) (reference : Option (Option (List ℕ))) (verdict : Verdict) → IsTextual HasOwnTexts (grants.continue_grant history t word g reference verdict)
continue_grant history t word g reference verdict =
    behind (proved verdict) _ (is_proved verdict) (λ u.
    behind (own_grant history verdict g refusals.InvalidContinuation) _ (the_owner history verdict g refusals.InvalidContinuation tt) (λ who.
    past (is_cancelled who.row.state || (grants.is_issued who.row.state || not (grants.holds_continuation verdict who.row))) refusals.InvalidContinuation _ tt
    (behind (grants.continuation_refusals t who.row reference) _ (continuation_refusals t who.row reference) (λ v. value _ (polled_or_issued (grants.is_pending who.row.state) who.grant word)))))

cancel_grant : (history : List Entry) (g : Option ℕ) (verdict : Verdict) → IsTextual HasOwnTexts (grants.cancel_grant history g verdict)
cancel_grant history g verdict =
    behind (proved verdict) _ (is_proved verdict) (λ u.
    behind (own_grant history verdict g refusals.InvalidContinuation) _ (the_owner history verdict g refusals.InvalidContinuation tt) (λ who.
    past (is_cancelled who.row.state || not (grants.holds_continuation verdict who.row)) refusals.InvalidContinuation _ tt (value _ tt)))

change_token : (history : List Entry) (act : ℕ → Act) (g : Option ℕ) (verdict : Verdict) → ((k : ℕ) → HasActTexts (act k)) → IsTextual HasOwnTexts (grants.change_token history act g verdict)
change_token history act g verdict each =
    behind (proved verdict) _ (is_proved verdict) (λ u.
    behind (own_grant history verdict g refusals.InvalidToken) _ (the_owner history verdict g refusals.InvalidToken tt) (λ who.
    past (not (option_map_or (is_secret (current_token who.row)) verdict.token false)) refusals.InvalidToken _ tt (value _ (each who.grant))))

-- ---- incoming payments

incoming_refusals : (t : ℕ) (asset : Asset) (amount : Option Amount) (expiry : ℕ) → IsTold (payments.incoming_refusals t asset amount expiry)
incoming_refusals t asset amount expiry =
    past (option_map_or (λ a. a.value == 0) amount false) refusals.ZeroAmount _ tt
    (past (option_map_or (λ a. not (is_same_asset a.asset asset)) amount false) refusals.AssetMismatch _ tt (may_refuse (nat_le expiry t) refusals.ExpiresInPast tt))

make_incoming : (history : List Entry) (t : ℕ) (name : Option AddressName) (amount : Option Amount) (expiry : Option ℕ) (metadata : Option (List ℕ)) (verdict : Verdict) → IsTextual HasOwnTexts (payments.make_incoming history t name amount expiry metadata verdict)
make_incoming history t name amount expiry metadata verdict =
    let address = address_named history name in
    let ends = payments.expiry_of t expiry in
    allowed history t verdict (λ who. payments.looks_at_address actions.incoming_payment actions.create address) _ (λ who.
    found address refusals.NotFound _ tt (λ n.
    past (option_map_or (payments.is_strange_amount history) amount false) refusals.NotFound _ tt
    (behind (payments.incoming_refusals t (asset_of_address history n) amount ends) _ (incoming_refusals t (asset_of_address history n) amount ends) (λ v. value _ tt))))

list_rows : (history : List Entry) (t kind : ℕ) (name : Option AddressName) (verdict : Verdict) → IsTextual HasOwnTexts (payments.list_rows history t kind name verdict)
list_rows history t kind name verdict =
    allowed history t verdict (λ who. payments.looks_at_address kind (actions.list + actions.list_all) (address_named history name)) _ (λ who.
    found (address_named history name) refusals.NotFound _ tt (λ n. value _ tt))

read_row : (history : List Entry) (t kind : ℕ) (row : Option (ℕ × ℕ)) (verdict : Verdict) → IsTextual HasOwnTexts (payments.read_row history t kind row verdict)
read_row history t kind row verdict =
    allowed history t verdict (λ who. payments.looks_at_row history kind (actions.read + actions.read_all) actions.read_all row) _ (λ who. found row refusals.NotFound _ tt (λ place. value _ tt))

complete_incoming : (history : List Entry) (t : ℕ) (i : Option ℕ) (verdict : Verdict) → IsTextual HasOwnTexts (payments.complete_incoming history t i verdict)
complete_incoming history t i verdict =
    let incoming = asking.found (incoming_row history) i in
    allowed history t verdict (λ who. payments.looks_at_row history actions.incoming_payment actions.complete 0 (option_map (λ (it : Found IncomingRow). payments.incoming_place it.row) incoming)) _ (λ who.
    found incoming refusals.NotFound _ tt (λ it. past (not (is_open history it.number it.row t)) refusals.AlreadyClosed _ tt (value _ tt)))

-- ---- quotes

quote_pricing : (history : List Entry) (t : ℕ) (name : Option AddressName) (receiver : Option RowName) (asked : QuoteAsked) (verdict : Verdict) → IsTold (payments.quote_pricing history t name receiver asked verdict)
quote_pricing history t name receiver asked verdict =
    let address = address_named history name in
    allowed history t verdict (λ who. payments.looks_at_address actions.quote actions.create address) _ (λ who.
    found address refusals.NotFound _ tt (λ n.
    found (payments.receiver_named history receiver) refusals.NotFound _ tt (λ it.
    past (payments.is_strange_asked history asked) refusals.NotFound _ tt
    (past (not (is_open history it.number it.row t)) refusals.ReceiverClosed _ tt
    (past (payments.is_rest asked && is_none it.row.amount) refusals.NoAmount _ tt
    (past (not (payments.fits_assets asked (payments.pair_of history n it.row.address))) refusals.AssetMismatch _ tt
    (found (payments.rate_to history n it.row) refusals.NoRate _ tt (λ rate. value _ tt))))))))

price_fault : (fault : PriceFault) → IsRefusalText (payments.price_refusal fault)
price_fault faults.TooLarge = tt
price_fault faults.TooSmall = tt
price_fault (faults.OverReceiver room) = tt

price_told : (price : Result Priced PriceFault) → IsTold (payments.or_price_refusal price)
price_told (Ok p) = record { text = tt }
price_told (Err fault) = record { text = price_fault fault }

priced : (fee : ℕ) (p : Pricing) → IsTold (payments.priced fee p)
priced fee p = price_told (price_with fee p.rate p.mode p.room)

make_quote : (history : List Entry) (t fee : ℕ) (name : Option AddressName) (receiver : Option RowName) (asked : QuoteAsked) (verdict : Verdict) → IsTextual HasOwnTexts (payments.make_quote history t fee name receiver asked verdict)
make_quote history t fee name receiver asked verdict =
    behind (payments.quote_pricing history t name receiver asked verdict) _ (quote_pricing history t name receiver asked verdict) (λ q.
    behind (payments.priced fee q.pricing) _ (priced fee q.pricing) (λ price. value _ tt))

-- ---- outgoing payments

pay_quote : (history : List Entry) (t : ℕ) (name : Option AddressName) (quote : Option RowName) (metadata : Option (List ℕ)) (verdict : Verdict) → IsTextual HasOwnTexts (payments.pay_quote history t name quote metadata verdict)
pay_quote history t name quote metadata verdict =
    let address = address_named history name in
    let quoted = asking.found (quote_row history) (row_named history kinds.Quote quote) in
    allowed history t verdict (λ who. payments.looks_at_quote history address quoted) _ (λ who.
    found address refusals.NotFound _ tt (λ n.
    found quoted refusals.NotFound _ tt (λ it.
    past (not (it.row.terms.payer == n)) refusals.NotFound _ tt
    (past (payments.is_paid history it.number) refusals.QuoteUsed _ tt
    (past (nat_le it.row.expiry t) refusals.QuoteExpired _ tt (value _ tt))))))

direct_pricing : (history : List Entry) (debit : Amount) (address : ℕ) (receiver : Found IncomingRow) → IsTold (payments.direct_pricing history debit address receiver)
direct_pricing history debit address receiver =
    past (not (is_same_asset debit.asset (asset_of_address history address))) refusals.AssetMismatch _ tt (found (payments.rate_to history address receiver.row) refusals.NoRate _ tt (λ rate. value _ tt))

direct_price : (history : List Entry) (fee : ℕ) (debit : Amount) (address : ℕ) (receiver : Found IncomingRow) → IsTold (payments.direct_price history fee debit address receiver)
direct_price history fee debit address receiver =
    behind (payments.direct_pricing history debit address receiver) _ (direct_pricing history debit address receiver) (λ p. priced fee p)

pay_directly : (history : List Entry) (t fee : ℕ) (name : Option AddressName) (receiver : Option RowName) (debit : Amount) (metadata : Option (List ℕ)) (verdict : Verdict) → IsTextual HasOwnTexts (payments.pay_directly history t fee name receiver debit metadata verdict)
pay_directly history t fee name receiver debit metadata verdict =
    let address = address_named history name in
    let incoming = payments.receiver_named history receiver in
    allowed history t verdict (λ who. payments.looks_at_direct history fee debit address incoming) _ (λ who.
    found address refusals.NotFound _ tt (λ n.
    found incoming refusals.NotFound _ tt (λ it.
    past (payments.is_strange_amount history debit) refusals.NotFound _ tt
    (past (not (is_open history it.number it.row t)) refusals.ReceiverClosed _ tt
    (behind (payments.direct_price history fee debit n it) _ (direct_price history fee debit n it) (λ price. value _ tt))))))

make_outgoing : (history : List Entry) (t fee : ℕ) (name : Option AddressName) (asked : PaymentAsked) (metadata : Option (List ℕ)) (verdict : Verdict) → IsTextual HasOwnTexts (payments.make_outgoing history t fee name asked metadata verdict)
make_outgoing history t fee name (Quoted quote) metadata verdict = pay_quote history t name quote metadata verdict
make_outgoing history t fee name (Direct receiver debit) metadata verdict = pay_directly history t fee name receiver debit metadata verdict

-- ---- each request

pub request_is_textual : (history : List Entry) (t : ℕ) (word : List ℕ) (fee : ℕ) (request : Request) (verdict : Verdict) → keeps_forms request ≡ true → IsTextual HasOwnTexts (act_for history t word fee request verdict)
request_is_textual history t word fee (requests.SetOrigin origin) verdict forms = set_origin history origin forms
request_is_textual history t word fee (requests.AddAsset asset pieces) verdict forms = add_asset history asset pieces
request_is_textual history t word fee (requests.InspectAsset asset) verdict forms = inspect_asset history asset
request_is_textual history t word fee (requests.AddAddress path asset name) verdict forms =
    let parts = and_parts (is_path path) _ forms in add_address history path asset name (path_text path parts.0) (name_text name (and_parts _ _ parts.1).1)
request_is_textual history t word fee (requests.InspectAddress address) verdict forms = inspect_address history address
request_is_textual history t word fee (requests.Deposit transfer account amount) verdict forms = move_money history true transfer account amount
request_is_textual history t word fee (requests.Withdraw transfer account amount) verdict forms = move_money history false transfer account amount
request_is_textual history t word fee (requests.SetRate source target rate) verdict forms = set_rate history source target rate
request_is_textual history t word fee (requests.AcceptGrant grant) verdict forms = decide history (λ g. acts.GrantAccepted g word) grant (λ k. tt)
request_is_textual history t word fee (requests.RejectGrant grant) verdict forms = decide history (λ g. acts.GrantRejected g word) grant (λ k. tt)
request_is_textual history t word fee (requests.InspectOutgoing payment) verdict forms = inspect_outgoing history payment
request_is_textual history t word fee (requests.CancelOutgoing payment) verdict forms = cancel_outgoing history payment
request_is_textual history t word fee (requests.ReadAddress path) verdict forms = read_address history path
request_is_textual history t word fee (requests.AskGrant items client interact) verdict forms =
    let parts = and_parts (are_items items) _ forms in ask_grant history word items client interact verdict parts.0 (and_parts _ _ parts.1).1
request_is_textual history t word fee (requests.ContinueGrant grant reference) verdict forms = continue_grant history t word grant reference verdict
request_is_textual history t word fee (requests.CancelGrant grant) verdict forms = cancel_grant history grant verdict
request_is_textual history t word fee (requests.RotateToken grant) verdict forms = change_token history (λ g. acts.TokenRotated g word) grant verdict (λ k. tt)
request_is_textual history t word fee (requests.RevokeToken grant) verdict forms = change_token history acts.TokenRevoked grant verdict (λ k. tt)
request_is_textual history t word fee (requests.MakeIncoming address amount expiry metadata) verdict forms = make_incoming history t address amount expiry metadata verdict
request_is_textual history t word fee (requests.ListIncomings address first cursor) verdict forms = list_rows history t actions.incoming_payment address verdict
request_is_textual history t word fee (requests.ReadIncoming incoming) verdict forms =
    read_row history t actions.incoming_payment (option_map payments.incoming_place (option_and_then (incoming_row history) incoming)) verdict
request_is_textual history t word fee (requests.CompleteIncoming incoming) verdict forms = complete_incoming history t incoming verdict
request_is_textual history t word fee (requests.MakeQuote address receiver asked) verdict forms = make_quote history t fee address receiver asked verdict
request_is_textual history t word fee (requests.ReadQuote quote) verdict forms =
    read_row history t actions.quote (option_map payments.quote_place (option_and_then (quote_row history) quote)) verdict
request_is_textual history t word fee (requests.MakeOutgoing address asked metadata) verdict forms = make_outgoing history t fee address asked metadata verdict
request_is_textual history t word fee (requests.ListOutgoings address first cursor) verdict forms = list_rows history t actions.outgoing_payment address verdict
request_is_textual history t word fee (requests.ReadOutgoing outgoing) verdict forms =
    read_row history t actions.outgoing_payment (option_map payments.outgoing_place (option_and_then (outgoing_row history) outgoing)) verdict
request_is_textual history t word fee (requests.ReadFeed address page) verdict forms = list_rows history t actions.outgoing_payment address verdict
