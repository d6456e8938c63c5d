-- The bodies of replies, as JSON values: members in ascending order of their names' bytes. The members are those of
-- Open Payments (wallet address, incoming payment, quote, outgoing payment, lists), of RFC 9635 (grants) and of the
-- Web Monetization specification (feeds); those of the provider's own routes are this project's.
use Rattle.std.specs.Prelude.{ℕ, Bool, ◌==◌, if◌then◌else◌, List, [], ◌∷◌, ◌++◌, map, filter_map, slice_get, codes, bit_and, Some, None, unwrap_or}
use Rattle.std.specs.List.{list_any}
use Rattle.std.specs.Option.{option_map}
use Rattle.std.specs.Fmt.{decimal}
use Rattle.std.specs.declared.option.Option.{Option}
use Rattle.op_amount.specs.Scaled.{scaled}
use Rattle.op_amount.specs.declared.Asset.{Asset}
use Rattle.op_amount.specs.declared.Amount.{Amount}
use Rattle.op_names.specs.Ids.{id_text}
use Rattle.op_names.specs.Interaction.{interaction_hash}
use Rattle.op_names.specs.declared.Kind.{Kind}
use Rattle.op_names.specs.declared.Kind.TheVariants as kinds
use Rattle.op_time.specs.MomentTexts.{moment_text}
use Rattle.op_model.specs.Actions as actions
use Rattle.op_model.specs.History.{last}
use Rattle.op_model.specs.Metadata.{printed_object}
use Rattle.op_model.specs.declared.row.PaymentState.{PaymentState}
use Rattle.op_model.specs.declared.row.PaymentState.TheVariants as states
use Rattle.op_model.specs.declared.reply.AccountShown.{AccountShown}
use Rattle.op_model.specs.declared.reply.AccountShown.TheVariants as accounts
use Rattle.op_model.specs.declared.reply.AddressShown.{AddressShown}
use Rattle.op_model.specs.declared.reply.IncomingShown.{IncomingShown}
use Rattle.op_model.specs.declared.reply.QuoteShown.{QuoteShown}
use Rattle.op_model.specs.declared.reply.OutgoingShown.{OutgoingShown}
use Rattle.op_model.specs.declared.reply.GrantSpent.{GrantSpent}
use Rattle.op_model.specs.declared.reply.GrantSpent.TheVariants as spents
use Rattle.op_model.specs.declared.reply.ProgressShown.{ProgressShown}
use Rattle.op_model.specs.declared.reply.ItemShown.{ItemShown}
use Rattle.op_model.specs.declared.reply.LimitsShown.{LimitsShown}
use Rattle.op_model.specs.declared.reply.FeedEvent.{FeedEvent}
use Rattle.op_model.specs.declared.reply.Redirect.{Redirect}
use Rattle.serde_json.specs.Data.{Data, null, boolean, object, array, Items, item, no_items, Members, member, no_members, string, number, unsigned}

-- ---- members and values

-- a member that is there where it has a value
abbrev pub optional : List ℕ → Option Data → Members → Members
optional name None more = more
optional name (Some value) more = member name value more

abbrev pub items : List Data → Items
items [] = no_items
items (value ∷ more) = item value (items more)

abbrev pub list : List Data → Data
list values = array (items values)

abbrev pub whole : ℕ → Data
whole n = number (unsigned n)

-- a number as a text of digits
abbrev pub digits : ℕ → Data
digits n = string (decimal n)

abbrev pub text_if : Option (List ℕ) → Option Data
text_if value = option_map string value

-- ---- names under an origin

abbrev pub id : Kind → ℕ → List ℕ
id kind n = id_text (record { kind = kind; number = n })

abbrev pub address_url : (origin path : List ℕ) → List ℕ
address_url origin path = origin ++ path

abbrev pub incoming_url : List ℕ → ℕ → List ℕ
incoming_url origin n = origin ++ codes "/incoming-payments/" ++ id kinds.Incoming n

abbrev pub quote_url : List ℕ → ℕ → List ℕ
quote_url origin n = origin ++ codes "/quotes/" ++ id kinds.Quote n

abbrev pub outgoing_url : List ℕ → ℕ → List ℕ
outgoing_url origin n = origin ++ codes "/outgoing-payments/" ++ id kinds.Outgoing n

abbrev pub grant_url : List ℕ → List ℕ
grant_url origin = origin ++ codes "/grant"

-- ---- assets and amounts

abbrev pub asset_data : Asset → Data
asset_data asset = object (
    member (codes "assetCode") (string asset.code) (
    member (codes "assetScale") (whole asset.scale) no_members))

abbrev pub amount_data : Amount → Data
amount_data amount = object (
    member (codes "assetCode") (string amount.asset.code) (
    member (codes "assetScale") (whole amount.asset.scale) (
    member (codes "value") (digits amount.value) no_members)))

abbrev pub asset_added_data : Asset → ℕ → Data
asset_added_data asset pieces = object (
    member (codes "assetCode") (string asset.code) (
    member (codes "assetScale") (whole asset.scale) (
    member (codes "pieces") (whole pieces) no_members)))

abbrev pub asset_inspected_data : Asset → (pieces pool fees total : ℕ) → Data
asset_inspected_data asset pieces pool fees total = object (
    member (codes "assetCode") (string asset.code) (
    member (codes "assetScale") (whole asset.scale) (
    member (codes "fees") (digits fees) (
    member (codes "pieces") (whole pieces) (
    member (codes "pool") (digits pool) (
    member (codes "total") (digits total) no_members))))))

abbrev pub rate_data : (source target : Asset) → (num den : ℕ) → Data
rate_data source target num den = object (
    member (codes "den") (digits den) (
    member (codes "from") (asset_data source) (
    member (codes "num") (digits num) (
    member (codes "to") (asset_data target) no_members))))

-- ---- addresses and accounts

abbrev pub address_added_data : List ℕ → ℕ → AddressShown → Data
address_added_data origin n address = object (
    member (codes "assetCode") (string address.asset.code) (
    member (codes "assetScale") (whole address.asset.scale) (
    member (codes "id") (string (id kinds.Address n)) (
    optional (codes "publicName") (text_if address.name) (
    member (codes "url") (string (address_url origin address.path)) no_members)))))

abbrev pub address_inspected_data : List ℕ → ℕ → List ℕ → (available posted : ℕ) → Data
address_inspected_data origin n path available posted = object (
    member (codes "available") (digits available) (
    member (codes "id") (string (id kinds.Address n)) (
    member (codes "posted") (digits posted) (
    member (codes "url") (string (address_url origin path)) no_members))))

-- Open Payments, wallet address
abbrev pub address_read_data : List ℕ → AddressShown → Data
address_read_data origin address = object (
    member (codes "assetCode") (string address.asset.code) (
    member (codes "assetScale") (whole address.asset.scale) (
    member (codes "authServer") (string (grant_url origin)) (
    member (codes "id") (string (address_url origin address.path)) (
    optional (codes "publicName") (text_if address.name) (
    member (codes "resourceServer") (string origin) no_members))))))

abbrev pub account_text : List ℕ → AccountShown → List ℕ
account_text origin accounts.Pool = codes "pool"
account_text origin accounts.Fees = codes "fees"
account_text origin (accounts.Address path) = address_url origin path

abbrev pub transferred_data : List ℕ → List ℕ → AccountShown → Amount → Data
transferred_data origin transfer account amount = object (
    member (codes "account") (string (account_text origin account)) (
    member (codes "amount") (amount_data amount) (
    member (codes "transferId") (string transfer) no_members)))

-- ---- payments as the provider sees them

abbrev pub state_text : PaymentState → List ℕ
state_text states.Funding = codes "FUNDING"
state_text states.Sending = codes "SENDING"
state_text states.Completed = codes "COMPLETED"
state_text states.Failed = codes "FAILED"

-- why a payment failed, by the reason's number; none where it did not
abbrev pub reason_text : ℕ → Option (List ℕ)
reason_text reason =
    if reason == 1 then Some (codes "quote_expired")
    else (if reason == 2 then Some (codes "receiver_closed")
    else (if reason == 3 then Some (codes "cancelled") else None))

abbrev pub outgoing_inspected_data : ℕ → ProgressShown → Data
outgoing_inspected_data n payment = object (
    member (codes "delivered") (digits payment.delivered) (
    member (codes "fee") (digits payment.fee) (
    member (codes "id") (string (id kinds.Outgoing n)) (
    optional (codes "reason") (text_if (reason_text payment.reason)) (
    member (codes "sent") (digits payment.sent) (
    member (codes "state") (string (state_text payment.state)) (
    member (codes "step") (whole payment.step) no_members)))))))

-- ---- grants (RFC 9635, sections 3.1 to 3.3)

abbrev pub action_names : List (ℕ × List ℕ)
action_names =
    (actions.create, codes "create") ∷ (actions.complete, codes "complete") ∷ (actions.read, codes "read")
    ∷ (actions.read_all, codes "read-all") ∷ (actions.list, codes "list") ∷ (actions.list_all, codes "list-all") ∷ []

-- the names of the actions that stand in a sum of bits
abbrev pub actions_of : ℕ → List Data
actions_of bits =
    filter_map (λ (bit, name). if bit_and bits bit == 0 then None else Some (string name)) action_names

abbrev pub type_text : ℕ → List ℕ
type_text kind =
    if kind == actions.incoming_payment then codes "incoming-payment"
    else (if kind == actions.quote then codes "quote" else codes "outgoing-payment")

abbrev pub limits_data : List ℕ → LimitsShown → Data
limits_data origin limits = object (
    optional (codes "debitAmount") (option_map amount_data limits.debit) (
    optional (codes "interval") (text_if limits.interval) (
    optional (codes "receiveAmount") (option_map amount_data limits.receive) (
    optional (codes "receiver") (option_map (λ n. string (incoming_url origin n)) limits.receiver) no_members))))

abbrev pub item_data : List ℕ → ItemShown → Data
item_data origin shown = object (
    member (codes "actions") (list (actions_of shown.actions)) (
    optional (codes "identifier") (option_map (λ path. string (address_url origin path)) shown.identifier) (
    optional (codes "limits") (option_map (limits_data origin) shown.limits) (
    member (codes "type") (string (type_text shown.kind)) no_members))))

-- how long an access token lives, and how long a client waits before it continues, in seconds
abbrev pub token_seconds : ℕ
token_seconds = 600

abbrev pub wait_seconds : ℕ
wait_seconds = 5

-- an access token: how long it lives, and where it is managed
abbrev pub token_data : List ℕ → ℕ → List ItemShown → List ℕ → Data
token_data origin grant shown value = object (
    member (codes "access") (list (map (item_data origin) shown)) (
    member (codes "expires_in") (whole token_seconds) (
    member (codes "manage") (string (origin ++ codes "/token/" ++ id kinds.Grant grant)) (
    member (codes "value") (string value) no_members))))

-- how the request is continued, and how many seconds to wait
abbrev pub continue_data : List ℕ → ℕ → List ℕ → Option ℕ → Data
continue_data origin grant token wait = object (
    member (codes "access_token") (object (member (codes "value") (string token) no_members)) (
    member (codes "uri") (string (origin ++ codes "/continue/" ++ id kinds.Grant grant)) (
    optional (codes "wait") (option_map whole wait) no_members)))

abbrev pub interact_data : List ℕ → ℕ → Option (List ℕ) → Data
interact_data origin grant nonce = object (
    optional (codes "finish") (text_if nonce) (
    member (codes "redirect") (string (origin ++ codes "/interact/" ++ id kinds.Grant grant)) no_members))

abbrev pub issued_data : List ℕ → ℕ → List ItemShown → (access continuation : List ℕ) → Data
issued_data origin grant shown access continuation = object (
    member (codes "access_token") (token_data origin grant shown access) (
    member (codes "continue") (continue_data origin grant continuation None) no_members))

abbrev pub pending_data : List ℕ → ℕ → Option (List ℕ) → List ℕ → Data
pending_data origin grant nonce continuation = object (
    member (codes "continue") (continue_data origin grant continuation (Some wait_seconds)) (
    member (codes "interact") (interact_data origin grant nonce) no_members))

abbrev pub polled_data : List ℕ → ℕ → List ℕ → Data
polled_data origin grant continuation = object (member (codes "continue") (continue_data origin grant continuation (Some wait_seconds)) no_members)

abbrev pub rotated_data : List ℕ → ℕ → List ItemShown → List ℕ → Data
rotated_data origin grant shown access = object (member (codes "access_token") (token_data origin grant shown access) no_members)

-- ---- incoming payments, quotes, outgoing payments (Open Payments, resource server)

abbrev pub metadata_data : List ℕ → Data
metadata_data text = unwrap_or (printed_object text) null

abbrev pub incoming_data : List ℕ → IncomingShown → Data
incoming_data origin shown = object (
    member (codes "completed") (boolean shown.completed) (
    member (codes "createdAt") (string (moment_text shown.made)) (
    member (codes "expiresAt") (string (moment_text shown.expiry)) (
    member (codes "id") (string (incoming_url origin shown.number)) (
    optional (codes "incomingAmount") (option_map amount_data shown.amount) (
    optional (codes "metadata") (option_map metadata_data shown.metadata) (
    member (codes "methods") (list []) (
    member (codes "receivedAmount") (amount_data shown.received) (
    member (codes "walletAddress") (string (address_url origin shown.path)) no_members)))))))))

abbrev pub quote_data : List ℕ → QuoteShown → Data
quote_data origin shown = object (
    member (codes "createdAt") (string (moment_text shown.made)) (
    member (codes "debitAmount") (amount_data shown.debit) (
    member (codes "expiresAt") (string (moment_text shown.expiry)) (
    member (codes "id") (string (quote_url origin shown.number)) (
    member (codes "method") (string (codes "ilp")) (
    member (codes "receiveAmount") (amount_data shown.receive) (
    member (codes "receiver") (string (incoming_url origin shown.incoming)) (
    member (codes "walletAddress") (string (address_url origin shown.path)) no_members))))))))

-- what was spent of a debit cap, and of a receive cap
abbrev pub spent_debit : Option GrantSpent → Option Data
spent_debit (Some (spents.Debit amount)) = Some (amount_data amount)
spent_debit _ = None

abbrev pub spent_receive : Option GrantSpent → Option Data
spent_receive (Some (spents.Receive amount)) = Some (amount_data amount)
spent_receive _ = None

abbrev pub outgoing_with : List ℕ → OutgoingShown → Option GrantSpent → Data
outgoing_with origin shown spent = object (
    member (codes "createdAt") (string (moment_text shown.made)) (
    member (codes "debitAmount") (amount_data shown.debit) (
    member (codes "failed") (boolean shown.failed) (
    optional (codes "grantSpentDebitAmount") (spent_debit spent) (
    optional (codes "grantSpentReceiveAmount") (spent_receive spent) (
    member (codes "id") (string (outgoing_url origin shown.number)) (
    optional (codes "metadata") (option_map metadata_data shown.metadata) (
    optional (codes "quoteId") (option_map (λ n. string (quote_url origin n)) shown.quote) (
    member (codes "receiveAmount") (amount_data shown.receive) (
    member (codes "receiver") (string (incoming_url origin shown.incoming)) (
    member (codes "sentAmount") (amount_data shown.sent) (
    member (codes "walletAddress") (string (address_url origin shown.path)) no_members))))))))))))

-- a payment right after it was made, with what its grant has spent, and one that is read
abbrev pub outgoing_made_data : List ℕ → OutgoingShown → Option GrantSpent → Data
outgoing_made_data origin shown spent = outgoing_with origin shown spent

abbrev pub outgoing_data : List ℕ → OutgoingShown → Data
outgoing_data origin shown = outgoing_with origin shown None

-- ---- lists: a page of rows, by the identifiers of its first and its last

abbrev pub page_data : Kind → List ℕ → (has_previous has_next : Bool) → Data
page_data kind numbers has_previous has_next = object (
    optional (codes "endCursor") (option_map (λ n. string (id kind n)) (last numbers)) (
    member (codes "hasNextPage") (boolean has_next) (
    member (codes "hasPreviousPage") (boolean has_previous) (
    optional (codes "startCursor") (option_map (λ n. string (id kind n)) (slice_get numbers 0)) no_members))))

abbrev pub list_data : Data → List Data → Data
list_data page rows = object (
    member (codes "pagination") page (
    member (codes "result") (list rows) no_members))

abbrev pub incomings_listed_data : List ℕ → List IncomingShown → (has_previous has_next : Bool) → Data
incomings_listed_data origin rows has_previous has_next =
    list_data (page_data kinds.Incoming (map (λ row. row.number) rows) has_previous has_next) (map (incoming_data origin) rows)

abbrev pub outgoings_listed_data : List ℕ → List OutgoingShown → (has_previous has_next : Bool) → Data
outgoings_listed_data origin rows has_previous has_next =
    list_data (page_data kinds.Outgoing (map (λ row. row.number) rows) has_previous has_next) (map (outgoing_data origin) rows)

-- ---- feeds: the members of a monetization event

abbrev pub event_data : List ℕ → FeedEvent → Data
event_data origin event = object (
    member (codes "amountSent") (object (
    member (codes "currency") (string event.sent.asset.code) (
    member (codes "value") (string (scaled event.sent.value event.sent.asset.scale)) no_members))) (
    member (codes "incomingPayment") (string (incoming_url origin event.incoming)) (
    member (codes "paymentPointer") (string (address_url origin event.payee)) no_members)))

abbrev pub feed_read_data : List ℕ → List FeedEvent → Data
feed_read_data origin events = object (member (codes "events") (list (map (event_data origin) events)) no_members)

-- ---- origins, and the redirect of an interaction (RFC 9635, section 4.2.1)

abbrev pub origin_data : List ℕ → Data
origin_data origin = object (member (codes "origin") (string origin) no_members)

abbrev pub has_query : List ℕ → Bool
has_query uri = list_any (λ b. b == 63) uri

-- the finish URI with the hash and the reference behind it
abbrev pub redirect_url : List ℕ → Redirect → List ℕ
redirect_url origin redirect =
    redirect.finish.uri ++ (if has_query redirect.finish.uri then codes "&" else codes "?")
    ++ codes "hash=" ++ interaction_hash redirect.finish.nonce redirect.nonce redirect.reference (grant_url origin)
    ++ codes "&interact_ref=" ++ redirect.reference

abbrev pub grant_decided_data : List ℕ → Option Redirect → Data
grant_decided_data origin redirect = object (
    optional (codes "redirect") (option_map (λ r. string (redirect_url origin r)) redirect) no_members)
