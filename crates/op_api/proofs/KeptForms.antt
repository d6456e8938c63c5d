-- A request that is meant keeps its forms.
use Rattle.std.proofs.Common.{◌≡◌, ℕ, ◌-◌, ◌+◌, ◌*◌, Bool, true, false, List, [], ◌∷◌, Some, None, Ok, Err, length, refl, subst}
use Rattle.std.specs.Prelude.{◌&&◌, nat_le, codes, if◌then◌else◌, option_and_then, option_map, ok_or}
use Rattle.std.specs.List.{slice_index}
use Rattle.std.specs.Option.{is_none, is_some, option_map_or}
use Rattle.std.specs.Result.{result_ok}
use Rattle.std.specs.Str.{bytes_eq}
use Rattle.std.specs.declared.option.Option.{Option}
use Rattle.std.specs.declared.result.Result.{Result}
use Rattle.op_amount.specs.Code.{is_asset_code}
use Rattle.op_amount.specs.declared.Amount.{Amount}
use Rattle.op_amount.specs.Values.{value_of}
use Rattle.op_names.specs.Forms.{is_client, is_finish_uri, is_origin, is_path, is_word}
use Rattle.op_names.specs.Names.{address_in}
use Rattle.op_names.specs.declared.AddressName.{AddressName}
use Rattle.op_names.specs.declared.Kind.{Kind}
use Rattle.op_names.specs.declared.Kind.TheVariants as kinds
use Rattle.op_time.specs.Calendar.{epoch, day_milliseconds}
use Rattle.op_time.specs.MomentTexts.{moment_at, moment_of, moment_with, has_shape, clock_of, fraction_of, zone_of, day_in, time_in, offset_in, in_utc, milliseconds_of}
use Rattle.op_time.specs.declared.TheConstants.{LAST}
use Rattle.op_time.specs.declared.moments.MomentFault.{MomentFault}
use Rattle.op_time.specs.declared.moments.MomentFault.TheVariants as moments
use Rattle.serde_json.specs.Data.{Data}
use Rattle.serde_json.specs.Find.{as_str, get}
use Rattle.serde_json.specs.Written.{compact_text}
use Rattle.op_model.specs.Asking.{◌>>=◌, refuse_if}
use Rattle.op_model.specs.GrantMembers.{ask_grant_members, client_in, client_limit, continue_grant_meant, continue_grant_members, finish_of, finish_with, grant_refused, interact_in, interact_of, interact_with, starts_in}
use Rattle.op_model.specs.Json.{if_object, number_of, optional_in, or_bad, text_in, with_members}
use Rattle.op_model.specs.Legal.{are_items, is_amount, is_asset, is_first, is_interact, is_finish, is_payment_asked, is_quote_asked, is_rate_number, is_text, keeps_forms, name_limit, nonce_limit, passes, transfer_limit}
use Rattle.op_model.specs.Meant.{asked_of, meant}
use Rattle.op_model.specs.Members.{account_of, add_address_members, add_asset_members, amount_of, asset_of, code_in, make_incoming_members, make_outgoing_members, make_quote_members, member_of, metadata_of, moment_text_of, optional_of, payment_asked, pieces_in, quote_mode, rate_number, scale_in, set_origin_members, set_rate_members, text_if, transfer_members}
use Rattle.op_model.specs.Metadata.{if_plain_object, is_metadata, is_page}
use Rattle.op_model.specs.Parameters.{digits_within, if_page, list_parameters, number_named, optional_parameter, parameter, read_feed_parameters, text_parameter}
use Rattle.op_model.specs.Requests.{Raw}
use Rattle.op_model.specs.RouteTable.{Route, route_of}
use Rattle.op_model.specs.declared.grant.Finish.{Finish}
use Rattle.op_model.specs.declared.grant.Interact.TheVariants.{Missing}
use Rattle.op_model.specs.declared.reply.Refusal.{Refusal}
use Rattle.op_model.specs.declared.reply.Refusal.TheVariants.{BadField}
use Rattle.op_model.specs.declared.request.AccountName.{AccountName}
use Rattle.op_model.specs.declared.request.Request.{Request}
use Rattle.op_model.specs.declared.request.Request.TheVariants as requests
use Rattle.op_model.specs.declared.route.Route.TheVariants as routes
use Rattle.op_api.proofs.KeptItems.{access_token_form}
use Rattle.op_api.proofs.ValueForms.{Whatever, amount_form, asset_form, code_form, number_form, scale_form, yields_any}
use Rattle.op_api.proofs.Yields.{Gives, Yields, both, gives_member, gives_then, some_same, yields_if, yields_map, yields_optional, yields_then}

abbrev Kept : Request → Type 0
Kept request = keeps_forms request ≡ true

abbrev Keeps : Result Request Refusal → Type 0
Keeps r = Gives Kept r

keeps : (request : Request) → Kept request → Keeps (Ok request)
keeps request h y e = let same : request ≡ y = cc in subst Kept same h

-- a member of no form of its own
passed : {X : Type 0} (name : List ℕ) (o : Option X) (f : X → Result Request Refusal) → ((x : X) → Keeps (f x)) → Keeps (or_bad name o >>= f)
passed name o f h = gives_member Whatever Kept name o f (yields_any o) (λ x t. h x)

tested : {X : Type 0} (test : X → Bool) (name : List ℕ) (o : Option X) (f : X → Result Request Refusal) → Yields (λ x. test x ≡ true) o → ((x : X) → test x ≡ true → Keeps (f x)) → Keeps (or_bad name o >>= f)
tested test name o f form h = gives_member (λ x. test x ≡ true) Kept name o f form h

with_keeps : (asked : Data → Result Request Refusal) (body : List ℕ) → ((d : Data) → Keeps (asked d)) → Keeps (with_members asked body)
with_keeps asked body h = gives_then Whatever Kept asked _ (λ x e. tt) (λ d t. h d)

text_form : (test : List ℕ → Bool) (name : List ℕ) (d : Data) → Yields (λ t. test t ≡ true) (text_if test name d)
text_form test name d = yields_then Whatever (λ t. test t ≡ true) _ (text_in name d) (yields_any _) (λ text t. yields_if (λ t. test t ≡ true) (test text) text (λ e. e))

-- ---- the provider's routes

set_origin_keeps : (d : Data) → Keeps (set_origin_members d)
set_origin_keeps d = tested is_origin (codes "origin") (text_if is_origin (codes "origin") d) _ (text_form is_origin (codes "origin") d) (λ origin o. keeps (requests.SetOrigin origin) o)

abbrev are_pieces : ℕ → Bool
are_pieces p = nat_le 1 p && nat_le p 64

pieces_form : (o : Option Data) → Yields (λ p. are_pieces p ≡ true) (option_map_or (number_of 1 64) o (Some 1))
pieces_form None y e = some_same (λ p. are_pieces p ≡ true) 1 y refl e
pieces_form (Some v) y e = number_form 1 64 v y e

add_asset_keeps : (d : Data) → Keeps (add_asset_members d)
add_asset_keeps d =
    tested is_asset_code (codes "assetCode") (code_in d) _ (code_form d) (λ code c.
    tested (λ s. nat_le s 18) (codes "assetScale") (scale_in d) _ (scale_form d) (λ scale s.
    tested are_pieces (codes "pieces") (pieces_in d) _ (pieces_form (optional_in (codes "pieces") d)) (λ pieces p.
    keeps (requests.AddAsset (record { code = code; scale = scale }) pieces) (both _ _ (both _ _ c s) p))))

public_name_form : (v : Data) → Yields (λ t. is_text name_limit t ≡ true) (option_and_then (λ text. if is_text name_limit text then Some text else None) (as_str v))
public_name_form v = yields_then Whatever (λ t. is_text name_limit t ≡ true) _ (as_str v) (yields_any _) (λ text t. yields_if (λ t. is_text name_limit t ≡ true) (is_text name_limit text) text (λ e. e))

add_address_keeps : (d : Data) → Keeps (add_address_members d)
add_address_keeps d =
    tested is_path (codes "path") (text_if is_path (codes "path") d) _ (text_form is_path (codes "path") d) (λ path p.
    tested is_asset_code (codes "assetCode") (code_in d) _ (code_form d) (λ code c.
    tested (λ s. nat_le s 18) (codes "assetScale") (scale_in d) _ (scale_form d) (λ scale s.
    tested (passes (is_text name_limit)) (codes "publicName") (optional_of _ (codes "publicName") d) _ (yields_optional (is_text name_limit) _ (codes "publicName") d public_name_form) (λ name n.
    keeps (requests.AddAddress path (record { code = code; scale = scale }) name) (both _ _ p (both _ _ (both _ _ c s) n))))))

member_amount : (name : List ℕ) (d : Data) → Yields (λ a. is_amount a ≡ true) (member_of amount_of name d)
member_amount name d = yields_then Whatever (λ a. is_amount a ≡ true) amount_of (get name d) (yields_any _) (λ v t. amount_form v)

transfer_keeps : (request : List ℕ → AccountName → Amount → Request) → ((t : List ℕ) (a : AccountName) (m : Amount) → is_word transfer_limit t ≡ true → is_amount m ≡ true → Kept (request t a m)) → (d : Data) → Keeps (transfer_members request d)
transfer_keeps request h d =
    tested (is_word transfer_limit) (codes "transferId") (text_if (is_word transfer_limit) (codes "transferId") d) _ (text_form (is_word transfer_limit) (codes "transferId") d) (λ transfer t.
    passed (codes "account") (text_in (codes "account") d) _ (λ account.
    tested is_amount (codes "amount") (member_of amount_of (codes "amount") d) _ (member_amount (codes "amount") d) (λ amount a.
    keeps (request transfer (account_of account) amount) (h transfer (account_of account) amount t a))))

member_asset : (name : List ℕ) (d : Data) → Yields (λ a. is_asset a ≡ true) (member_of asset_of name d)
member_asset name d = yields_then Whatever (λ a. is_asset a ≡ true) asset_of (get name d) (yields_any _) (λ v t. asset_form v)

rate_form : (name : List ℕ) (d : Data) → Yields (λ n. is_rate_number n ≡ true) (option_and_then rate_number (text_in name d))
rate_form name d =
    yields_then Whatever (λ n. is_rate_number n ≡ true) rate_number (text_in name d) (yields_any _) (λ text t.
    yields_then Whatever (λ n. is_rate_number n ≡ true) _ (result_ok (value_of text)) (yields_any _) (λ n t. yields_if (λ n. is_rate_number n ≡ true) (is_rate_number n) n (λ e. e)))

set_rate_keeps : (d : Data) → Keeps (set_rate_members d)
set_rate_keeps d =
    tested is_asset (codes "from") (member_of asset_of (codes "from") d) _ (member_asset (codes "from") d) (λ source s.
    tested is_asset (codes "to") (member_of asset_of (codes "to") d) _ (member_asset (codes "to") d) (λ target t.
    tested is_rate_number (codes "num") (option_and_then rate_number (text_in (codes "num") d)) _ (rate_form (codes "num") d) (λ num n.
    tested is_rate_number (codes "den") (option_and_then rate_number (text_in (codes "den") d)) _ (rate_form (codes "den") d) (λ den m.
    keeps (requests.SetRate source target (record { num = num; den = den })) (both _ _ s (both _ _ t (both _ _ n m)))))))

-- ---- payments

abbrev in_time : ℕ → Bool
in_time t = nat_le t LAST

or_range : (o : Option ℕ) → Yields (λ t. in_time t ≡ true) o → Yields (λ t. in_time t ≡ true) (result_ok {E = MomentFault} (ok_or o moments.Range))
or_range (Some t) h y e = h y e
or_range None h y e = absurd cc

at_form : (ms : ℕ) → Yields (λ t. in_time t ≡ true) (moment_at ms)
at_form ms = begun (nat_le (epoch * day_milliseconds) ms) (ms - epoch * day_milliseconds)
  where
    begun : (b : Bool) (left : ℕ) → Yields (λ t. in_time t ≡ true) (if b then (if nat_le left LAST then Some left else None) else None)
    begun true left y e = yields_if (λ t. in_time t ≡ true) (in_time left) left (λ e. e) y e
    begun false left y e = absurd cc

three_form : (day time offset : Option ℕ) (sum : ℕ → ℕ → ℕ → ℕ) → Yields (λ t. in_time t ≡ true) (option_and_then (λ d. option_and_then (λ t. option_and_then (λ o. moment_at (sum d t o)) offset) time) day)
three_form None time offset sum y e = absurd cc
three_form (Some d) None offset sum y e = absurd cc
three_form (Some d) (Some t) None sum y e = absurd cc
three_form (Some d) (Some t) (Some o) sum y e = at_form (sum d t o) y e

with_form : (clock fraction zone : List ℕ) → Yields (λ t. in_time t ≡ true) (moment_with clock fraction zone)
with_form clock fraction zone = three_form (day_in clock) (time_in clock) (offset_in zone) (λ day time offset. in_utc (slice_index zone 0) offset ((day * 86400 + time) * 1000 + milliseconds_of fraction))

shaped_form : (text : List ℕ) (b : Bool) → Yields (λ t. in_time t ≡ true) (result_ok {E = MomentFault} (if b then ok_or (moment_with (clock_of text) (fraction_of text) (zone_of text)) moments.Range else Err moments.Shape))
shaped_form text true y e = or_range (moment_with (clock_of text) (fraction_of text) (zone_of text)) (with_form (clock_of text) (fraction_of text) (zone_of text)) y e
shaped_form text false y e = absurd cc

moment_form : (v : Data) → Yields (λ t. in_time t ≡ true) (moment_text_of v)
moment_form v = yields_then Whatever (λ t. in_time t ≡ true) moment_of (as_str v) (yields_any _) (λ text t. shaped_form text (has_shape text))

metadata_form : (v : Data) → Yields (λ t. is_metadata t ≡ true) (metadata_of v)
metadata_form v = yields_then Whatever (λ t. is_metadata t ≡ true) _ (if_plain_object v) (yields_any _) (λ object t. yields_if (λ t. is_metadata t ≡ true) (is_metadata (compact_text object)) (compact_text object) (λ e. e))

optional_amount : (name : List ℕ) (d : Data) → Yields (λ x. passes is_amount x ≡ true) (optional_of amount_of name d)
optional_amount name d = yields_optional is_amount amount_of name d amount_form

make_incoming_keeps : (d : Data) → Keeps (make_incoming_members d)
make_incoming_keeps d =
    passed (codes "walletAddress") (text_in (codes "walletAddress") d) _ (λ address.
    tested (passes is_amount) (codes "incomingAmount") (optional_of amount_of (codes "incomingAmount") d) _ (optional_amount (codes "incomingAmount") d) (λ amount a.
    tested (passes in_time) (codes "expiresAt") (optional_of moment_text_of (codes "expiresAt") d) _ (yields_optional in_time moment_text_of (codes "expiresAt") d moment_form) (λ expiry t.
    tested (passes is_metadata) (codes "metadata") (optional_of metadata_of (codes "metadata") d) _ (yields_optional is_metadata metadata_of (codes "metadata") d metadata_form) (λ metadata m.
    keeps (requests.MakeIncoming _ amount expiry metadata) (both _ _ a (both _ _ t m))))))

mode_form : (debit receive : Option Amount) → passes is_amount debit ≡ true → passes is_amount receive ≡ true → Yields (λ q. is_quote_asked q ≡ true) (quote_mode debit receive)
mode_form None None x y q e = some_same (λ q. is_quote_asked q ≡ true) _ q refl e
mode_form (Some debit) None x y q e = some_same (λ q. is_quote_asked q ≡ true) _ q x e
mode_form None (Some receive) x y q e = some_same (λ q. is_quote_asked q ≡ true) _ q y e
mode_form (Some debit) (Some receive) x y q e = absurd cc

make_quote_keeps : (d : Data) → Keeps (make_quote_members d)
make_quote_keeps d =
    passed (codes "walletAddress") (text_in (codes "walletAddress") d) _ (λ address.
    passed (codes "receiver") (text_in (codes "receiver") d) _ (λ receiver.
    passed (codes "method") (text_if (bytes_eq (codes "ilp")) (codes "method") d) _ (λ method.
    tested (passes is_amount) (codes "debitAmount") (optional_of amount_of (codes "debitAmount") d) _ (optional_amount (codes "debitAmount") d) (λ debit x.
    tested (passes is_amount) (codes "receiveAmount") (optional_of amount_of (codes "receiveAmount") d) _ (optional_amount (codes "receiveAmount") d) (λ receive y.
    tested is_quote_asked (codes "receiveAmount") (quote_mode debit receive) _ (mode_form debit receive x y) (λ mode q.
    keeps (requests.MakeQuote _ _ mode) q))))))

payment_form : (quote incoming : Option (List ℕ)) (debit : Option Amount) → passes is_amount debit ≡ true → Yields (λ p. is_payment_asked p ≡ true) (payment_asked quote incoming debit)
payment_form (Some quote) None None x p e = some_same (λ p. is_payment_asked p ≡ true) _ p refl e
payment_form (Some quote) None (Some debit) x p e = absurd cc
payment_form (Some quote) (Some incoming) debit x p e = absurd cc
payment_form None (Some incoming) (Some debit) x p e = some_same (λ p. is_payment_asked p ≡ true) _ p x e
payment_form None (Some incoming) None x p e = absurd cc
payment_form None None debit x p e = absurd cc

-- what is not refused
allowed : (b : Bool) (refusal : Refusal) (r : Result Request Refusal) → Keeps r → Keeps (refuse_if b refusal >>= (λ u. r))
allowed true refusal r h y e = absurd cc
allowed false refusal r h y e = h y e

make_outgoing_keeps : (d : Data) → Keeps (make_outgoing_members d)
make_outgoing_keeps d =
    passed (codes "walletAddress") (text_in (codes "walletAddress") d) _ (λ address.
    passed (codes "quoteId") (optional_of as_str (codes "quoteId") d) _ (λ quote.
    allowed (is_none quote && is_none (optional_in (codes "incomingPayment") d)) (BadField (codes "quoteId")) _ (
    passed (codes "incomingPayment") (optional_of as_str (codes "incomingPayment") d) _ (λ incoming.
    allowed (is_some quote && is_some incoming) (BadField (codes "incomingPayment")) _ (
    tested (passes is_amount) (codes "debitAmount") (optional_of amount_of (codes "debitAmount") d) _ (optional_amount (codes "debitAmount") d) (λ debit x.
    tested is_payment_asked (codes "debitAmount") (payment_asked quote incoming debit) _ (payment_form quote incoming debit x) (λ asked p.
    tested (passes is_metadata) (codes "metadata") (optional_of metadata_of (codes "metadata") d) _ (yields_optional is_metadata metadata_of (codes "metadata") d metadata_form) (λ metadata m.
    keeps (requests.MakeOutgoing (address_in address) asked metadata) (both _ _ p m)))))))))

-- ---- lists and feeds

first_form : (o : Option (List ℕ)) → Yields (λ n. is_first (option_map_or (λ k. k) n 20) ≡ true) (option_map_or (λ value. option_map (λ x. Some x) (digits_within 1 100 value)) o (Some None))
first_form None y e = some_same (λ n. is_first (option_map_or (λ k. k) n 20) ≡ true) None y refl e
first_form (Some value) y e = yields_map is_within (λ n. is_first (option_map_or (λ k. k) n 20) ≡ true) (λ x. Some x) (digits_within 1 100 value) digits (λ x t. t) y e
  where
    is_within : ℕ → Type 0
    is_within n = is_first n ≡ true

    digits : Yields is_within (digits_within 1 100 value)
    digits = yields_then Whatever is_within _ (result_ok (value_of value)) (yields_any _) (λ n t. yields_if is_within (is_first n) n (λ e. e))

list_keeps : (kind : Kind) (request : Option AddressName → ℕ → Option ℕ → Request) → ((a : Option AddressName) (n : ℕ) (k : Option ℕ) → is_first n ≡ true → Kept (request a n k)) → (target : List ℕ) → Keeps (list_parameters kind request target)
list_keeps kind request h target =
    passed (codes "wallet-address") (text_parameter (codes "wallet-address") target) _ (λ address.
    gives_member (λ n. is_first (option_map_or (λ k. k) n 20) ≡ true) Kept (codes "first") (optional_parameter (digits_within 1 100) (codes "first") target) _ (first_form (parameter (codes "first") target)) (λ first f.
    passed (codes "cursor") (optional_parameter (number_named kind) (codes "cursor") target) _ (λ cursor.
    keeps (request _ _ cursor) (h _ _ cursor f))))

page_form : (target : List ℕ) → Yields (λ p. is_page p ≡ true) (option_and_then if_page (text_parameter (codes "page") target))
page_form target = yields_then Whatever (λ p. is_page p ≡ true) if_page (text_parameter (codes "page") target) (yields_any _) (λ text t. yields_if (λ p. is_page p ≡ true) (is_page text) text (λ e. e))

feed_keeps : (target : List ℕ) → Keeps (read_feed_parameters target)
feed_keeps target =
    passed (codes "wallet-address") (text_parameter (codes "wallet-address") target) _ (λ address.
    tested is_page (codes "page") (option_and_then if_page (text_parameter (codes "page") target)) _ (page_form target) (λ page p.
    keeps (requests.ReadFeed _ page) p))

-- ---- grants

client_form : (d : Data) → Yields (λ c. passes is_client c ≡ true) (client_in d)
client_form d = yields_then Whatever (λ c. passes is_client c ≡ true) _ (text_in (codes "client") d) (yields_any _) (λ text t. yields_if (λ c. passes is_client c ≡ true) (nat_le (length text) client_limit) _ (λ e. named text (is_client text) refl))
  where
    named : (text : List ℕ) (b : Bool) → is_client text ≡ b → passes is_client (if b then Some text else None) ≡ true
    named text true e = e
    named text false e = refl

finish_form : (v : Data) → Yields (λ f. is_finish f ≡ true) (option_and_then finish_of (if_object v))
finish_form v =
    yields_then Whatever (λ f. is_finish f ≡ true) finish_of (if_object v) (yields_any _) (λ d t.
    yields_then Whatever (λ f. is_finish f ≡ true) (λ method. option_and_then (λ uri. option_map (finish_with uri) (text_if (is_word nonce_limit) (codes "nonce") d)) (text_if is_finish_uri (codes "uri") d)) (text_if (bytes_eq (codes "redirect")) (codes "method") d) (yields_any _) (λ method t.
    yields_then (λ uri. is_finish_uri uri ≡ true) (λ f. is_finish f ≡ true) (λ uri. option_map (finish_with uri) (text_if (is_word nonce_limit) (codes "nonce") d)) (text_if is_finish_uri (codes "uri") d) (text_form is_finish_uri (codes "uri") d) (λ uri u.
    yields_map (λ n. is_word nonce_limit n ≡ true) (λ f. is_finish f ≡ true) (finish_with uri) (text_if (is_word nonce_limit) (codes "nonce") d) (text_form (is_word nonce_limit) (codes "nonce") d) (λ nonce n. both _ _ u n))))

with_finish : (redirects : Bool) (finish : Option Finish) → passes is_finish finish ≡ true → is_interact (interact_with redirects finish) ≡ true
with_finish true finish f = f
with_finish false finish f = refl

interact_form : (o : Option Data) → Yields (λ i. is_interact i ≡ true) (option_map_or (λ v. option_and_then interact_of (if_object v)) o (Some Missing))
interact_form None y e = some_same (λ i. is_interact i ≡ true) Missing y refl e
interact_form (Some v) y e = asked v y e
  where
    asked : (v : Data) → Yields (λ i. is_interact i ≡ true) (option_and_then interact_of (if_object v))
    asked v =
        yields_then Whatever (λ i. is_interact i ≡ true) interact_of (if_object v) (yields_any _) (λ d t.
        yields_then Whatever (λ i. is_interact i ≡ true) _ (starts_in d) (yields_any _) (λ redirects r.
        yields_map (λ f. passes is_finish f ≡ true) (λ i. is_interact i ≡ true) (interact_with redirects) (optional_of (λ v. option_and_then finish_of (if_object v)) (codes "finish") d) (yields_optional is_finish _ (codes "finish") d finish_form) (λ finish f. with_finish redirects finish f)))

ask_grant_keeps : (d : Data) → Keeps (ask_grant_members d)
ask_grant_keeps d =
    tested are_items (codes "access_token") (member_of _ (codes "access_token") d) _ (yields_then Whatever (λ xs. are_items xs ≡ true) _ (get (codes "access_token") d) (yields_any _) (λ v t. access_token_form v)) (λ items i.
    tested (passes is_client) (codes "client") (client_in d) _ (client_form d) (λ client c.
    tested is_interact (codes "interact") (interact_in d) _ (interact_form (optional_in (codes "interact") d)) (λ interact n.
    keeps (requests.AskGrant items client interact) (both _ _ i (both _ _ c n)))))

continue_keeps : (grant : Option ℕ) (body : List ℕ) → Keeps (continue_grant_meant grant body)
continue_keeps grant [] = keeps (requests.ContinueGrant grant None) refl
continue_keeps grant (b ∷ body) = with_keeps (continue_grant_members grant) (b ∷ body) (λ d. passed (codes "interact_ref") _ _ (λ reference. keeps (requests.ContinueGrant grant reference) refl))

in_grant_keeps : (r : Result Request Refusal) → Keeps r → Keeps (grant_refused r)
in_grant_keeps (Ok request) h y e = h y e
in_grant_keeps (Err refusal) h y e = absurd cc

-- ---- every route

route_keeps : (route : Route) (target body : List ℕ) → Keeps (asked_of route target body)
route_keeps routes.SetOrigin target body = with_keeps set_origin_members body set_origin_keeps
route_keeps routes.AddAsset target body = with_keeps add_asset_members body add_asset_keeps
route_keeps (routes.InspectAsset code scale) target body = keeps _ refl
route_keeps routes.AddAddress target body = with_keeps add_address_members body add_address_keeps
route_keeps (routes.InspectAddress id) target body = keeps _ refl
route_keeps routes.Deposit target body = with_keeps _ body (transfer_keeps (λ t a m. requests.Deposit t a m) (λ t a m w x. both _ _ w x))
route_keeps routes.Withdraw target body = with_keeps _ body (transfer_keeps (λ t a m. requests.Withdraw t a m) (λ t a m w x. both _ _ w x))
route_keeps routes.SetRate target body = with_keeps set_rate_members body set_rate_keeps
route_keeps (routes.AcceptGrant id) target body = keeps _ refl
route_keeps (routes.RejectGrant id) target body = keeps _ refl
route_keeps (routes.InspectOutgoing id) target body = keeps _ refl
route_keeps (routes.CancelOutgoing id) target body = keeps _ refl
route_keeps (routes.ReadAddress path) target body = keeps _ refl
route_keeps routes.AskGrant target body = in_grant_keeps _ (with_keeps ask_grant_members body ask_grant_keeps)
route_keeps (routes.ContinueGrant id) target body = in_grant_keeps _ (continue_keeps _ body)
route_keeps (routes.CancelGrant id) target body = keeps _ refl
route_keeps (routes.RotateToken id) target body = keeps _ refl
route_keeps (routes.RevokeToken id) target body = keeps _ refl
route_keeps routes.MakeIncoming target body = with_keeps make_incoming_members body make_incoming_keeps
route_keeps routes.ListIncomings target body = list_keeps kinds.Incoming (λ a n k. requests.ListIncomings a n k) (λ a n k f. f) target
route_keeps (routes.ReadIncoming id) target body = keeps _ refl
route_keeps (routes.CompleteIncoming id) target body = keeps _ refl
route_keeps routes.MakeQuote target body = with_keeps make_quote_members body make_quote_keeps
route_keeps (routes.ReadQuote id) target body = keeps _ refl
route_keeps routes.MakeOutgoing target body = with_keeps make_outgoing_members body make_outgoing_keeps
route_keeps routes.ListOutgoings target body = list_keeps kinds.Outgoing (λ a n k. requests.ListOutgoings a n k) (λ a n k f. f) target
route_keeps (routes.ReadOutgoing id) target body = keeps _ refl
route_keeps routes.ReadFeed target body = feed_keeps target

pub meant_keeps : (raw : Raw) (request : Request) → meant raw ≡ Ok request → keeps_forms request ≡ true
meant_keeps raw = gives_then Whatever Kept (λ route. asked_of route raw.target raw.body) (route_of raw.method raw.target) (λ x e. tt) (λ route t. route_keeps route raw.target raw.body)
