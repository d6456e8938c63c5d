-- Worked bodies: what their members mean, by computation.
use Rattle.std.proofs.Common.{◌≡◌, ℕ, List, [], ◌∷◌, codes, Some, None, Ok, Err, refl}
use Rattle.std.specs.Prelude.{Float}
use Rattle.std.specs.Str.Lossy.{utf8_valid_len}
use Rattle.url.proofs.OnLiterals.{url_on_literals}
use Rattle.serde_json.specs.Data.{Data, Members, null, number, string, array, object, no_items, item, member, no_members, unsigned, float}
use Rattle.op_model.specs.GrantMembers.{ask_grant_members, continue_grant_meant, grant_refused}
use Rattle.op_model.specs.Members.{add_address_members, add_asset_members, make_incoming_members, make_outgoing_members, make_quote_members, set_origin_members, set_rate_members, transfer_members}
use Rattle.op_model.specs.declared.grant.Interact.TheVariants.{Missing}
use Rattle.op_model.specs.declared.reply.Refusal.TheVariants.{BadField, InvalidRequest}
use Rattle.op_model.specs.declared.request.AccountName.TheVariants.{Pool, Fees}
use Rattle.op_model.specs.declared.request.PaymentAsked.TheVariants.{Quoted, Direct}
use Rattle.op_model.specs.declared.request.QuoteAsked.TheVariants as asked
use Rattle.op_model.specs.declared.request.Request.TheVariants as requests

-- ---- values

abbrev dollars : List ℕ → Data
dollars value = object (member (codes "assetCode") (string (codes "USD")) (member (codes "assetScale") (number (unsigned 2)) (member (codes "value") (string value) no_members)))

abbrev scaled : ℕ → Members
scaled scale = member (codes "assetCode") (string (codes "USD")) (member (codes "assetScale") (number (unsigned scale)) no_members)

-- ---- the provider's routes

origin : set_origin_members (object (member (codes "origin") (string (codes "https://wallet.example")) no_members)) ≡ Ok (requests.SetOrigin (codes "https://wallet.example"))
unfolding url_on_literals
origin = refl

no_origin : set_origin_members (object no_members) ≡ Err (BadField (codes "origin"))
no_origin = refl

asset_with_one_piece : add_asset_members (object (scaled 2)) ≡ Ok (requests.AddAsset (record { code = codes "USD"; scale = 2 }) 1)
asset_with_one_piece = refl

pieces_of_null : add_asset_members (object (member (codes "assetCode") (string (codes "USD")) (member (codes "assetScale") (number (unsigned 18)) (member (codes "pieces") null no_members)))) ≡ Ok (requests.AddAsset (record { code = codes "USD"; scale = 18 }) 1)
pieces_of_null = refl

no_asset_code : add_asset_members (object no_members) ≡ Err (BadField (codes "assetCode"))
no_asset_code = refl

scale_too_large : add_asset_members (object (scaled 19)) ≡ Err (BadField (codes "assetScale"))
scale_too_large = refl

-- a number with a point or an exponent, and `-0`, are read as floats
scale_is_a_float : (x : Float) → add_asset_members (object (member (codes "assetCode") (string (codes "USD")) (member (codes "assetScale") (number (float x)) no_members))) ≡ Err (BadField (codes "assetScale"))
scale_is_a_float x = refl

no_pieces : add_asset_members (object (member (codes "assetCode") (string (codes "USD")) (member (codes "assetScale") (number (unsigned 2)) (member (codes "pieces") (number (unsigned 0)) no_members)))) ≡ Err (BadField (codes "pieces"))
no_pieces = refl

address : add_address_members (object (member (codes "assetCode") (string (codes "USD")) (member (codes "assetScale") (number (unsigned 2)) (member (codes "path") (string (codes "/alice")) no_members))))
    ≡ Ok (requests.AddAddress (codes "/alice") (record { code = codes "USD"; scale = 2 }) None)
address = refl

address_with_a_name : add_address_members (object (member (codes "assetCode") (string (codes "USD")) (member (codes "assetScale") (number (unsigned 2)) (member (codes "path") (string (codes "/alice")) (member (codes "publicName") (string (codes "Alice")) no_members)))))
    ≡ Ok (requests.AddAddress (codes "/alice") (record { code = codes "USD"; scale = 2 }) (Some (codes "Alice")))
unfolding url_on_literals utf8_valid_len
address_with_a_name = refl

reserved_path : add_address_members (object (member (codes "path") (string (codes "/admin")) no_members)) ≡ Err (BadField (codes "path"))
reserved_path = refl

deposit_to_the_pool : transfer_members requests.Deposit (object (member (codes "account") (string (codes "pool")) (member (codes "amount") (dollars (codes "5")) (member (codes "transferId") (string (codes "d1")) no_members))))
    ≡ Ok (requests.Deposit (codes "d1") Pool (record { value = 5; asset = record { code = codes "USD"; scale = 2 } }))
deposit_to_the_pool = refl

withdrawal_of_fees : transfer_members requests.Withdraw (object (member (codes "account") (string (codes "fees")) (member (codes "amount") (dollars (codes "0")) (member (codes "transferId") (string (codes "w1")) no_members))))
    ≡ Ok (requests.Withdraw (codes "w1") Fees (record { value = 0; asset = record { code = codes "USD"; scale = 2 } }))
withdrawal_of_fees = refl

transfer_with_a_blank : transfer_members requests.Deposit (object (member (codes "transferId") (string (codes "d 1")) no_members)) ≡ Err (BadField (codes "transferId"))
transfer_with_a_blank = refl

no_account : transfer_members requests.Deposit (object (member (codes "transferId") (string (codes "d1")) no_members)) ≡ Err (BadField (codes "account"))
no_account = refl

leading_zero : transfer_members requests.Deposit (object (member (codes "account") (string (codes "pool")) (member (codes "amount") (dollars (codes "05")) (member (codes "transferId") (string (codes "d1")) no_members)))) ≡ Err (BadField (codes "amount"))
leading_zero = refl

abbrev euros : Members
euros = member (codes "assetCode") (string (codes "EUR")) (member (codes "assetScale") (number (unsigned 2)) no_members)

rate : set_rate_members (object (member (codes "den") (string (codes "10")) (member (codes "from") (object (scaled 2)) (member (codes "num") (string (codes "9")) (member (codes "to") (object euros) no_members)))))
    ≡ Ok (requests.SetRate (record { code = codes "USD"; scale = 2 }) (record { code = codes "EUR"; scale = 2 }) (record { num = 9; den = 10 }))
rate = refl

rate_of_nothing : set_rate_members (object (member (codes "den") (string (codes "1")) (member (codes "from") (object (scaled 2)) (member (codes "num") (string (codes "0")) (member (codes "to") (object (scaled 2)) no_members))))) ≡ Err (BadField (codes "num"))
rate_of_nothing = refl

-- ---- payments

incoming_payment : make_incoming_members (object (member (codes "incomingAmount") null (member (codes "walletAddress") (string (codes "")) no_members))) ≡ Ok (requests.MakeIncoming None None None None)
incoming_payment = refl

no_wallet_address : make_incoming_members (object (member (codes "walletAddress") null no_members)) ≡ Err (BadField (codes "walletAddress"))
no_wallet_address = refl

-- metadata with a number that is no whole one of 64 bits, however deep it stands
abbrev with_metadata : Members → Data
with_metadata members = object (member (codes "metadata") (object members) (member (codes "walletAddress") (string (codes "")) no_members))

float_in_a_list : (x : Float) → make_incoming_members (with_metadata (member (codes "a") (array (item (number (float x)) no_items)) no_members)) ≡ Err (BadField (codes "metadata"))
float_in_a_list x = refl

float_in_a_list_of_lists : (x : Float) → make_incoming_members (with_metadata (member (codes "a") (array (item (array (item (number (float x)) no_items)) no_items)) no_members)) ≡ Err (BadField (codes "metadata"))
float_in_a_list_of_lists x = refl

float_beside_a_page : (x : Float) → make_incoming_members (with_metadata (member (codes "page") (string (codes "x")) (member (codes "v") (array (item (number (float x)) no_items)) no_members))) ≡ Err (BadField (codes "metadata"))
float_beside_a_page x = refl

metadata_is_no_object : make_incoming_members (object (member (codes "metadata") (array no_items) (member (codes "walletAddress") (string (codes "")) no_members))) ≡ Err (BadField (codes "metadata"))
metadata_is_no_object = refl

quote_for_the_rest : make_quote_members (object (member (codes "method") (string (codes "ilp")) (member (codes "receiver") (string (codes "")) (member (codes "walletAddress") (string (codes "")) no_members)))) ≡ Ok (requests.MakeQuote None None asked.Rest)
quote_for_the_rest = refl

no_receiver : make_quote_members (object (member (codes "walletAddress") (string (codes "")) no_members)) ≡ Err (BadField (codes "receiver"))
no_receiver = refl

other_method : make_quote_members (object (member (codes "method") (string (codes "card")) (member (codes "receiver") (string (codes "")) (member (codes "walletAddress") (string (codes "")) no_members)))) ≡ Err (BadField (codes "method"))
other_method = refl

both_amounts : make_quote_members (object (member (codes "debitAmount") (dollars (codes "5")) (member (codes "method") (string (codes "ilp")) (member (codes "receiveAmount") (dollars (codes "5")) (member (codes "receiver") (string (codes "")) (member (codes "walletAddress") (string (codes "")) no_members)))))) ≡ Err (BadField (codes "receiveAmount"))
both_amounts = refl

payment_from_a_quote : make_outgoing_members (object (member (codes "quoteId") (string (codes "")) (member (codes "walletAddress") (string (codes "")) no_members))) ≡ Ok (requests.MakeOutgoing None (Quoted None) None)
payment_from_a_quote = refl

payment_without_a_quote : make_outgoing_members (object (member (codes "debitAmount") (dollars (codes "5")) (member (codes "incomingPayment") (string (codes "")) (member (codes "walletAddress") (string (codes "")) no_members))))
    ≡ Ok (requests.MakeOutgoing None (Direct None (record { value = 5; asset = record { code = codes "USD"; scale = 2 } })) None)
payment_without_a_quote = refl

payment_from_nothing : make_outgoing_members (object (member (codes "walletAddress") (string (codes "")) no_members)) ≡ Err (BadField (codes "quoteId"))
payment_from_nothing = refl

payment_from_both : make_outgoing_members (object (member (codes "incomingPayment") (string (codes "")) (member (codes "quoteId") (string (codes "")) (member (codes "walletAddress") (string (codes "")) no_members)))) ≡ Err (BadField (codes "incomingPayment"))
payment_from_both = refl

payment_without_a_debit : make_outgoing_members (object (member (codes "incomingPayment") (string (codes "")) (member (codes "walletAddress") (string (codes "")) no_members))) ≡ Err (BadField (codes "debitAmount"))
payment_without_a_debit = refl

-- ---- grants

abbrev reading_quotes : Data
reading_quotes = object (member (codes "access") (array (item (object (member (codes "actions") (array (item (string (codes "read")) no_items)) (member (codes "identifier") (number (unsigned 7)) (member (codes "type") (string (codes "quote")) no_members)))) no_items)) no_members)

-- the identifier of an item for quotes is passed over, and a client may name none
grant_for_quotes : ask_grant_members (object (member (codes "access_token") reading_quotes (member (codes "client") (string (codes "x")) no_members)))
    ≡ Ok (requests.AskGrant (record { kind = 2; actions = 4; identifier = None; limits = None } ∷ []) None Missing)
grant_for_quotes = refl

no_client_member : grant_refused (ask_grant_members (object (member (codes "access_token") reading_quotes no_members))) ≡ Err (InvalidRequest (Some (codes "client")))
no_client_member = refl

no_start : grant_refused (ask_grant_members (object (member (codes "access_token") reading_quotes (member (codes "client") (string (codes "x")) (member (codes "interact") (object no_members) no_members))))) ≡ Err (InvalidRequest (Some (codes "interact")))
no_start = refl

empty_continuation : grant_refused (continue_grant_meant (Some 3) []) ≡ Ok (requests.ContinueGrant (Some 3) None)
empty_continuation = refl
