-- The bytes of every refusal, and of a reply of each form that the worked purchase does not have, by computation.
-- The expected texts were made by Python's `json`.
use Rattle.std.proofs.Common.{◌≡◌, refl, ℕ, List, [], ◌∷◌, codes, Bool, true, false}
use Rattle.std.specs.Prelude.{Some, None}
use Rattle.std.specs.Fmt.{digits}
use Rattle.std.specs.Str.{is_utf8, chars}
use Rattle.std.specs.declared.option.Option.{Option}
use Rattle.hex.proofs.OnLiterals.{hex_on_literals}
use Rattle.json.specs.Print.{escape_byte}
use Rattle.serde_json.proofs.OnLiterals.{serde_json_on_literals}
use Rattle.op_amount.specs.declared.Asset.{Asset}
use Rattle.op_names.specs.Ids.{hex_of}
use Rattle.op_model.specs.Printed.{printed}
use Rattle.op_model.specs.declared.row.PaymentState.TheVariants as states
use Rattle.op_model.specs.declared.reply.AccountShown.TheVariants as accounts
use Rattle.op_model.specs.declared.reply.FeedEvent.{FeedEvent}
use Rattle.op_model.specs.declared.reply.IncomingShown.{IncomingShown}
use Rattle.op_model.specs.declared.reply.ItemShown.{ItemShown}
use Rattle.op_model.specs.declared.reply.QuoteShown.{QuoteShown}
use Rattle.op_model.specs.declared.reply.Refusal.{Refusal}
use Rattle.op_model.specs.declared.reply.Refusal.TheVariants as refusals
use Rattle.op_model.specs.declared.reply.ReplyBody.{ReplyBody}
use Rattle.op_model.specs.declared.reply.ReplyBody.TheVariants as bodies
use Rattle.op_reply.proofs.WorkedPurchase.{origin, usd, amount}

abbrev told : ReplyBody → List ℕ
told body = printed (record { origin = origin; body = body })

abbrev refused : Refusal → List ℕ
refused refusal = told (bodies.Refused refusal)

-- ---- refusals

no_request : refused (refusals.BadHttp 0) ≡ codes "HTTP/1.1 400 Bad Request\r\nconnection: close\r\ncontent-length: 36\r\ncontent-type: application/json\r\n\r\n{\"error\":{\"at\":0,\"code\":\"bad_http\"}}"
unfolding escape_byte digits
no_request = refl

chunked : refused (refusals.LengthRequired 195) ≡ codes "HTTP/1.1 411 Length Required\r\nconnection: close\r\ncontent-length: 45\r\ncontent-type: application/json\r\n\r\n{\"error\":{\"at\":195,\"code\":\"length_required\"}}"
unfolding escape_byte digits
chunked = refl

too_large_request : refused (refusals.RequestTooLarge 16384) ≡ codes "HTTP/1.1 413 Payload Too Large\r\nconnection: close\r\ncontent-length: 49\r\ncontent-type: application/json\r\n\r\n{\"error\":{\"at\":16384,\"code\":\"request_too_large\"}}"
unfolding escape_byte digits
too_large_request = refl

not_found : refused refusals.NotFound ≡ codes "HTTP/1.1 404 Not Found\r\nconnection: close\r\ncontent-length: 30\r\ncontent-type: application/json\r\n\r\n{\"error\":{\"code\":\"not_found\"}}"
unfolding escape_byte digits
not_found = refl

other_method : refused (refusals.MethodNotAllowed (codes "GET, POST")) ≡ codes "HTTP/1.1 405 Method Not Allowed\r\nallow: GET, POST\r\nconnection: close\r\ncontent-length: 39\r\ncontent-type: application/json\r\n\r\n{\"error\":{\"code\":\"method_not_allowed\"}}"
unfolding escape_byte digits
other_method = refl

no_json : refused refusals.BadJson ≡ codes "HTTP/1.1 400 Bad Request\r\nconnection: close\r\ncontent-length: 29\r\ncontent-type: application/json\r\n\r\n{\"error\":{\"code\":\"bad_json\"}}"
unfolding escape_byte digits
no_json = refl

bad_field : refused (refusals.BadField (codes "assetScale")) ≡ codes "HTTP/1.1 400 Bad Request\r\nconnection: close\r\ncontent-length: 50\r\ncontent-type: application/json\r\n\r\n{\"error\":{\"code\":\"bad_field\",\"name\":\"assetScale\"}}"
unfolding escape_byte digits
bad_field = refl

no_request_for_a_grant : refused (refusals.InvalidRequest None) ≡ codes "HTTP/1.1 400 Bad Request\r\nconnection: close\r\ncontent-length: 36\r\ncontent-type: application/json\r\n\r\n{\"error\":{\"code\":\"invalid_request\"}}"
unfolding escape_byte digits
no_request_for_a_grant = refl

no_access : refused (refusals.InvalidRequest (Some (codes "access_token"))) ≡ codes "HTTP/1.1 400 Bad Request\r\nconnection: close\r\ncontent-length: 58\r\ncontent-type: application/json\r\n\r\n{\"error\":{\"code\":\"invalid_request\",\"name\":\"access_token\"}}"
unfolding escape_byte digits
no_access = refl

no_proof : refused refusals.InvalidClient ≡ codes "HTTP/1.1 401 Unauthorized\r\nconnection: close\r\ncontent-length: 35\r\ncontent-type: application/json\r\nwww-authenticate: GNAP as_uri=https://wallet.example/grant\r\n\r\n{\"error\":{\"code\":\"invalid_client\"}}"
unfolding escape_byte digits
no_proof = refl

old_token : refused refusals.InvalidToken ≡ codes "HTTP/1.1 401 Unauthorized\r\nconnection: close\r\ncontent-length: 34\r\ncontent-type: application/json\r\nwww-authenticate: GNAP as_uri=https://wallet.example/grant\r\n\r\n{\"error\":{\"code\":\"invalid_token\"}}"
unfolding escape_byte digits
old_token = refl

old_continuation : refused refusals.InvalidContinuation ≡ codes "HTTP/1.1 401 Unauthorized\r\nconnection: close\r\ncontent-length: 41\r\ncontent-type: application/json\r\nwww-authenticate: GNAP as_uri=https://wallet.example/grant\r\n\r\n{\"error\":{\"code\":\"invalid_continuation\"}}"
unfolding escape_byte digits
old_continuation = refl

other_owner : refused (refusals.AccessDenied 5 None) ≡ codes "HTTP/1.1 403 Forbidden\r\nconnection: close\r\ncontent-length: 55\r\ncontent-type: application/json\r\n\r\n{\"error\":{\"code\":\"access_denied\",\"rule\":\"other_owner\"}}"
unfolding escape_byte digits
other_owner = refl

over_limit : refused (refusals.AccessDenied 9 (Some 60)) ≡ codes "HTTP/1.1 403 Forbidden\r\nconnection: close\r\ncontent-length: 67\r\ncontent-type: application/json\r\n\r\n{\"error\":{\"code\":\"access_denied\",\"rule\":\"over_limit\",\"spent\":\"60\"}}"
unfolding escape_byte digits
over_limit = refl

fixed_origin : refused refusals.OriginFixed ≡ codes "HTTP/1.1 409 Conflict\r\nconnection: close\r\ncontent-length: 33\r\ncontent-type: application/json\r\n\r\n{\"error\":{\"code\":\"origin_fixed\"}}"
unfolding escape_byte digits
fixed_origin = refl

already_there : refused refusals.AlreadyExists ≡ codes "HTTP/1.1 409 Conflict\r\nconnection: close\r\ncontent-length: 35\r\ncontent-type: application/json\r\n\r\n{\"error\":{\"code\":\"already_exists\"}}"
unfolding escape_byte digits
already_there = refl

used_transfer : refused refusals.TransferIdUsed ≡ codes "HTTP/1.1 409 Conflict\r\nconnection: close\r\ncontent-length: 37\r\ncontent-type: application/json\r\n\r\n{\"error\":{\"code\":\"transfer_id_used\"}}"
unfolding escape_byte digits
used_transfer = refl

used_quote : refused refusals.QuoteUsed ≡ codes "HTTP/1.1 409 Conflict\r\nconnection: close\r\ncontent-length: 31\r\ncontent-type: application/json\r\n\r\n{\"error\":{\"code\":\"quote_used\"}}"
unfolding escape_byte digits
used_quote = refl

not_pending : refused refusals.NotPending ≡ codes "HTTP/1.1 409 Conflict\r\nconnection: close\r\ncontent-length: 32\r\ncontent-type: application/json\r\n\r\n{\"error\":{\"code\":\"not_pending\"}}"
unfolding escape_byte digits
not_pending = refl

zero_amount : refused refusals.ZeroAmount ≡ codes "HTTP/1.1 400 Bad Request\r\nconnection: close\r\ncontent-length: 32\r\ncontent-type: application/json\r\n\r\n{\"error\":{\"code\":\"zero_amount\"}}"
unfolding escape_byte digits
zero_amount = refl

other_asset : refused refusals.AssetMismatch ≡ codes "HTTP/1.1 400 Bad Request\r\nconnection: close\r\ncontent-length: 35\r\ncontent-type: application/json\r\n\r\n{\"error\":{\"code\":\"asset_mismatch\"}}"
unfolding escape_byte digits
other_asset = refl

asset_full : refused (refusals.AssetFull 1000000000000000000) ≡ codes "HTTP/1.1 409 Conflict\r\nconnection: close\r\ncontent-length: 61\r\ncontent-type: application/json\r\n\r\n{\"error\":{\"code\":\"asset_full\",\"total\":\"1000000000000000000\"}}"
unfolding escape_byte digits
asset_full = refl

short : refused (refusals.Short 990) ≡ codes "HTTP/1.1 409 Conflict\r\nconnection: close\r\ncontent-length: 44\r\ncontent-type: application/json\r\n\r\n{\"error\":{\"available\":\"990\",\"code\":\"short\"}}"
unfolding escape_byte digits
short = refl

same_asset : refused refusals.SameAsset ≡ codes "HTTP/1.1 400 Bad Request\r\nconnection: close\r\ncontent-length: 31\r\ncontent-type: application/json\r\n\r\n{\"error\":{\"code\":\"same_asset\"}}"
unfolding escape_byte digits
same_asset = refl

ended_payment : refused refusals.AlreadyEnded ≡ codes "HTTP/1.1 409 Conflict\r\nconnection: close\r\ncontent-length: 34\r\ncontent-type: application/json\r\n\r\n{\"error\":{\"code\":\"already_ended\"}}"
unfolding escape_byte digits
ended_payment = refl

no_interaction : refused refusals.InvalidInteraction ≡ codes "HTTP/1.1 400 Bad Request\r\nconnection: close\r\ncontent-length: 40\r\ncontent-type: application/json\r\n\r\n{\"error\":{\"code\":\"invalid_interaction\"}}"
unfolding escape_byte digits
no_interaction = refl

strange_name : refused refusals.RequestDenied ≡ codes "HTTP/1.1 403 Forbidden\r\nconnection: close\r\ncontent-length: 35\r\ncontent-type: application/json\r\n\r\n{\"error\":{\"code\":\"request_denied\"}}"
unfolding escape_byte digits
strange_name = refl

rejected_grant : refused refusals.UserDenied ≡ codes "HTTP/1.1 403 Forbidden\r\nconnection: close\r\ncontent-length: 32\r\ncontent-type: application/json\r\n\r\n{\"error\":{\"code\":\"user_denied\"}}"
unfolding escape_byte digits
rejected_grant = refl

too_fast : refused refusals.TooFast ≡ codes "HTTP/1.1 400 Bad Request\r\nconnection: close\r\ncontent-length: 29\r\ncontent-type: application/json\r\n\r\n{\"error\":{\"code\":\"too_fast\"}}"
unfolding escape_byte digits
too_fast = refl

past_expiry : refused refusals.ExpiresInPast ≡ codes "HTTP/1.1 400 Bad Request\r\nconnection: close\r\ncontent-length: 36\r\ncontent-type: application/json\r\n\r\n{\"error\":{\"code\":\"expires_in_past\"}}"
unfolding escape_byte digits
past_expiry = refl

closed_payment : refused refusals.AlreadyClosed ≡ codes "HTTP/1.1 409 Conflict\r\nconnection: close\r\ncontent-length: 35\r\ncontent-type: application/json\r\n\r\n{\"error\":{\"code\":\"already_closed\"}}"
unfolding escape_byte digits
closed_payment = refl

closed_receiver : refused refusals.ReceiverClosed ≡ codes "HTTP/1.1 409 Conflict\r\nconnection: close\r\ncontent-length: 36\r\ncontent-type: application/json\r\n\r\n{\"error\":{\"code\":\"receiver_closed\"}}"
unfolding escape_byte digits
closed_receiver = refl

no_amount : refused refusals.NoAmount ≡ codes "HTTP/1.1 400 Bad Request\r\nconnection: close\r\ncontent-length: 30\r\ncontent-type: application/json\r\n\r\n{\"error\":{\"code\":\"no_amount\"}}"
unfolding escape_byte digits
no_amount = refl

no_rate : refused refusals.NoRate ≡ codes "HTTP/1.1 409 Conflict\r\nconnection: close\r\ncontent-length: 28\r\ncontent-type: application/json\r\n\r\n{\"error\":{\"code\":\"no_rate\"}}"
unfolding escape_byte digits
no_rate = refl

too_large : refused refusals.TooLarge ≡ codes "HTTP/1.1 400 Bad Request\r\nconnection: close\r\ncontent-length: 30\r\ncontent-type: application/json\r\n\r\n{\"error\":{\"code\":\"too_large\"}}"
unfolding escape_byte digits
too_large = refl

too_small : refused refusals.TooSmall ≡ codes "HTTP/1.1 400 Bad Request\r\nconnection: close\r\ncontent-length: 30\r\ncontent-type: application/json\r\n\r\n{\"error\":{\"code\":\"too_small\"}}"
unfolding escape_byte digits
too_small = refl

over_receiver : refused (refusals.OverReceiver 100) ≡ codes "HTTP/1.1 409 Conflict\r\nconnection: close\r\ncontent-length: 47\r\ncontent-type: application/json\r\n\r\n{\"error\":{\"code\":\"over_receiver\",\"room\":\"100\"}}"
unfolding escape_byte digits
over_receiver = refl

expired_quote : refused refusals.QuoteExpired ≡ codes "HTTP/1.1 409 Conflict\r\nconnection: close\r\ncontent-length: 34\r\ncontent-type: application/json\r\n\r\n{\"error\":{\"code\":\"quote_expired\"}}"
unfolding escape_byte digits
expired_quote = refl

no_memory : refused refusals.Memory ≡ codes "HTTP/1.1 500 Internal Server Error\r\nconnection: close\r\ncontent-length: 34\r\ncontent-type: application/json\r\n\r\n{\"error\":{\"code\":\"out_of_memory\"}}"
unfolding escape_byte digits
no_memory = refl

failed_disk : refused refusals.DiskFault ≡ codes "HTTP/1.1 503 Service Unavailable\r\nconnection: close\r\ncontent-length: 31\r\ncontent-type: application/json\r\n\r\n{\"error\":{\"code\":\"disk_fault\"}}"
unfolding escape_byte digits
failed_disk = refl

full_journal : refused refusals.JournalFull ≡ codes "HTTP/1.1 507 Insufficient Storage\r\nconnection: close\r\ncontent-length: 33\r\ncontent-type: application/json\r\n\r\n{\"error\":{\"code\":\"journal_full\"}}"
unfolding escape_byte digits
full_journal = refl

-- ---- the provider's own, and what became of grants and tokens

abbrev eur : Asset
eur = record { code = codes "EUR"; scale = 2 }

-- all payments from alice may be read and listed, and one incoming payment be paid 42 cents
abbrev receiving : ItemShown
receiving = record {
  kind = 3;
  actions = 56;
  identifier = Some (codes "/alice");
  limits = Some (record { receiver = Some 7; debit = None; receive = Some (record { value = 42; asset = eur }); interval = None });
}

origin_set : told (bodies.OriginSet origin) ≡ codes "HTTP/1.1 200 OK\r\nconnection: close\r\ncontent-length: 35\r\ncontent-type: application/json\r\n\r\n{\"origin\":\"https://wallet.example\"}"
unfolding escape_byte digits
origin_set = refl

rate_set : told (bodies.RateSet usd eur (record { num = 3; den = 7 })) ≡ codes "HTTP/1.1 200 OK\r\nconnection: close\r\ncontent-length: 103\r\ncontent-type: application/json\r\n\r\n{\"den\":\"7\",\"from\":{\"assetCode\":\"USD\",\"assetScale\":2},\"num\":\"3\",\"to\":{\"assetCode\":\"EUR\",\"assetScale\":2}}"
unfolding escape_byte digits
rate_set = refl

withdrawn_fees : told (bodies.Transferred (codes "w-1") accounts.Fees (record { value = 10; asset = usd })) ≡ codes "HTTP/1.1 201 Created\r\nconnection: close\r\ncontent-length: 94\r\ncontent-type: application/json\r\n\r\n{\"account\":\"fees\",\"amount\":{\"assetCode\":\"USD\",\"assetScale\":2,\"value\":\"10\"},\"transferId\":\"w-1\"}"
unfolding escape_byte digits
withdrawn_fees = refl

decided_without_finish : told (bodies.GrantDecided None) ≡ codes "HTTP/1.1 200 OK\r\nconnection: close\r\ncontent-length: 2\r\ncontent-type: application/json\r\n\r\n{}"
unfolding escape_byte digits
decided_without_finish = refl

failed_payment : told (bodies.OutgoingInspected 1 (record { state = states.Failed; step = 5; sent = 45; fee = 0; delivered = 19; reason = 2 })) ≡ codes "HTTP/1.1 200 OK\r\nconnection: close\r\ncontent-length: 137\r\ncontent-type: application/json\r\n\r\n{\"delivered\":\"19\",\"fee\":\"0\",\"id\":\"00000003-0000-8000-8000-000000000001\",\"reason\":\"receiver_closed\",\"sent\":\"45\",\"state\":\"FAILED\",\"step\":5}"
unfolding escape_byte digits hex_on_literals hex_of
failed_payment = refl

polled : told (bodies.GrantPolled 1 (codes "c09090909090909090909090909090909-3")) ≡ codes "HTTP/1.1 200 OK\r\nconnection: close\r\ncontent-length: 163\r\ncontent-type: application/json\r\n\r\n{\"continue\":{\"access_token\":{\"value\":\"c09090909090909090909090909090909-3\"},\"uri\":\"https://wallet.example/continue/00000004-0000-8000-8000-000000000001\",\"wait\":5}}"
unfolding escape_byte digits hex_on_literals hex_of
polled = refl

rotated : told (bodies.TokenRotated 3 (receiving ∷ []) (codes "a08080808080808080808080808080808-8")) ≡ codes "HTTP/1.1 200 OK\r\nconnection: close\r\ncontent-length: 448\r\ncontent-type: application/json\r\n\r\n{\"access_token\":{\"access\":[{\"actions\":[\"read-all\",\"list\",\"list-all\"],\"identifier\":\"https://wallet.example/alice\",\"limits\":{\"receiveAmount\":{\"assetCode\":\"EUR\",\"assetScale\":2,\"value\":\"42\"},\"receiver\":\"https://wallet.example/incoming-payments/00000001-0000-8000-8000-000000000007\"},\"type\":\"outgoing-payment\"}],\"expires_in\":600,\"manage\":\"https://wallet.example/token/00000004-0000-8000-8000-000000000003\",\"value\":\"a08080808080808080808080808080808-8\"}}"
unfolding escape_byte digits hex_on_literals hex_of
rotated = refl

cancelled : told bodies.NoContent ≡ codes "HTTP/1.1 204 No Content\r\nconnection: close\r\n\r\n"
cancelled = refl

-- ---- rows that are read

abbrev incoming : (completed : Bool) → (metadata : Option (List ℕ)) → IncomingShown
incoming completed metadata = record {
  number = 1;
  path = codes "/shop";
  amount = None;
  received = amount 0;
  completed = completed;
  made = 1709294400000;
  expiry = 1711886400000;
  metadata = metadata;
}

completed_incoming : told (bodies.IncomingRead (incoming true (Some (codes "{\"page\":\"news\"}")))) ≡ codes "HTTP/1.1 200 OK\r\nconnection: close\r\ncontent-length: 331\r\ncontent-type: application/json\r\n\r\n{\"completed\":true,\"createdAt\":\"2024-03-01T12:00:00.000Z\",\"expiresAt\":\"2024-03-31T12:00:00.000Z\",\"id\":\"https://wallet.example/incoming-payments/00000001-0000-8000-8000-000000000001\",\"metadata\":{\"page\":\"news\"},\"methods\":[],\"receivedAmount\":{\"assetCode\":\"USD\",\"assetScale\":2,\"value\":\"0\"},\"walletAddress\":\"https://wallet.example/shop\"}"
unfolding escape_byte digits hex_on_literals hex_of serde_json_on_literals is_utf8 chars
completed_incoming = refl

abbrev quote : QuoteShown
quote = record {
  number = 1;
  path = codes "/alice";
  incoming = 1;
  debit = amount 102;
  receive = record { value = 42; asset = eur };
  made = 1709294400000;
  expiry = 1709294700000;
}

quote_read : told (bodies.QuoteRead quote) ≡ codes "HTTP/1.1 200 OK\r\nconnection: close\r\ncontent-length: 433\r\ncontent-type: application/json\r\n\r\n{\"createdAt\":\"2024-03-01T12:00:00.000Z\",\"debitAmount\":{\"assetCode\":\"USD\",\"assetScale\":2,\"value\":\"102\"},\"expiresAt\":\"2024-03-01T12:05:00.000Z\",\"id\":\"https://wallet.example/quotes/00000002-0000-8000-8000-000000000001\",\"method\":\"ilp\",\"receiveAmount\":{\"assetCode\":\"EUR\",\"assetScale\":2,\"value\":\"42\"},\"receiver\":\"https://wallet.example/incoming-payments/00000001-0000-8000-8000-000000000001\",\"walletAddress\":\"https://wallet.example/alice\"}"
unfolding escape_byte digits hex_on_literals hex_of
quote_read = refl

-- ---- lists and feeds

abbrev event : ℕ → FeedEvent
event sent = record { sent = amount sent; incoming = 1; payee = codes "/shop" }

first_of_two : told (bodies.IncomingsListed (incoming false None ∷ []) false true) ≡ codes "HTTP/1.1 200 OK\r\nconnection: close\r\ncontent-length: 480\r\ncontent-type: application/json\r\n\r\n{\"pagination\":{\"endCursor\":\"00000001-0000-8000-8000-000000000001\",\"hasNextPage\":true,\"hasPreviousPage\":false,\"startCursor\":\"00000001-0000-8000-8000-000000000001\"},\"result\":[{\"completed\":false,\"createdAt\":\"2024-03-01T12:00:00.000Z\",\"expiresAt\":\"2024-03-31T12:00:00.000Z\",\"id\":\"https://wallet.example/incoming-payments/00000001-0000-8000-8000-000000000001\",\"methods\":[],\"receivedAmount\":{\"assetCode\":\"USD\",\"assetScale\":2,\"value\":\"0\"},\"walletAddress\":\"https://wallet.example/shop\"}]}"
unfolding escape_byte digits hex_on_literals hex_of
first_of_two = refl

empty_page : told (bodies.OutgoingsListed [] true false) ≡ codes "HTTP/1.1 200 OK\r\nconnection: close\r\ncontent-length: 71\r\ncontent-type: application/json\r\n\r\n{\"pagination\":{\"hasNextPage\":false,\"hasPreviousPage\":true},\"result\":[]}"
unfolding escape_byte digits
empty_page = refl

page_feed : told (bodies.FeedRead (event 1000 ∷ event 45 ∷ [])) ≡ codes "HTTP/1.1 200 OK\r\nconnection: close\r\ncontent-length: 401\r\ncontent-type: application/json\r\n\r\n{\"events\":[{\"amountSent\":{\"currency\":\"USD\",\"value\":\"10.00\"},\"incomingPayment\":\"https://wallet.example/incoming-payments/00000001-0000-8000-8000-000000000001\",\"paymentPointer\":\"https://wallet.example/shop\"},{\"amountSent\":{\"currency\":\"USD\",\"value\":\"0.45\"},\"incomingPayment\":\"https://wallet.example/incoming-payments/00000001-0000-8000-8000-000000000001\",\"paymentPointer\":\"https://wallet.example/shop\"}]}"
unfolding escape_byte digits hex_on_literals hex_of
page_feed = refl
