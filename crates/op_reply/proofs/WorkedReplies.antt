-- The bytes of the replies of the worked purchase, by computation: what the plain wallet answers in each turn, printed.
-- The expected texts were made by Python's `json`, `hashlib` and `base64`.
use Rattle.std.proofs.Common.{◌≡◌, refl, ℕ, List, [], codes, length}
use Rattle.std.specs.Prelude.{Some, slice_get}
use Rattle.std.specs.Option.{option_map_or}
use Rattle.std.specs.Fmt.{digits}
use Rattle.base64.proofs.OnLiterals.{base64_on_literals}
use Rattle.hex.proofs.OnLiterals.{hex_on_literals}
use Rattle.json.specs.Print.{escape_byte}
use Rattle.sha2.specs.Sha256.{sha256, first_words, schedule, rounds, compress, hash_after, digest_bytes}
use Rattle.op_names.specs.Ids.{hex_of}
use Rattle.op_names.specs.Interaction.{interaction_hash}
use Rattle.op_model.specs.Printed.{printed}
use Rattle.op_model.specs.declared.request.Request.{Request}
use Rattle.op_model.specs.declared.request.Request.TheVariants as requests
use Rattle.op_reply.proofs.WorkedPurchase.{Done, in_turn, provider, usd, purchase, history_after, outcome}

-- the bytes of the reply to what is done after the first n tasks
abbrev reply_after : ℕ → Done → List ℕ
reply_after n done = printed (outcome (history_after n) done).reply

-- the bytes of the reply to task n, counted from 0
abbrev reply_to : ℕ → List ℕ
reply_to n = option_map_or (reply_after n) (slice_get purchase n) []

-- ---- the provider sets up

asset_added : reply_to 0 ≡ codes "HTTP/1.1 201 Created\r\nconnection: close\r\ncontent-length: 45\r\ncontent-type: application/json\r\n\r\n{\"assetCode\":\"USD\",\"assetScale\":2,\"pieces\":2}"
unfolding escape_byte digits hex_on_literals hex_of
asset_added = refl

alice_added : reply_to 1 ≡ codes "HTTP/1.1 201 Created\r\nconnection: close\r\ncontent-length: 136\r\ncontent-type: application/json\r\n\r\n{\"assetCode\":\"USD\",\"assetScale\":2,\"id\":\"00000006-0000-8000-8000-000000000001\",\"publicName\":\"Alice\",\"url\":\"https://wallet.example/alice\"}"
unfolding escape_byte digits hex_on_literals hex_of
alice_added = refl

shop_added : reply_to 2 ≡ codes "HTTP/1.1 201 Created\r\nconnection: close\r\ncontent-length: 114\r\ncontent-type: application/json\r\n\r\n{\"assetCode\":\"USD\",\"assetScale\":2,\"id\":\"00000006-0000-8000-8000-000000000002\",\"url\":\"https://wallet.example/shop\"}"
unfolding escape_byte digits hex_on_literals hex_of
shop_added = refl

deposited : reply_to 3 ≡ codes "HTTP/1.1 201 Created\r\nconnection: close\r\ncontent-length: 123\r\ncontent-type: application/json\r\n\r\n{\"account\":\"https://wallet.example/alice\",\"amount\":{\"assetCode\":\"USD\",\"assetScale\":2,\"value\":\"10000\"},\"transferId\":\"dep-1\"}"
unfolding escape_byte digits hex_on_literals hex_of
deposited = refl

alice_found : reply_to 4 ≡ codes "HTTP/1.1 200 OK\r\nconnection: close\r\ncontent-length: 177\r\ncontent-type: application/json\r\n\r\n{\"assetCode\":\"USD\",\"assetScale\":2,\"authServer\":\"https://wallet.example/grant\",\"id\":\"https://wallet.example/alice\",\"publicName\":\"Alice\",\"resourceServer\":\"https://wallet.example\"}"
unfolding escape_byte digits hex_on_literals hex_of
alice_found = refl

-- ---- the shop asks to be paid, and for a quote

incoming_grant_issued : reply_to 5 ≡ codes "HTTP/1.1 200 OK\r\nconnection: close\r\ncontent-length: 389\r\ncontent-type: application/json\r\n\r\n{\"access_token\":{\"access\":[{\"actions\":[\"create\",\"complete\",\"read\"],\"type\":\"incoming-payment\"}],\"expires_in\":600,\"manage\":\"https://wallet.example/token/00000004-0000-8000-8000-000000000001\",\"value\":\"a05050505050505050505050505050505-5\"},\"continue\":{\"access_token\":{\"value\":\"c05050505050505050505050505050505-5\"},\"uri\":\"https://wallet.example/continue/00000004-0000-8000-8000-000000000001\"}}"
unfolding escape_byte digits hex_on_literals hex_of
incoming_grant_issued = refl

incoming_made : reply_to 6 ≡ codes "HTTP/1.1 201 Created\r\nconnection: close\r\ncontent-length: 372\r\ncontent-type: application/json\r\n\r\n{\"completed\":false,\"createdAt\":\"2024-03-01T12:00:06.000Z\",\"expiresAt\":\"2024-03-01T12:30:00.123Z\",\"id\":\"https://wallet.example/incoming-payments/00000001-0000-8000-8000-000000000001\",\"incomingAmount\":{\"assetCode\":\"USD\",\"assetScale\":2,\"value\":\"1000\"},\"methods\":[],\"receivedAmount\":{\"assetCode\":\"USD\",\"assetScale\":2,\"value\":\"0\"},\"walletAddress\":\"https://wallet.example/shop\"}"
unfolding escape_byte digits hex_on_literals hex_of
incoming_made = refl

quote_grant_issued : reply_to 7 ≡ codes "HTTP/1.1 200 OK\r\nconnection: close\r\ncontent-length: 360\r\ncontent-type: application/json\r\n\r\n{\"access_token\":{\"access\":[{\"actions\":[\"create\"],\"type\":\"quote\"}],\"expires_in\":600,\"manage\":\"https://wallet.example/token/00000004-0000-8000-8000-000000000002\",\"value\":\"a07070707070707070707070707070707-7\"},\"continue\":{\"access_token\":{\"value\":\"c07070707070707070707070707070707-7\"},\"uri\":\"https://wallet.example/continue/00000004-0000-8000-8000-000000000002\"}}"
unfolding escape_byte digits hex_on_literals hex_of
quote_grant_issued = refl

quote_made : reply_to 8 ≡ codes "HTTP/1.1 201 Created\r\nconnection: close\r\ncontent-length: 436\r\ncontent-type: application/json\r\n\r\n{\"createdAt\":\"2024-03-01T12:00:08.000Z\",\"debitAmount\":{\"assetCode\":\"USD\",\"assetScale\":2,\"value\":\"1010\"},\"expiresAt\":\"2024-03-01T12:05:08.000Z\",\"id\":\"https://wallet.example/quotes/00000002-0000-8000-8000-000000000001\",\"method\":\"ilp\",\"receiveAmount\":{\"assetCode\":\"USD\",\"assetScale\":2,\"value\":\"1000\"},\"receiver\":\"https://wallet.example/incoming-payments/00000001-0000-8000-8000-000000000001\",\"walletAddress\":\"https://wallet.example/alice\"}"
unfolding escape_byte digits hex_on_literals hex_of
quote_made = refl

-- ---- it asks for the right to spend, the provider accepts, and it is told by a hash that it was finished here

outgoing_grant_pending : reply_to 9 ≡ codes "HTTP/1.1 200 OK\r\nconnection: close\r\ncontent-length: 305\r\ncontent-type: application/json\r\n\r\n{\"continue\":{\"access_token\":{\"value\":\"c09090909090909090909090909090909-9\"},\"uri\":\"https://wallet.example/continue/00000004-0000-8000-8000-000000000003\",\"wait\":5},\"interact\":{\"finish\":\"n09090909090909090909090909090909-9\",\"redirect\":\"https://wallet.example/interact/00000004-0000-8000-8000-000000000003\"}}"
unfolding escape_byte digits hex_on_literals hex_of
outgoing_grant_pending = refl

-- the client's nonce, the server's, the reference and the grant endpoint, in this order
hash_of_the_purchase : interaction_hash (codes "n") (codes "n09090909090909090909090909090909-9") (codes "i0a0a0a0a0a0a0a0a0a0a0a0a0a0a0a0a-10") (codes "https://wallet.example/grant") ≡ codes "L4L4AydNgELPUXTZwl_pUV7LJ5iZiW-BgP5ifSp4m1g"
unfolding base64_on_literals sha256 first_words schedule rounds compress hash_after digest_bytes
hash_of_the_purchase = refl

-- the example of RFC 9635, section 4.2.3
hash_of_the_example : interaction_hash (codes "VJLO6A4CATR0KRO") (codes "MBDOFXG4Y5CVJCX821LH") (codes "4IFWWIKYB2PQ6U56NL1") (codes "https://server.example.com/tx") ≡ codes "x-gguKWTj8rQf7d7i3w3UhzvuJ5bpOlKyAlVpLxBffY"
unfolding base64_on_literals sha256 first_words schedule rounds compress hash_after digest_bytes
hash_of_the_example = refl

accepted : reply_to 10 ≡ codes "HTTP/1.1 200 OK\r\nconnection: close\r\ncontent-length: 139\r\ncontent-type: application/json\r\n\r\n{\"redirect\":\"https://shop.example/done?hash=L4L4AydNgELPUXTZwl_pUV7LJ5iZiW-BgP5ifSp4m1g&interact_ref=i0a0a0a0a0a0a0a0a0a0a0a0a0a0a0a0a-10\"}"
unfolding escape_byte digits hex_on_literals hex_of base64_on_literals sha256 first_words schedule rounds compress hash_after digest_bytes
accepted = refl

outgoing_grant_issued : reply_to 11 ≡ codes "HTTP/1.1 200 OK\r\nconnection: close\r\ncontent-length: 541\r\ncontent-type: application/json\r\n\r\n{\"access_token\":{\"access\":[{\"actions\":[\"create\",\"read\"],\"identifier\":\"https://wallet.example/alice\",\"limits\":{\"debitAmount\":{\"assetCode\":\"USD\",\"assetScale\":2,\"value\":\"5000\"},\"interval\":\"R12/2024-03-01T00:00:00Z/P1M\"},\"type\":\"outgoing-payment\"}],\"expires_in\":600,\"manage\":\"https://wallet.example/token/00000004-0000-8000-8000-000000000003\",\"value\":\"a0b0b0b0b0b0b0b0b0b0b0b0b0b0b0b0b-11\"},\"continue\":{\"access_token\":{\"value\":\"c0b0b0b0b0b0b0b0b0b0b0b0b0b0b0b0b-11\"},\"uri\":\"https://wallet.example/continue/00000004-0000-8000-8000-000000000003\"}}"
unfolding escape_byte digits hex_on_literals hex_of
outgoing_grant_issued = refl

-- ---- it pays in two pieces

outgoing_made : reply_to 12 ≡ codes "HTTP/1.1 201 Created\r\nconnection: close\r\ncontent-length: 621\r\ncontent-type: application/json\r\n\r\n{\"createdAt\":\"2024-03-01T12:00:12.000Z\",\"debitAmount\":{\"assetCode\":\"USD\",\"assetScale\":2,\"value\":\"1010\"},\"failed\":false,\"grantSpentDebitAmount\":{\"assetCode\":\"USD\",\"assetScale\":2,\"value\":\"1010\"},\"id\":\"https://wallet.example/outgoing-payments/00000003-0000-8000-8000-000000000001\",\"quoteId\":\"https://wallet.example/quotes/00000002-0000-8000-8000-000000000001\",\"receiveAmount\":{\"assetCode\":\"USD\",\"assetScale\":2,\"value\":\"1000\"},\"receiver\":\"https://wallet.example/incoming-payments/00000001-0000-8000-8000-000000000001\",\"sentAmount\":{\"assetCode\":\"USD\",\"assetScale\":2,\"value\":\"0\"},\"walletAddress\":\"https://wallet.example/alice\"}"
unfolding escape_byte digits hex_on_literals hex_of
outgoing_made = refl

nothing_sent : reply_to 14 ≡ codes "HTTP/1.1 200 OK\r\nconnection: close\r\ncontent-length: 547\r\ncontent-type: application/json\r\n\r\n{\"createdAt\":\"2024-03-01T12:00:12.000Z\",\"debitAmount\":{\"assetCode\":\"USD\",\"assetScale\":2,\"value\":\"1010\"},\"failed\":false,\"id\":\"https://wallet.example/outgoing-payments/00000003-0000-8000-8000-000000000001\",\"quoteId\":\"https://wallet.example/quotes/00000002-0000-8000-8000-000000000001\",\"receiveAmount\":{\"assetCode\":\"USD\",\"assetScale\":2,\"value\":\"1000\"},\"receiver\":\"https://wallet.example/incoming-payments/00000001-0000-8000-8000-000000000001\",\"sentAmount\":{\"assetCode\":\"USD\",\"assetScale\":2,\"value\":\"0\"},\"walletAddress\":\"https://wallet.example/alice\"}"
unfolding escape_byte digits hex_on_literals hex_of
nothing_sent = refl

half_sent : reply_to 16 ≡ codes "HTTP/1.1 200 OK\r\nconnection: close\r\ncontent-length: 549\r\ncontent-type: application/json\r\n\r\n{\"createdAt\":\"2024-03-01T12:00:12.000Z\",\"debitAmount\":{\"assetCode\":\"USD\",\"assetScale\":2,\"value\":\"1010\"},\"failed\":false,\"id\":\"https://wallet.example/outgoing-payments/00000003-0000-8000-8000-000000000001\",\"quoteId\":\"https://wallet.example/quotes/00000002-0000-8000-8000-000000000001\",\"receiveAmount\":{\"assetCode\":\"USD\",\"assetScale\":2,\"value\":\"1000\"},\"receiver\":\"https://wallet.example/incoming-payments/00000001-0000-8000-8000-000000000001\",\"sentAmount\":{\"assetCode\":\"USD\",\"assetScale\":2,\"value\":\"500\"},\"walletAddress\":\"https://wallet.example/alice\"}"
unfolding escape_byte digits hex_on_literals hex_of
half_sent = refl

all_sent : reply_to 18 ≡ codes "HTTP/1.1 200 OK\r\nconnection: close\r\ncontent-length: 550\r\ncontent-type: application/json\r\n\r\n{\"createdAt\":\"2024-03-01T12:00:12.000Z\",\"debitAmount\":{\"assetCode\":\"USD\",\"assetScale\":2,\"value\":\"1010\"},\"failed\":false,\"id\":\"https://wallet.example/outgoing-payments/00000003-0000-8000-8000-000000000001\",\"quoteId\":\"https://wallet.example/quotes/00000002-0000-8000-8000-000000000001\",\"receiveAmount\":{\"assetCode\":\"USD\",\"assetScale\":2,\"value\":\"1000\"},\"receiver\":\"https://wallet.example/incoming-payments/00000001-0000-8000-8000-000000000001\",\"sentAmount\":{\"assetCode\":\"USD\",\"assetScale\":2,\"value\":\"1000\"},\"walletAddress\":\"https://wallet.example/alice\"}"
unfolding escape_byte digits hex_on_literals hex_of
all_sent = refl

-- ---- at the end

acts_are_fifteen : length (history_after 19) ≡ 15
unfolding digits hex_on_literals
acts_are_fifteen = refl

-- what the provider reads behind the last turn
abbrev read_at_the_end : Request → List ℕ
read_at_the_end request = reply_after 19 (in_turn 16 (provider request))

fees_are_told : read_at_the_end (requests.InspectAsset (Some usd)) ≡ codes "HTTP/1.1 200 OK\r\nconnection: close\r\ncontent-length: 84\r\ncontent-type: application/json\r\n\r\n{\"assetCode\":\"USD\",\"assetScale\":2,\"fees\":\"10\",\"pieces\":2,\"pool\":\"0\",\"total\":\"10000\"}"
unfolding escape_byte digits hex_on_literals hex_of
fees_are_told = refl

alice_has : read_at_the_end (requests.InspectAddress (Some 1)) ≡ codes "HTTP/1.1 200 OK\r\nconnection: close\r\ncontent-length: 117\r\ncontent-type: application/json\r\n\r\n{\"available\":\"8990\",\"id\":\"00000006-0000-8000-8000-000000000001\",\"posted\":\"8990\",\"url\":\"https://wallet.example/alice\"}"
unfolding escape_byte digits hex_on_literals hex_of
alice_has = refl

shop_has : read_at_the_end (requests.InspectAddress (Some 2)) ≡ codes "HTTP/1.1 200 OK\r\nconnection: close\r\ncontent-length: 116\r\ncontent-type: application/json\r\n\r\n{\"available\":\"1000\",\"id\":\"00000006-0000-8000-8000-000000000002\",\"posted\":\"1000\",\"url\":\"https://wallet.example/shop\"}"
unfolding escape_byte digits hex_on_literals hex_of
shop_has = refl

payment_is_completed : read_at_the_end (requests.InspectOutgoing (Some 1)) ≡ codes "HTTP/1.1 200 OK\r\nconnection: close\r\ncontent-length: 118\r\ncontent-type: application/json\r\n\r\n{\"delivered\":\"1000\",\"fee\":\"10\",\"id\":\"00000003-0000-8000-8000-000000000001\",\"sent\":\"1000\",\"state\":\"COMPLETED\",\"step\":3}"
unfolding escape_byte digits hex_on_literals hex_of
payment_is_completed = refl
