-- Webhook messages: the bytes that tell an event, signed (RFC 2104). The types of events are those of Rafiki's webhooks;
-- the members, the head and how it is signed are this project's own.
use Rattle.std.specs.Prelude.{ℕ, List, [], ◌++◌, length, codes}
use Rattle.std.specs.Fmt.{decimal}
use Rattle.std.specs.Option.{option_map_or}
use Rattle.hex.specs.Hex.{encode_lower}
use Rattle.op_names.specs.Hmac.{hmac}
use Rattle.op_names.specs.declared.Kind.TheVariants as kinds
use Rattle.op_model.specs.History.{origin_of}
use Rattle.op_model.specs.Events.{event_row}
use Rattle.op_model.specs.Shown.{path_of_address}
use Rattle.op_model.specs.Bodies.{id, incoming_url, outgoing_url, address_url, amount_data}
use Rattle.op_model.specs.declared.act.Entry.{Entry}
use Rattle.op_model.specs.declared.row.EventRow.{EventRow}
use Rattle.op_model.specs.declared.row.EventBody.{EventBody}
use Rattle.op_model.specs.declared.row.EventBody.TheVariants.{Incoming, Outgoing}
use Rattle.op_model.specs.declared.row.EventWord.{EventWord}
use Rattle.op_model.specs.declared.row.EventWord.TheVariants as words
use Rattle.serde_json.specs.Data.{Data, object, member, no_members, string}
use Rattle.serde_json.specs.Written.{compact_text}

abbrev pub event_type : EventWord → List ℕ
event_type words.IncomingCreated = codes "incoming_payment.created"
event_type words.IncomingCompleted = codes "incoming_payment.completed"
event_type words.IncomingExpired = codes "incoming_payment.expired"
event_type words.OutgoingCreated = codes "outgoing_payment.created"
event_type words.OutgoingCompleted = codes "outgoing_payment.completed"
event_type words.OutgoingFailed = codes "outgoing_payment.failed"

-- the payment's URL, the values right after the event's act, and the address's URL
abbrev pub event_values : (origin path : List ℕ) → ℕ → EventBody → Data
event_values origin path row (Incoming received) = object (
    member (codes "id") (string (incoming_url origin row)) (
    member (codes "receivedAmount") (amount_data received) (
    member (codes "walletAddress") (string (address_url origin path)) no_members)))
event_values origin path row (Outgoing debit receive sent) = object (
    member (codes "debitAmount") (amount_data debit) (
    member (codes "id") (string (outgoing_url origin row)) (
    member (codes "receiveAmount") (amount_data receive) (
    member (codes "sentAmount") (amount_data sent) (
    member (codes "walletAddress") (string (address_url origin path)) no_members)))))

-- event n of an address, as JSON
abbrev pub event_body : (origin path : List ℕ) → ℕ → EventRow → List ℕ
event_body origin path n event = compact_text (object (
    member (codes "data") (event_values origin path event.row event.body) (
    member (codes "id") (string (id kinds.Event n)) (
    member (codes "type") (string (event_type event.word)) no_members))))

-- the HMAC of the turn's moment, a point and the body, in hexadecimal
abbrev pub signature : (secret : List ℕ) → ℕ → (body : List ℕ) → List ℕ
signature secret t body = encode_lower (hmac secret (decimal t ++ codes "." ++ body))

abbrev pub signed : (secret : List ℕ) → ℕ → (body : List ℕ) → List ℕ
signed secret t body =
    codes "POST / HTTP/1.1\r\nconnection: close\r\ncontent-length: " ++ decimal (length body)
    ++ codes "\r\ncontent-type: application/json\r\nhost: 127.0.0.1\r\nwallet-signature: t=" ++ decimal t
    ++ codes ", v1=" ++ signature secret t body ++ codes "\r\n\r\n" ++ body

abbrev pub message_of : (origin path : List ℕ) → ℕ → EventRow → ℕ → (secret : List ℕ) → List ℕ
message_of origin path n event t secret = signed secret t (event_body origin path n event)

-- the message of event n of a history at t
abbrev pub message : List Entry → ℕ → ℕ → (secret : List ℕ) → List ℕ
message history n t secret =
    option_map_or (λ event. message_of (origin_of history) (path_of_address history event.address) n event t secret) (event_row history n) []
