-- Replies as bytes: status, fields and body (RFC 9112, sections 4 to 6; RFC 9110, section 15).
use Rattle.std.specs.Prelude.{ℕ, List, [], ◌∷◌, ◌++◌, length, codes, Some, None, option_map, unwrap_or}
use Rattle.std.specs.Option.{option_map_or}
use Rattle.std.specs.Fmt.{decimal}
use Rattle.std.specs.declared.option.Option.{Option}
use Rattle.op_model.specs.Bodies as bodies
use Rattle.op_model.specs.History.{nth}
use Rattle.op_model.specs.declared.reply.Reply.{Reply}
use Rattle.op_model.specs.declared.reply.ReplyBody.{ReplyBody}
use Rattle.op_model.specs.declared.reply.ReplyBody.TheVariants as replies
use Rattle.op_model.specs.declared.reply.Refusal.{Refusal}
use Rattle.op_model.specs.declared.reply.Refusal.TheVariants as refusals
use Rattle.serde_json.specs.Data.{Data, object, Members, member, no_members, string}
use Rattle.serde_json.specs.Written.{compact_text}

-- What a reply says: its status with the phrase; the methods of a path where another was used (RFC 9110, section 10.2.1);
-- where a grant is asked for, where a proof or a token is missing (RFC 9635, section 9.1); and its body, if it has one.
pub record Said : Type 0 where
  pub status : List ℕ
  pub allow : Option (List ℕ)
  pub challenge : Option (List ℕ)
  pub body : Option Data

abbrev pub telling : (status : List ℕ) → Data → Said
telling status body = record { status = status; allow = None; challenge = None; body = Some body }

-- ---- refusals: `{"error":{..}}`, with the members before `code` and those behind it

abbrev pub error_body : Members → Data
error_body members = object (member (codes "error") (object members) no_members)

abbrev pub coded : List ℕ → Members → Members
coded code more = member (codes "code") (string code) more

-- `code` alone, with an offset before it, and with a member behind it
abbrev pub error : List ℕ → Data
error code = error_body (coded code no_members)

abbrev pub error_at : (code : List ℕ) → ℕ → Data
error_at code at = error_body (member (codes "at") (bodies.whole at) (coded code no_members))

abbrev pub error_with : (code name : List ℕ) → Data → Data
error_with code name value = error_body (coded code (member name value no_members))

abbrev pub error_name : (code name : List ℕ) → Data
error_name code name = error_with code (codes "name") (string name)

-- the available value stands before the code
abbrev pub error_short : ℕ → Data
error_short available = error_body (member (codes "available") (bodies.digits available) (coded (codes "short") no_members))

-- the texts of the nine access rules, the first of number 1
abbrev pub rule_texts : List (List ℕ)
rule_texts =
    codes "other_client" ∷ codes "no_type" ∷ codes "no_action" ∷ codes "other_address" ∷ codes "other_owner"
    ∷ codes "limit_receiver" ∷ codes "limit_asset" ∷ codes "outside_interval" ∷ codes "over_limit" ∷ []

abbrev pub rule_text : ℕ → List ℕ
rule_text rule = unwrap_or (nth rule_texts rule) []

abbrev pub error_denied : ℕ → Option ℕ → Data
error_denied rule spent = error_body (coded (codes "access_denied") (
    member (codes "rule") (string (rule_text rule)) (
    bodies.optional (codes "spent") (option_map bodies.digits spent) no_members)))

-- a bad request, a conflict, and a client that has to show who it is
abbrev pub bad_request : Data → Said
bad_request body = telling (codes "400 Bad Request") body

abbrev pub conflict : Data → Said
conflict body = telling (codes "409 Conflict") body

abbrev pub unauthorized : (origin code : List ℕ) → Said
unauthorized origin code = record {
  status = codes "401 Unauthorized";
  allow = None;
  challenge = Some (codes "GNAP as_uri=" ++ bodies.grant_url origin);
  body = Some (error code);
}

abbrev pub refusal_said : (origin : List ℕ) → Refusal → Said
refusal_said origin (refusals.BadHttp at) = bad_request (error_at (codes "bad_http") at)
refusal_said origin (refusals.LengthRequired at) = telling (codes "411 Length Required") (error_at (codes "length_required") at)
refusal_said origin (refusals.RequestTooLarge at) = telling (codes "413 Payload Too Large") (error_at (codes "request_too_large") at)
refusal_said origin refusals.NotFound = telling (codes "404 Not Found") (error (codes "not_found"))
refusal_said origin (refusals.MethodNotAllowed allow) =
    record { status = codes "405 Method Not Allowed"; allow = Some allow; challenge = None; body = Some (error (codes "method_not_allowed")) }
refusal_said origin refusals.BadJson = bad_request (error (codes "bad_json"))
refusal_said origin (refusals.BadField name) = bad_request (error_name (codes "bad_field") name)
refusal_said origin (refusals.InvalidRequest name) = bad_request (error_body (coded (codes "invalid_request") (
    bodies.optional (codes "name") (bodies.text_if name) no_members)))
refusal_said origin refusals.InvalidClient = unauthorized origin (codes "invalid_client")
refusal_said origin refusals.InvalidToken = unauthorized origin (codes "invalid_token")
refusal_said origin refusals.InvalidContinuation = unauthorized origin (codes "invalid_continuation")
refusal_said origin (refusals.AccessDenied rule spent) = telling (codes "403 Forbidden") (error_denied rule spent)
refusal_said origin refusals.OriginFixed = conflict (error (codes "origin_fixed"))
refusal_said origin refusals.AlreadyExists = conflict (error (codes "already_exists"))
refusal_said origin refusals.TransferIdUsed = conflict (error (codes "transfer_id_used"))
refusal_said origin refusals.QuoteUsed = conflict (error (codes "quote_used"))
refusal_said origin refusals.NotPending = conflict (error (codes "not_pending"))
refusal_said origin refusals.ZeroAmount = bad_request (error (codes "zero_amount"))
refusal_said origin refusals.AssetMismatch = bad_request (error (codes "asset_mismatch"))
refusal_said origin (refusals.AssetFull total) = conflict (error_with (codes "asset_full") (codes "total") (bodies.digits total))
refusal_said origin (refusals.Short available) = conflict (error_short available)
refusal_said origin refusals.SameAsset = bad_request (error (codes "same_asset"))
refusal_said origin refusals.AlreadyEnded = conflict (error (codes "already_ended"))
refusal_said origin refusals.InvalidInteraction = bad_request (error (codes "invalid_interaction"))
refusal_said origin refusals.RequestDenied = telling (codes "403 Forbidden") (error (codes "request_denied"))
refusal_said origin refusals.UserDenied = telling (codes "403 Forbidden") (error (codes "user_denied"))
refusal_said origin refusals.TooFast = bad_request (error (codes "too_fast"))
refusal_said origin refusals.ExpiresInPast = bad_request (error (codes "expires_in_past"))
refusal_said origin refusals.AlreadyClosed = conflict (error (codes "already_closed"))
refusal_said origin refusals.ReceiverClosed = conflict (error (codes "receiver_closed"))
refusal_said origin refusals.NoAmount = bad_request (error (codes "no_amount"))
refusal_said origin refusals.NoRate = conflict (error (codes "no_rate"))
refusal_said origin refusals.TooLarge = bad_request (error (codes "too_large"))
refusal_said origin refusals.TooSmall = bad_request (error (codes "too_small"))
refusal_said origin (refusals.OverReceiver room) = conflict (error_with (codes "over_receiver") (codes "room") (bodies.digits room))
refusal_said origin refusals.QuoteExpired = conflict (error (codes "quote_expired"))
refusal_said origin refusals.Memory = telling (codes "500 Internal Server Error") (error (codes "out_of_memory"))
refusal_said origin refusals.DiskFault = telling (codes "503 Service Unavailable") (error (codes "disk_fault"))
refusal_said origin refusals.JournalFull = telling (codes "507 Insufficient Storage") (error (codes "journal_full"))

-- ---- successes

abbrev pub ok : Data → Said
ok body = telling (codes "200 OK") body

abbrev pub created : Data → Said
created body = telling (codes "201 Created") body

abbrev pub no_content : Said
no_content = record { status = codes "204 No Content"; allow = None; challenge = None; body = None }

-- what is not replied to anybody (a step, an expiry, an attempt) says nothing
abbrev pub said : (origin : List ℕ) → ReplyBody → Option Said
said origin (replies.OriginSet set) = Some (ok (bodies.origin_data set))
said origin (replies.AssetAdded asset pieces) = Some (created (bodies.asset_added_data asset pieces))
said origin (replies.AssetInspected asset pieces pool fees total) = Some (ok (bodies.asset_inspected_data asset pieces pool fees total))
said origin (replies.AddressAdded number address) = Some (created (bodies.address_added_data origin number address))
said origin (replies.AddressInspected number path available posted) = Some (ok (bodies.address_inspected_data origin number path available posted))
said origin (replies.Transferred transfer account amount) = Some (created (bodies.transferred_data origin transfer account amount))
said origin (replies.RateSet source target rate) = Some (ok (bodies.rate_data source target rate.num rate.den))
said origin (replies.GrantDecided redirect) = Some (ok (bodies.grant_decided_data origin redirect))
said origin (replies.OutgoingInspected number payment) = Some (ok (bodies.outgoing_inspected_data number payment))
said origin (replies.AddressRead address) = Some (ok (bodies.address_read_data origin address))
said origin (replies.GrantIssued number items access continuation) = Some (ok (bodies.issued_data origin number items access continuation))
said origin (replies.GrantPending number nonce continuation) = Some (ok (bodies.pending_data origin number nonce continuation))
said origin (replies.GrantPolled number continuation) = Some (ok (bodies.polled_data origin number continuation))
said origin (replies.TokenRotated number items access) = Some (ok (bodies.rotated_data origin number items access))
said origin replies.NoContent = Some no_content
said origin (replies.IncomingMade incoming) = Some (created (bodies.incoming_data origin incoming))
said origin (replies.IncomingRead incoming) = Some (ok (bodies.incoming_data origin incoming))
said origin (replies.IncomingsListed rows has_previous has_next) = Some (ok (bodies.incomings_listed_data origin rows has_previous has_next))
said origin (replies.QuoteMade quote) = Some (created (bodies.quote_data origin quote))
said origin (replies.QuoteRead quote) = Some (ok (bodies.quote_data origin quote))
said origin (replies.OutgoingMade outgoing spent) = Some (created (bodies.outgoing_made_data origin outgoing spent))
said origin (replies.OutgoingRead outgoing) = Some (ok (bodies.outgoing_data origin outgoing))
said origin (replies.OutgoingsListed rows has_previous has_next) = Some (ok (bodies.outgoings_listed_data origin rows has_previous has_next))
said origin (replies.FeedRead events) = Some (ok (bodies.feed_read_data origin events))
said origin (replies.Refused refusal) = Some (refusal_said origin refusal)
said origin (replies.Stepped answer) = None
said origin replies.Noted = None
said origin replies.NotDue = None

-- ---- head and body

-- a field's line, where it has a value
abbrev pub line_if : (name : List ℕ) → Option (List ℕ) → List ℕ
line_if name None = []
line_if name (Some value) = name ++ (value ++ codes "\r\n")

abbrev pub content_lines : Option (List ℕ) → List ℕ
content_lines None = []
content_lines (Some body) = codes "content-length: " ++ (decimal (length body) ++ codes "\r\ncontent-type: application/json\r\n")

abbrev pub message : (status : List ℕ) (allow challenge body : Option (List ℕ)) → List ℕ
message status allow challenge body =
    codes "HTTP/1.1 " ++ (status ++ (codes "\r\n" ++ (line_if (codes "allow: ") allow ++ (codes "connection: close\r\n"
    ++ (content_lines body ++ (line_if (codes "www-authenticate: ") challenge ++ (codes "\r\n" ++ unwrap_or body [])))))))

abbrev pub said_text : Said → List ℕ
said_text what = message what.status what.allow what.challenge (option_map compact_text what.body)

abbrev pub printed : Reply → List ℕ
printed reply = option_map_or said_text (said reply.origin reply.body) []
