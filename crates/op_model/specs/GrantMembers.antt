-- What the members of a grant request (RFC 9635, section 2) and of a continuation (section 5) mean. Types, actions and
-- limits are those of Open Payments.
use Rattle.std.specs.Prelude.{ℕ, ◌^◌, Bool, true, false, ◌&&◌, ◌==◌, nat_le, nat_lt, if◌then◌else◌, List, [], ◌∷◌, length, take, drop, filter_map, codes, bit_or, fold, Some, None, Ok, Err, option_map, option_and_then, unwrap_or}
use Rattle.std.specs.List.{list_any, find}
use Rattle.std.specs.Option.{option_map_or}
use Rattle.std.specs.Result.{result_ok}
use Rattle.std.specs.Str.{bytes_eq}
use Rattle.std.specs.Str.Parse.{digits_value}
use Rattle.std.specs.declared.option.Option.{Option}
use Rattle.std.specs.declared.result.Result.{Result}
use Rattle.op_amount.specs.declared.Amount.{Amount}
use Rattle.op_names.specs.Forms.{is_word, is_client, is_finish_uri}
use Rattle.op_names.specs.Names.{address_in, row_in}
use Rattle.op_names.specs.Secrets.{secret_text}
use Rattle.op_names.specs.declared.AddressName.{AddressName}
use Rattle.op_names.specs.declared.Kind.TheVariants as kinds
use Rattle.op_names.specs.declared.RowName.{RowName}
use Rattle.op_names.specs.declared.Letter.TheVariants.{Interaction}
use Rattle.op_model.specs.Actions as actions
use Rattle.op_model.specs.Asking.{◌>>=◌}
use Rattle.op_model.specs.Bodies.{action_names, type_text}
use Rattle.op_model.specs.Json.{if_object, text_in, list_in, optional_in, each_of, or_bad, with_members}
use Rattle.op_model.specs.Legal.{is_item, is_interval, nonce_limit}
use Rattle.op_model.specs.Members.{text_if, member_of, optional_of, amount_of}
use Rattle.op_model.specs.declared.grant.Finish.{Finish}
use Rattle.op_model.specs.declared.grant.Interact.{Interact}
use Rattle.op_model.specs.declared.grant.Interact.TheVariants.{Missing, NoRedirect, Redirect}
use Rattle.op_model.specs.declared.reply.Refusal.{Refusal}
use Rattle.op_model.specs.declared.reply.Refusal.TheVariants.{BadJson, BadField, InvalidRequest}
use Rattle.op_model.specs.declared.request.AskedCap.{AskedCap}
use Rattle.op_model.specs.declared.request.AskedItem.{AskedItem}
use Rattle.op_model.specs.declared.request.AskedLimits.{AskedLimits}
use Rattle.op_model.specs.declared.request.Request.{Request}
use Rattle.op_model.specs.declared.request.Request.TheVariants as requests
use Rattle.hex.specs.Hex.{decode_of}
use Rattle.serde_json.specs.Data.{Data}
use Rattle.serde_json.specs.Find.{as_str}

-- a malformed grant request is `invalid_request` (RFC 9635, section 3.6)
abbrev pub in_grant : Refusal → Refusal
in_grant BadJson = InvalidRequest None
in_grant (BadField name) = InvalidRequest (Some name)
in_grant other = other

abbrev pub grant_refused : Result Request Refusal → Result Request Refusal
grant_refused (Ok request) = Ok request
grant_refused (Err refusal) = Err (in_grant refusal)

-- ---- one kind of access

-- the number of a type
abbrev pub is_type : List ℕ → ℕ → Bool
is_type text kind = bytes_eq text (type_text kind)

abbrev pub types : List ℕ
types = actions.incoming_payment ∷ actions.quote ∷ actions.outgoing_payment ∷ []

abbrev pub kind_in : List ℕ → Option ℕ
kind_in text = find (is_type text) types

-- the bit of an action
abbrev pub action_in : List ℕ → Option ℕ
action_in text = option_map (λ (bit, name). bit) (find (λ (bit, name). bytes_eq text name) action_names)

-- an action that is named twice counts once
abbrev pub actions_in : Data → Option ℕ
actions_in d = option_map (fold bit_or 0) (option_and_then (each_of (λ a. option_and_then action_in (as_str a))) (list_in (codes "actions") d))

-- ---- limits (Open Payments, `limits-outgoing`)

-- a name as it was sent: it may name nothing
abbrev pub name_in : {X : Type 0} → (List ℕ → Option X) → Data → Option (Option X)
name_in names d = option_map names (as_str d)

-- at most one of the two amounts
abbrev pub cap_with : Option Amount → Option Amount → Option (Option AskedCap)
cap_with None None = Some None
cap_with (Some amount) None = Some (Some (record { debit = true; amount = amount }))
cap_with None (Some amount) = Some (Some (record { debit = false; amount = amount }))
cap_with (Some debit) (Some receive) = None

abbrev pub cap_in : Data → Option (Option AskedCap)
cap_in d =
    option_and_then (λ debit. option_and_then (cap_with debit) (optional_of amount_of (codes "receiveAmount") d))
    (optional_of amount_of (codes "debitAmount") d)

abbrev pub interval_text : Data → Option (List ℕ)
interval_text d = option_and_then (λ text. if is_interval text then Some text else None) (as_str d)

abbrev pub limits_with : Option (Option RowName) → Option AskedCap → Option (List ℕ) → AskedLimits
limits_with receiver cap interval = record { receiver = receiver; cap = cap; interval = interval }

abbrev pub limits_of : Data → Option AskedLimits
limits_of d =
    option_and_then (λ receiver. option_and_then (λ cap. option_map (limits_with receiver cap) (optional_of interval_text (codes "interval") d))
    (cap_in d)) (optional_of (name_in (row_in kinds.Incoming)) (codes "receiver") d)

-- ---- items

-- an identifier is passed over for quotes, and limits are read for outgoing payments alone
abbrev pub identifier_in : ℕ → Data → Option (Option (Option AddressName))
identifier_in kind d = if kind == actions.quote then Some None else optional_of (name_in address_in) (codes "identifier") d

abbrev pub limits_in : ℕ → Data → Option (Option AskedLimits)
limits_in kind d =
    if kind == actions.outgoing_payment then optional_of (λ v. option_and_then limits_of (if_object v)) (codes "limits") d else Some None

abbrev pub item_with : ℕ → ℕ → Option (Option AddressName) → Option AskedLimits → AskedItem
item_with kind bits identifier limits = record { kind = kind; actions = bits; identifier = identifier; limits = limits }

abbrev pub if_item : AskedItem → Option AskedItem
if_item item = if is_item item then Some item else None

abbrev pub item_of_kind : Data → ℕ → Option AskedItem
item_of_kind d kind =
    option_and_then (λ actions. option_and_then (λ identifier. option_and_then (λ limits. if_item (item_with kind actions identifier limits))
    (limits_in kind d)) (identifier_in kind d)) (actions_in d)

abbrev pub item_in : Data → Option AskedItem
item_in d = option_and_then (item_of_kind d) (option_and_then kind_in (text_in (codes "type") d))

-- the items in the order of their types; no type stands twice, and at least one is there
abbrev pub items_by_kind : List AskedItem → List AskedItem
items_by_kind items = filter_map (λ kind. find (λ item. item.kind == kind) items) types

abbrev pub if_distinct : List AskedItem → Option (List AskedItem)
if_distinct items =
    if nat_le 1 (length items) && (length (items_by_kind items) == length items) then Some (items_by_kind items) else None

abbrev pub access_in : Data → Option (List AskedItem)
access_in d = option_and_then if_distinct (option_and_then (each_of item_in) (list_in (codes "access") d))

-- ---- the client, and the interaction (RFC 9635, sections 2.3 and 2.5)

-- the longest text of a client, in bytes
abbrev pub client_limit : ℕ
client_limit = 256

-- a text that is not too long; one that is no client's names none
abbrev pub client_in : Data → Option (Option (List ℕ))
client_in d =
    option_and_then (λ text. if nat_le (length text) client_limit then Some (if is_client text then Some text else None) else None)
    (text_in (codes "client") d)

-- whether one of the ways in which the interaction may start is `redirect`
abbrev pub starts_in : Data → Option Bool
starts_in d =
    option_map (list_any (bytes_eq (codes "redirect"))) (option_and_then (each_of as_str) (list_in (codes "start") d))

abbrev pub finish_with : List ℕ → List ℕ → Finish
finish_with uri nonce = record { uri = uri; nonce = nonce }

abbrev pub finish_of : Data → Option Finish
finish_of d =
    option_and_then (λ method. option_and_then (λ uri. option_map (finish_with uri) (text_if (is_word nonce_limit) (codes "nonce") d))
    (text_if is_finish_uri (codes "uri") d)) (text_if (bytes_eq (codes "redirect")) (codes "method") d)

abbrev pub interact_with : Bool → Option Finish → Interact
interact_with redirects finish = if redirects then Redirect finish else NoRedirect

abbrev pub interact_of : Data → Option Interact
interact_of d =
    option_and_then (λ redirects. option_map (interact_with redirects) (optional_of (λ v. option_and_then finish_of (if_object v)) (codes "finish") d))
    (starts_in d)

abbrev pub interact_in : Data → Option Interact
interact_in d = option_map_or (λ v. option_and_then interact_of (if_object v)) (optional_in (codes "interact") d) (Some Missing)

-- ---- the two requests

abbrev pub ask_grant_members : Data → Result Request Refusal
ask_grant_members d = do
  items ← or_bad (codes "access_token") (member_of (λ v. option_and_then access_in (if_object v)) (codes "access_token") d)
  client ← or_bad (codes "client") (client_in d)
  interact ← or_bad (codes "interact") (interact_in d)
  Ok (requests.AskGrant items client interact)

-- the text is a reference's: the secret of that letter with the word and the place that it spells
abbrev pub word_spelled : List ℕ → List ℕ
word_spelled text = unwrap_or (result_ok (decode_of (take 32 (drop 1 text)))) []

abbrev pub place_spelled : List ℕ → ℕ
place_spelled text = digits_value 10 (drop 34 text)

abbrev pub is_reference : List ℕ → Bool
is_reference text =
    bytes_eq text (secret_text Interaction (word_spelled text) (place_spelled text))
    && ((length (word_spelled text) == 16) && nat_lt (place_spelled text) (2 ^ 64))

-- the reference that a continuation has, where it is one
abbrev pub reference_of : Data → Option (Option (List ℕ))
reference_of d = option_map (λ text. if is_reference text then Some text else None) (as_str d)

abbrev pub continue_grant_members : Option ℕ → Data → Result Request Refusal
continue_grant_members grant d = do
  reference ← or_bad (codes "interact_ref") (optional_of reference_of (codes "interact_ref") d)
  Ok (requests.ContinueGrant grant reference)

-- an empty body has no members
abbrev pub continue_grant_meant : Option ℕ → List ℕ → Result Request Refusal
continue_grant_meant grant [] = Ok (requests.ContinueGrant grant None)
continue_grant_meant grant (b ∷ body) = with_members (continue_grant_members grant) (b ∷ body)
