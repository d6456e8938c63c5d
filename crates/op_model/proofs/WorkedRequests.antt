-- Worked requests: what parameters and members mean.
use Rattle.std.proofs.Common.{◌≡◌, ℕ, List, [], ◌∷◌, codes, Some, None, Err, false, refl}
use Rattle.op_names.specs.declared.Kind.TheVariants.{Grant}
use Rattle.op_model.specs.GrantMembers.{ask_grant_members, grant_refused, actions_in, access_in, interact_in, is_reference}
use Rattle.op_model.specs.Parameters.{number_named, asset_named, parameter, digits_within}
use Rattle.op_model.specs.declared.grant.Interact.TheVariants.{Missing, NoRedirect, Redirect}
use Rattle.op_model.specs.declared.reply.Refusal.TheVariants.{InvalidRequest}
use Rattle.form_urlencoded.specs.Form.{raw_pairs, split}
use Rattle.hex.specs.Hex.{encode_with}
use Rattle.op_names.specs.Ids.{hex_of}
use Rattle.percent_encoding.specs.Percent.{percent_decode}
use Rattle.serde_json.specs.Data.{Data, null, string, array, object, no_items, item, member, no_members}

-- ---- paths and queries

number_in_path : number_named Grant (codes "00000004-0000-8000-8000-000000000003") ≡ Some 3
unfolding hex_of encode_with
number_in_path = refl

other_kind_in_path : number_named Grant (codes "00000001-0000-8000-8000-000000000003") ≡ None
unfolding hex_of encode_with
other_kind_in_path = refl

asset_in_path : asset_named (codes "USD") (codes "2") ≡ Some (record { code = codes "USD"; scale = 2 })
asset_in_path = refl

scale_with_zero_in_path : asset_named (codes "USD") (codes "02") ≡ None
scale_with_zero_in_path = refl

decoded_parameter : parameter (codes "wallet-address") (codes "/incoming-payments?first=1&wallet-address=https%3A%2F%2Fwallet.example%2Fshop+1&wallet-address=x") ≡ Some (codes "https://wallet.example/shop 1")
unfolding raw_pairs split percent_decode
decoded_parameter = refl

lone_percent_stands : parameter (codes "a") (codes "/x?a=1%2") ≡ Some (codes "1%2")
unfolding raw_pairs split percent_decode
lone_percent_stands = refl

absent_parameter : parameter (codes "cursor") (codes "/incoming-payments") ≡ None
unfolding raw_pairs split percent_decode
absent_parameter = refl

first_too_large : digits_within 1 100 (codes "101") ≡ None
first_too_large = refl

first_largest : digits_within 1 100 (codes "100") ≡ Some 100
first_largest = refl

-- ---- grants

-- an action that is named twice counts once
actions_twice : actions_in (object (member (codes "actions") (array (item (string (codes "read")) (item (string (codes "create")) (item (string (codes "read")) no_items)))) no_members)) ≡ Some 5
actions_twice = refl

unknown_action : actions_in (object (member (codes "actions") (array (item (string (codes "write")) no_items)) no_members)) ≡ None
unknown_action = refl

abbrev plain_item : List ℕ → Data
plain_item kind = object (member (codes "actions") (array (item (string (codes "read")) no_items)) (member (codes "type") (string kind) no_members))

-- items are put in the order of their types
items_in_order : access_in (object (member (codes "access") (array (item (plain_item (codes "quote")) (item (plain_item (codes "incoming-payment")) no_items))) no_members))
    ≡ Some (record { kind = 1; actions = 4; identifier = None; limits = None } ∷ record { kind = 2; actions = 4; identifier = None; limits = None } ∷ [])
items_in_order = refl

type_twice : access_in (object (member (codes "access") (array (item (plain_item (codes "quote")) (item (plain_item (codes "quote")) no_items))) no_members)) ≡ None
type_twice = refl

-- an item for outgoing payments names an address
no_identifier : access_in (object (member (codes "access") (array (item (plain_item (codes "outgoing-payment")) no_items)) no_members)) ≡ None
no_identifier = refl

no_items_asked : access_in (object (member (codes "access") (array no_items) no_members)) ≡ None
no_items_asked = refl

no_interact : interact_in (object (member (codes "interact") null no_members)) ≡ Some Missing
no_interact = refl

other_start : interact_in (object (member (codes "interact") (object (member (codes "start") (array (item (string (codes "app")) no_items)) no_members)) no_members)) ≡ Some NoRedirect
other_start = refl

start_with_redirect : interact_in (object (member (codes "interact") (object (member (codes "start") (array (item (string (codes "redirect")) no_items)) no_members)) no_members)) ≡ Some (Redirect None)
start_with_redirect = refl

no_access : grant_refused (ask_grant_members (object no_members)) ≡ Err (InvalidRequest (Some (codes "access_token")))
no_access = refl

-- a token is no reference
token_is_no_reference : is_reference (codes "a0a0a0a0a0a0a0a0a0a0a0a0a0a0a0a0a-10") ≡ false
token_is_no_reference = refl
