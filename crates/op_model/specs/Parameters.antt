-- What the parameters of paths and of queries mean. A query is read as a form is (URL Standard, section 5.1), by its bytes.
use Rattle.std.specs.Prelude.{ℕ, if◌then◌else◌, List, codes, Some, None, Ok, option_map, option_and_then}
use Rattle.std.specs.List.{after_first, find}
use Rattle.std.specs.Option.{option_map_or}
use Rattle.std.specs.Result.{result_ok}
use Rattle.std.specs.Str.{bytes_eq, is_utf8}
use Rattle.std.specs.declared.option.Option.{Option}
use Rattle.std.specs.declared.result.Result.{Result}
use Rattle.form_urlencoded.specs.Form.{parse}
use Rattle.op_amount.specs.Code.{is_asset_code}
use Rattle.op_amount.specs.Values.{value_of}
use Rattle.op_amount.specs.declared.Asset.{Asset}
use Rattle.op_names.specs.Ids.{id_in}
use Rattle.op_names.specs.Names.{of_kind, address_in}
use Rattle.op_names.specs.declared.AddressName.{AddressName}
use Rattle.op_names.specs.declared.Kind.{Kind}
use Rattle.op_model.specs.Asking.{◌>>=◌}
use Rattle.op_model.specs.Json.{if_within, or_bad}
use Rattle.op_model.specs.Metadata.{is_page}
use Rattle.op_model.specs.RouteTable.{is_question}
use Rattle.op_model.specs.declared.reply.Refusal.{Refusal}
use Rattle.op_model.specs.declared.request.Request.{Request}
use Rattle.op_model.specs.declared.request.Request.TheVariants as requests

-- ---- paths

-- the number of the row of a kind that a text names
abbrev pub number_named : Kind → List ℕ → Option ℕ
number_named kind text = option_map (λ id. id.number) (option_and_then (of_kind kind) (id_in text))

-- a number without a leading zero, within bounds
abbrev pub digits_within : (low high : ℕ) → List ℕ → Option ℕ
digits_within low high text = option_and_then (if_within low high) (result_ok (value_of text))

-- the asset that a code and a scale name
abbrev pub asset_with : List ℕ → ℕ → Option Asset
asset_with code scale = if is_asset_code code then Some (record { code = code; scale = scale }) else None

abbrev pub asset_named : (code scale : List ℕ) → Option Asset
asset_named code scale = option_and_then (asset_with code) (digits_within 0 18 scale)

-- ---- queries (RFC 3986, section 3.4)

abbrev pub query_of : List ℕ → List ℕ
query_of target = after_first is_question target

-- the first parameter of a name
abbrev pub parameter : List ℕ → List ℕ → Option (List ℕ)
parameter name target = option_map (λ (n, value). value) (find (λ (n, value). bytes_eq n name) (parse (query_of target)))

-- a text that is UTF-8
abbrev pub if_text : List ℕ → Option (List ℕ)
if_text value = if is_utf8 value then Some value else None

abbrev pub text_parameter : List ℕ → List ℕ → Option (List ℕ)
text_parameter name target = option_and_then if_text (parameter name target)

-- an optional parameter: absent, or of this form; the outer option says whether it may stand
abbrev pub optional_parameter : {X : Type 0} → (List ℕ → Option X) → List ℕ → List ℕ → Option (Option X)
optional_parameter form name target = option_map_or (λ value. option_map (λ x. Some x) (form value)) (parameter name target) (Some None)

-- ---- lists (Open Payments, "pagination"), and the feed of a page

-- how many rows a page of a list has where that is not said
abbrev pub first_default : ℕ
first_default = 20

abbrev pub list_parameters : Kind → (Option AddressName → ℕ → Option ℕ → Request) → List ℕ → Result Request Refusal
list_parameters kind request target = do
  address ← or_bad (codes "wallet-address") (text_parameter (codes "wallet-address") target)
  first ← or_bad (codes "first") (optional_parameter (digits_within 1 100) (codes "first") target)
  cursor ← or_bad (codes "cursor") (optional_parameter (number_named kind) (codes "cursor") target)
  Ok (request (address_in address) (option_map_or (λ n. n) first first_default) cursor)

abbrev pub if_page : List ℕ → Option (List ℕ)
if_page text = if is_page text then Some text else None

abbrev pub read_feed_parameters : List ℕ → Result Request Refusal
read_feed_parameters target = do
  address ← or_bad (codes "wallet-address") (text_parameter (codes "wallet-address") target)
  page ← or_bad (codes "page") (option_and_then if_page (text_parameter (codes "page") target))
  Ok (requests.ReadFeed (address_in address) page)
