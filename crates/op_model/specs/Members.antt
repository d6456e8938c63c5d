-- What the members of bodies mean, a request for each route that has some. The first that is missing or breaks its form is
-- named, in the order in which they are read. Members and types are those of Open Payments
-- (amount, incoming payment, quote, outgoing payment); what a grant request has stands in its own file.
use Rattle.std.specs.Prelude.{ℕ, Bool, ◌&&◌, nat_le, if◌then◌else◌, List, codes, Some, None, Ok, option_map, option_and_then}
use Rattle.std.specs.Option.{option_map_or, is_some, is_none}
use Rattle.std.specs.Result.{result_ok}
use Rattle.std.specs.Str.{bytes_eq}
use Rattle.std.specs.declared.option.Option.{Option}
use Rattle.std.specs.declared.result.Result.{Result}
use Rattle.op_amount.specs.Code.{is_asset_code}
use Rattle.op_amount.specs.Values.{value_of}
use Rattle.op_amount.specs.declared.Amount.{Amount}
use Rattle.op_amount.specs.declared.Asset.{Asset}
use Rattle.op_amount.specs.declared.TheConstants.{RATE_TOP}
use Rattle.op_names.specs.Forms.{is_origin, is_path, is_word}
use Rattle.op_names.specs.Names.{address_in, row_in}
use Rattle.op_names.specs.declared.Kind.TheVariants as kinds
use Rattle.op_time.specs.MomentTexts.{moment_of}
use Rattle.op_model.specs.History.{pieces_limit, scale_limit}
use Rattle.op_model.specs.Asking.{◌>>=◌, refuse_if}
use Rattle.op_model.specs.Legal.{is_text, name_limit, transfer_limit}
use Rattle.op_model.specs.Json.{text_in, number_of, number_in, optional_in, or_bad}
use Rattle.op_model.specs.Metadata.{is_metadata, if_plain_object}
use Rattle.op_model.specs.declared.reply.Refusal.{Refusal}
use Rattle.op_model.specs.declared.reply.Refusal.TheVariants.{BadField}
use Rattle.op_model.specs.declared.request.AccountName.{AccountName}
use Rattle.op_model.specs.declared.request.AccountName.TheVariants as accounts
use Rattle.op_model.specs.declared.request.QuoteAsked.{QuoteAsked}
use Rattle.op_model.specs.declared.request.QuoteAsked.TheVariants as asked
use Rattle.op_model.specs.declared.request.PaymentAsked.{PaymentAsked}
use Rattle.op_model.specs.declared.request.PaymentAsked.TheVariants.{Quoted, Direct}
use Rattle.op_model.specs.declared.request.Request.{Request}
use Rattle.op_model.specs.declared.request.Request.TheVariants as requests
use Rattle.serde_json.specs.Data.{Data}
use Rattle.serde_json.specs.Find.{get, as_str}
use Rattle.serde_json.specs.Written.{compact_text}

-- ---- values

-- a text that passes a test
abbrev pub text_if : (List ℕ → Bool) → List ℕ → Data → Option (List ℕ)
text_if test name d = option_and_then (λ text. if test text then Some text else None) (text_in name d)

-- an asset: `assetCode` and `assetScale`
abbrev pub if_code : List ℕ → Option (List ℕ)
if_code text = if is_asset_code text then Some text else None

abbrev pub code_in : Data → Option (List ℕ)
code_in d = option_and_then if_code (text_in (codes "assetCode") d)

abbrev pub scale_in : Data → Option ℕ
scale_in d = number_in 0 scale_limit (codes "assetScale") d

abbrev pub asset_of : Data → Option Asset
asset_of d = option_and_then (λ code. option_map (λ scale. record { code = code; scale = scale }) (scale_in d)) (code_in d)

-- an amount: an asset, and a text of digits up to the largest value
abbrev pub amount_of : Data → Option Amount
amount_of d =
    option_and_then (λ asset. option_map (λ value. record { value = value; asset = asset }) (option_and_then (λ text. result_ok (value_of text)) (text_in (codes "value") d))) (asset_of d)

-- a member of this form
abbrev pub member_of : {X : Type 0} → (Data → Option X) → List ℕ → Data → Option X
member_of form name d = option_and_then form (get name d)

-- an optional member: absent, or of this form; the outer option says whether it may stand
abbrev pub optional_of : {X : Type 0} → (Data → Option X) → List ℕ → Data → Option (Option X)
optional_of form name d = option_map_or (λ value. option_map (λ x. Some x) (form value)) (optional_in name d) (Some None)

-- a text of digits without a leading zero, from 1 to the largest number of a rate
abbrev pub rate_number : List ℕ → Option ℕ
rate_number text = option_and_then (λ n. if nat_le 1 n && nat_le n RATE_TOP then Some n else None) (result_ok (value_of text))

-- metadata: an object whose numbers are whole ones, by its printed form
abbrev pub if_metadata : List ℕ → Option (List ℕ)
if_metadata text = if is_metadata text then Some text else None

abbrev pub metadata_of : Data → Option (List ℕ)
metadata_of d = option_and_then (λ object. if_metadata (compact_text object)) (if_plain_object d)

-- what a text names as an account: an address may name nothing
abbrev pub account_of : List ℕ → AccountName
account_of text =
    if bytes_eq text (codes "pool") then accounts.Pool
    else (if bytes_eq text (codes "fees") then accounts.Fees else accounts.Address (address_in text))

-- ---- the provider's routes

abbrev pub set_origin_members : Data → Result Request Refusal
set_origin_members d = do
  origin ← or_bad (codes "origin") (text_if is_origin (codes "origin") d)
  Ok (requests.SetOrigin origin)

-- as many pieces as are asked for, or 1
abbrev pub pieces_in : Data → Option ℕ
pieces_in d = option_map_or (number_of 1 pieces_limit) (optional_in (codes "pieces") d) (Some 1)

abbrev pub add_asset_members : Data → Result Request Refusal
add_asset_members d = do
  code ← or_bad (codes "assetCode") (code_in d)
  scale ← or_bad (codes "assetScale") (scale_in d)
  pieces ← or_bad (codes "pieces") (pieces_in d)
  Ok (requests.AddAsset (record { code = code; scale = scale }) pieces)

abbrev pub add_address_members : Data → Result Request Refusal
add_address_members d = do
  path ← or_bad (codes "path") (text_if is_path (codes "path") d)
  code ← or_bad (codes "assetCode") (code_in d)
  scale ← or_bad (codes "assetScale") (scale_in d)
  name ← or_bad (codes "publicName") (optional_of (λ v. option_and_then (λ text. if is_text name_limit text then Some text else None) (as_str v)) (codes "publicName") d)
  Ok (requests.AddAddress path (record { code = code; scale = scale }) name)

abbrev pub transfer_members : (List ℕ → AccountName → Amount → Request) → Data → Result Request Refusal
transfer_members request d = do
  transfer ← or_bad (codes "transferId") (text_if (is_word transfer_limit) (codes "transferId") d)
  account ← or_bad (codes "account") (text_in (codes "account") d)
  amount ← or_bad (codes "amount") (member_of amount_of (codes "amount") d)
  Ok (request transfer (account_of account) amount)

abbrev pub set_rate_members : Data → Result Request Refusal
set_rate_members d = do
  source ← or_bad (codes "from") (member_of asset_of (codes "from") d)
  target ← or_bad (codes "to") (member_of asset_of (codes "to") d)
  num ← or_bad (codes "num") (option_and_then rate_number (text_in (codes "num") d))
  den ← or_bad (codes "den") (option_and_then rate_number (text_in (codes "den") d))
  Ok (requests.SetRate source target (record { num = num; den = den }))

-- ---- incoming payments, quotes, outgoing payments

abbrev pub moment_text_of : Data → Option ℕ
moment_text_of d = option_and_then moment_of (as_str d)

abbrev pub make_incoming_members : Data → Result Request Refusal
make_incoming_members d = do
  address ← or_bad (codes "walletAddress") (text_in (codes "walletAddress") d)
  amount ← or_bad (codes "incomingAmount") (optional_of amount_of (codes "incomingAmount") d)
  expiry ← or_bad (codes "expiresAt") (optional_of moment_text_of (codes "expiresAt") d)
  metadata ← or_bad (codes "metadata") (optional_of metadata_of (codes "metadata") d)
  Ok (requests.MakeIncoming (address_in address) amount expiry metadata)

-- one of the two amounts, or neither
abbrev pub quote_mode : Option Amount → Option Amount → Option QuoteAsked
quote_mode None None = Some asked.Rest
quote_mode (Some debit) None = Some (asked.Debit debit)
quote_mode None (Some receive) = Some (asked.Receive receive)
quote_mode (Some debit) (Some receive) = None

abbrev pub make_quote_members : Data → Result Request Refusal
make_quote_members d = do
  address ← or_bad (codes "walletAddress") (text_in (codes "walletAddress") d)
  receiver ← or_bad (codes "receiver") (text_in (codes "receiver") d)
  _ ← or_bad (codes "method") (text_if (bytes_eq (codes "ilp")) (codes "method") d)
  debit ← or_bad (codes "debitAmount") (optional_of amount_of (codes "debitAmount") d)
  receive ← or_bad (codes "receiveAmount") (optional_of amount_of (codes "receiveAmount") d)
  mode ← or_bad (codes "receiveAmount") (quote_mode debit receive)
  Ok (requests.MakeQuote (address_in address) (row_in kinds.Incoming receiver) mode)

-- from a quote alone, or from an incoming payment and a debit
abbrev pub payment_asked : (quote incoming : Option (List ℕ)) → (debit : Option Amount) → Option PaymentAsked
payment_asked (Some quote) None None = Some (Quoted (row_in kinds.Quote quote))
payment_asked None (Some incoming) (Some debit) = Some (Direct (row_in kinds.Incoming incoming) debit)
payment_asked _ _ _ = None

-- One of `quoteId` and `incomingPayment` is there, and `debitAmount` beside the second alone.
abbrev pub make_outgoing_members : Data → Result Request Refusal
make_outgoing_members d = do
  address ← or_bad (codes "walletAddress") (text_in (codes "walletAddress") d)
  quote ← or_bad (codes "quoteId") (optional_of as_str (codes "quoteId") d)
  _ ← refuse_if (is_none quote && is_none (optional_in (codes "incomingPayment") d)) (BadField (codes "quoteId"))
  incoming ← or_bad (codes "incomingPayment") (optional_of as_str (codes "incomingPayment") d)
  _ ← refuse_if (is_some quote && is_some incoming) (BadField (codes "incomingPayment"))
  debit ← or_bad (codes "debitAmount") (optional_of amount_of (codes "debitAmount") d)
  payment ← or_bad (codes "debitAmount") (payment_asked quote incoming debit)
  metadata ← or_bad (codes "metadata") (optional_of metadata_of (codes "metadata") d)
  Ok (requests.MakeOutgoing (address_in address) payment metadata)
