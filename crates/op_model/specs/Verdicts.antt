-- Who asks: what the fields of a request tell of its client, of the proof that it holds its key, and of its token.
-- The two fields of the proof are this project's own; a token stands where RFC 9635, section 7.2, puts it.
use Rattle.std.specs.Prelude.{ℕ, Bool, false, ◌&&◌, nat_le, if◌then◌else◌, List, [], ◌∷◌, length, take, drop, codes, Some, None, unwrap_or}
use Rattle.std.specs.Option.{option_and_then}
use Rattle.std.specs.Str.{str_eq_ignore_ascii_case}
use Rattle.std.specs.declared.option.Option.{Option}
use Rattle.op_names.specs.Forms.{is_client}
use Rattle.op_names.specs.Names.{text_if}
use Rattle.op_model.specs.Requests.{Raw, values_of}
use Rattle.op_model.specs.declared.request.Verdict.{Verdict}

-- which proofs a verifier accepts: of this client, for this method, target, body and value of `authorization`
abbrev pub Accepts : Type 0
Accepts = (client method target body authorization proof : List ℕ) → Bool

-- ---- fields; where one stands twice, its first value counts

abbrev pub first_of : List (List ℕ) → Option (List ℕ)
first_of [] = None
first_of (value ∷ others) = Some value

abbrev pub value_of : List ℕ → Raw → Option (List ℕ)
value_of name raw = first_of (values_of name raw.fields)

abbrev pub authorization_of : Raw → Option (List ℕ)
authorization_of raw = value_of (codes "authorization") raw

-- ---- the token (RFC 9635, section 7.2): `GNAP`, in any case, one space, and the token, which has at most 54 bytes

abbrev pub names_gnap : List ℕ → Bool
names_gnap value = str_eq_ignore_ascii_case (take 5 value) (codes "gnap ")

abbrev pub token_in : List ℕ → Option (List ℕ)
token_in value = if names_gnap value && nat_le (length value) 59 then Some (drop 5 value) else None

abbrev pub token_of : Raw → Option (List ℕ)
token_of raw = option_and_then token_in (authorization_of raw)

-- ---- the client and its proof

abbrev pub client_of : Raw → Option (List ℕ)
client_of raw = option_and_then (text_if is_client) (value_of (codes "wallet-client") raw)

-- the client and the proof are there, and the verifier accepts it; no `authorization` counts as an empty one
abbrev pub is_accepted : Accepts → Raw → (client proof : Option (List ℕ)) → Bool
is_accepted accepts raw (Some client) (Some proof) =
    accepts client raw.method raw.target raw.body (unwrap_or (authorization_of raw) []) proof
is_accepted accepts raw _ _ = false

abbrev pub is_proved : Accepts → Raw → Bool
is_proved accepts raw = is_accepted accepts raw (client_of raw) (value_of (codes "wallet-signature") raw)

abbrev pub verdict_of : Accepts → Raw → Verdict
verdict_of accepts raw = record { client = client_of raw; proved = is_proved accepts raw; token = token_of raw }
