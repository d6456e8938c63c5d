-- The proof by which a client shows that a request is its own. It is this project's own, by shared secrets: an HMAC
-- (RFC 2104) over SHA-256 (FIPS 180-4). Where a request carries HTTP message signatures (RFC 9421) alone, it has none.
use Rattle.std.specs.Prelude.{ℕ, Bool, false, List, ◌++◌, codes, Result, Ok, Err}
use Rattle.std.specs.Str.{bytes_eq}
use Rattle.sha2.specs.Sha256.{sha256}
use Rattle.hex.specs.Hex.{encode_lower, decode_sized}
use Rattle.op_names.specs.Hmac.{hmac}
use Rattle.op_access.specs.declared.verifier.HmacVerifier.{HmacVerifier}

-- a client's key: the code of the client's text under the wallet's master secret
abbrev pub client_key : (master client : List ℕ) → List ℕ
client_key master client = hmac master client

-- What a proof is taken over: the method, the target as it was sent, its query with it, the digest of the body in
-- lower case hexadecimal, and the value of `authorization` or nothing, each ended by a newline.
abbrev pub proved_text : (method target body authorization : List ℕ) → List ℕ
proved_text method target body authorization =
    method ++ codes "\n" ++ target ++ codes "\n" ++ encode_lower (sha256 body) ++ codes "\n" ++ authorization ++ codes "\n"

-- the code that a client's proof of a request has to spell
abbrev pub request_code : (master client method target body authorization : List ℕ) → List ℕ
request_code master client method target body authorization =
    hmac (client_key master client) (proved_text method target body authorization)

abbrev pub is_read_as : {E : Type 0} → Result (List ℕ) E → (code : List ℕ) → Bool
is_read_as (Ok bytes) code = bytes_eq bytes code
is_read_as (Err e) code = false

-- sixty-four hexadecimal digits, in either case, that spell the code
abbrev pub spells : (proof code : List ℕ) → Bool
spells proof code = is_read_as (decode_sized proof 32) code

abbrev pub is_proof : (master client method target body authorization proof : List ℕ) → Bool
is_proof master client method target body authorization proof =
    spells proof (request_code master client method target body authorization)

-- the master secret of a verifier
abbrev pub master_of : HmacVerifier → List ℕ
master_of verifier = verifier.master
