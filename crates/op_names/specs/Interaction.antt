-- The hash that proves the finish of an interaction (RFC 9635, section 4.2.3).
use Rattle.std.specs.Prelude.{ℕ, List, ◌++◌, codes}
use Rattle.sha2.specs.Sha256.{sha256}
use Rattle.base64.specs.Engines.{url_safe_no_pad}
use Rattle.base64.specs.GeneralPurpose.{encode_of}

-- the four parts, joined by single newlines
abbrev pub hash_base : (client_nonce server_nonce reference grant_uri : List ℕ) → List ℕ
hash_base client_nonce server_nonce reference grant_uri =
    client_nonce ++ codes "\n" ++ server_nonce ++ codes "\n" ++ reference ++ codes "\n" ++ grant_uri

-- SHA-256 in base64url without padding (RFC 4648, section 5)
abbrev pub interaction_hash : (client_nonce server_nonce reference grant_uri : List ℕ) → List ℕ
interaction_hash client_nonce server_nonce reference grant_uri =
    encode_of url_safe_no_pad (sha256 (hash_base client_nonce server_nonce reference grant_uri))
