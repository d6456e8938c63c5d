-- HMAC (RFC 2104, section 2) over SHA-256, whose block has 64 bytes.
use Rattle.std.specs.Prelude.{ℕ, List, ◌++◌, ◌-◌, length, map, replicate, bit_xor, nat_lt, if◌then◌else◌}
use Rattle.sha2.specs.Sha256.{sha256}
use Rattle.sha2.specs.Hashers.{Holds256}
use Rattle.op_names.specs.declared.hmac.Hmac.{Hmac}

-- a key longer than a block is hashed first
abbrev pub short_key : List ℕ → List ℕ
short_key key = if nat_lt 64 (length key) then sha256 key else key

-- the key and zeros behind it, up to a block
abbrev pub key_block : List ℕ → List ℕ
key_block key = short_key key ++ replicate (64 - length (short_key key)) 0

abbrev pub masked : ℕ → List ℕ → List ℕ
masked mask block = map (λ byte. bit_xor byte mask) block

-- H(K xor opad, H(K xor ipad, text))
unfoldable pub hmac : List ℕ → List ℕ → List ℕ
hmac key message = sha256 (masked 0x5c (key_block key) ++ sha256 (masked 0x36 (key_block key) ++ message))

-- the state after a key and a message
abbrev pub Holds : Hmac → List ℕ → List ℕ → Type 0
Holds state key message = Holds256 state.inner (masked 0x36 (key_block key) ++ message) × Holds256 state.outer (masked 0x5c (key_block key))
