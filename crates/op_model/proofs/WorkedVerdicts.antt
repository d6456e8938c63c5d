-- Worked verdicts: what the fields of a request tell of who asks.
use Rattle.std.proofs.Common.{◌≡◌, ◌++◌, ℕ, true, false, List, [], ◌∷◌, codes, replicate, Some, None, refl}
use Rattle.std.specs.Str.{bytes_eq}
use Rattle.op_model.specs.Requests.{Raw}
use Rattle.op_model.specs.Verdicts.{Accepts, verdict_of, token_of, client_of}

abbrev shop : List ℕ
shop = codes "https://wallet.example/shop"

abbrev asked_with : List (List ℕ × List ℕ) → Raw
asked_with fields = record { method = codes "POST"; target = codes "/grant"; fields = fields; body = codes "{}" }

-- a verifier that accepts one proof, for one value of `authorization`
abbrev accepts_one : (authorization proof : List ℕ) → Accepts
accepts_one authorization proof client method target body told given = bytes_eq (told ++ 10 ∷ given) (authorization ++ 10 ∷ proof)

-- names in any case; the first of two values counts; the scheme in any case
whole : verdict_of (accepts_one (codes "gnap a5") (codes "p"))
    (asked_with ((codes "Wallet-Client", shop) ∷ (codes "WALLET-SIGNATURE", codes "p") ∷ (codes "wallet-signature", codes "q") ∷ (codes "Authorization", codes "gnap a5") ∷ []))
    ≡ record { client = Some shop; proved = true; token = Some (codes "a5") }
whole = refl

-- no `authorization` counts as an empty one
without_token : verdict_of (accepts_one [] (codes "p")) (asked_with ((codes "wallet-client", shop) ∷ (codes "wallet-signature", codes "p") ∷ []))
    ≡ record { client = Some shop; proved = true; token = None }
without_token = refl

wrong_proof : verdict_of (accepts_one [] (codes "p")) (asked_with ((codes "wallet-client", shop) ∷ (codes "wallet-signature", codes "q") ∷ []))
    ≡ record { client = Some shop; proved = false; token = None }
wrong_proof = refl

-- a request that is signed in another way alone (RFC 9421) is not proved
other_signature : verdict_of (accepts_one [] (codes "p")) (asked_with ((codes "wallet-client", shop) ∷ (codes "signature", codes "p") ∷ (codes "signature-input", codes "p") ∷ []))
    ≡ record { client = Some shop; proved = false; token = None }
other_signature = refl

nobody : verdict_of (accepts_one [] []) (asked_with []) ≡ record { client = None; proved = false; token = None }
nobody = refl

no_client : client_of (asked_with ((codes "wallet-client", codes "shop") ∷ (codes "wallet-client", shop) ∷ [])) ≡ None
no_client = refl

two_spaces : token_of (asked_with ((codes "authorization", codes "GNAP  a") ∷ [])) ≡ Some (codes " a")
two_spaces = refl

other_scheme : token_of (asked_with ((codes "authorization", codes "Bearer a") ∷ [])) ≡ None
other_scheme = refl

longest : token_of (asked_with ((codes "authorization", codes "GNAP " ++ replicate 54 97) ∷ [])) ≡ Some (replicate 54 97)
longest = refl

too_long : token_of (asked_with ((codes "authorization", codes "GNAP " ++ replicate 55 97) ∷ [])) ≡ None
too_long = refl
