-- Redirects of texts are texts.
use Rattle.std.proofs.Common.{ℕ, List, Bool, true, false, ◌++◌, codes, refl}
use Rattle.std.specs.Prelude.{if◌then◌else◌}
use Rattle.std.specs.Str.{IsUtf8}
use Rattle.std.proofs.lemmas.Str.{IsUtf8-append, IsUtf8-from_ascii}
use Rattle.base64.specs.Engines.{url_safe_no_pad}
use Rattle.base64.proofs.EngineFacts.{IsAscii-encode_of}
use Rattle.op_names.specs.Interaction.{interaction_hash}
use Rattle.op_model.specs.Bodies.{redirect_url, grant_url, has_query}
use Rattle.op_model.specs.declared.reply.Redirect.{Redirect}
use Rattle.op_names.proofs.AsciiTexts.{IsAscii-from_test}

hash_is_text : (a b c d : List ℕ) → IsUtf8 (interaction_hash a b c d)
hash_is_text a b c d = IsUtf8-from_ascii (interaction_hash a b c d) (IsAscii-encode_of url_safe_no_pad _)

mark_is_text : (query : Bool) → IsUtf8 (if query then codes "&" else codes "?")
mark_is_text true = IsUtf8-from_ascii (codes "&") (IsAscii-from_test (codes "&") refl)
mark_is_text false = IsUtf8-from_ascii (codes "?") (IsAscii-from_test (codes "?") refl)

pub redirect_is_text : (origin : List ℕ) (redirect : Redirect) → IsUtf8 redirect.finish.uri → IsUtf8 redirect.reference → IsUtf8 (redirect_url origin redirect)
redirect_is_text origin redirect uri reference =
    let hash = interaction_hash redirect.finish.nonce redirect.nonce redirect.reference (grant_url origin) in
    let mark = if has_query redirect.finish.uri then codes "&" else codes "?" in
    let asked = redirect.finish.uri ++ mark in
    let hashed = asked ++ codes "hash=" ++ hash in
    IsUtf8-append (hashed ++ codes "&interact_ref=") redirect.reference
    (IsUtf8-append hashed (codes "&interact_ref=")
    (IsUtf8-append (asked ++ codes "hash=") hash
    (IsUtf8-append asked (codes "hash=")
    (IsUtf8-append redirect.finish.uri mark uri (mark_is_text (has_query redirect.finish.uri)))
    (IsUtf8-from_ascii (codes "hash=") (IsAscii-from_test (codes "hash=") refl)))
    (hash_is_text redirect.finish.nonce redirect.nonce redirect.reference (grant_url origin)))
    (IsUtf8-from_ascii (codes "&interact_ref=") (IsAscii-from_test (codes "&interact_ref=") refl)))
    reference
