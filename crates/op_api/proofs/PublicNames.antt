-- Public names.
use Rattle.std.proofs.Common.{◌≡◌, ◌≤◌, ℕ, true, List, length, Some, IsUtf8, refl, arith}
use Rattle.std.proofs.lemmas.Str.{utf8_valid_len-IsUtf8}
use Rattle.serde_json.specs.Data.{Data}
use Rattle.serde_json.specs.Find.{as_str}
use Rattle.op_model.specs.Legal.{is_text}
use Rattle.op_api.specs.Readers.{public_name_of}

pub is_text_within : (limit : ℕ) (text : List ℕ) → IsUtf8 text → length text ≤ limit → is_text limit text ≡ true
is_text_within limit text u l = let e = utf8_valid_len-IsUtf8 text u in grind arith

pub public_name : (v : Data) (text : List ℕ) → as_str v ≡ Some text → IsUtf8 text → length text ≤ 128 → public_name_of v ≡ Some text
public_name v text e u l = rw (e, is_text_within 128 text u l) refl
