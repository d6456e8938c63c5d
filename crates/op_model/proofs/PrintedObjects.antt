-- What bytes print a plain object.
use Rattle.std.proofs.Common.{◌≡◌, ℕ, List, true, false, Some, None, is_some, IsUtf8, bytes_eq, refl, inl, inr}
use Rattle.std.proofs.lemmas.Bool.{cases_Bool}
use Rattle.std.proofs.lemmas.Str.{IsUtf8-from_is_utf8, is_utf8-from_IsUtf8}
use Rattle.std.proofs.lemmas.Slice.Eq.{bytes_eq-Decides}
use Rattle.std.specs.Str.{is_utf8}
use Rattle.serde_json.specs.Data.{Data, null, boolean, number, string, array, object}
use Rattle.serde_json.specs.Find.{as_object}
use Rattle.serde_json.specs.Read.{read}
use Rattle.serde_json.specs.Written.{compact_text, has_float}
use Rattle.op_model.specs.Metadata.{printed_object, if_plain_object}

plain : (d : Data) → is_some (as_object d) ≡ true → has_float d ≡ false → if_plain_object d ≡ Some d
plain null o f = cc o
plain (boolean b) o f = cc o
plain (number n) o f = cc o
plain (string s) o f = cc o
plain (array ds) o f = cc o
plain (object ms) o f = rw f refl

pub printed-found : (bytes : List ℕ) (d : Data) → IsUtf8 bytes → read bytes ≡ Some d → is_some (as_object d) ≡ true → has_float d ≡ false → bytes ≡ compact_text d → printed_object bytes ≡ Some d
printed-found bytes d u r o f same =
    let equal : bytes_eq bytes (compact_text d) ≡ true = (bytes_eq-Decides bytes (compact_text d)).1 same in
    rw (is_utf8-from_IsUtf8 bytes u, r) (rw (plain d o f) (rw equal refl))

pub printed-refused : (bytes : List ℕ) → (IsUtf8 bytes → read bytes ≡ None) → printed_object bytes ≡ None
printed-refused bytes h = elim (cases_Bool (is_utf8 bytes)) [
  | inl u ↦ rw (u, h (IsUtf8-from_is_utf8 bytes u)) refl
  | inr n ↦ rw n refl
]
