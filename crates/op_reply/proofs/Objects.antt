-- Metadata is the printed form of an object.
use Rattle.std.proofs.Common.{◌≡◌, ℕ, List, Bool, true, false, Some, None, is_some, IsTrue, IsUtf8, bytes_eq, refl, ap, ◌∙◌, sym, inl, inr, if◌then◌else◌, length}
use Rattle.std.specs.Prelude.{nat_le}
use Rattle.std.specs.Option.{option_and_then}
use Rattle.std.specs.Str.{is_utf8}
use Rattle.std.proofs.lemmas.Bool.{and_parts, false≢true, cases_Bool}
use Rattle.std.proofs.lemmas.Str.{IsUtf8-from_is_utf8, is_utf8-from_IsUtf8}
use Rattle.serde_json.specs.Data.{Data, Members, null, boolean, number, string, array, object}
use Rattle.serde_json.specs.Read.{read}
use Rattle.serde_json.specs.Written.{compact_text, has_float}
use Rattle.op_model.specs.Metadata.{printed_object, if_printed, if_plain_object, is_metadata, metadata_limit}
use Rattle.op_model.specs.Bodies.{metadata_data}

same : (equal : Bool) (d : Data) → is_some (if equal then Some d else None) ≡ true → (if equal then Some d else None) ≡ Some d
same true d found = refl
same false d found = absurd (false≢true found)

plain : (float : Bool) (text : List ℕ) (ms : Members) → is_some (option_and_then (if_printed text) (if float then None else Some (object ms))) ≡ true
    → (option_and_then (if_printed text) (if float then None else Some (object ms)) ≡ Some (object ms)) × (float ≡ false)
plain true text ms found = absurd (false≢true found)
plain false text ms found = (same (bytes_eq text (compact_text (object ms))) (object ms) found, refl)

printed : (text : List ℕ) (d : Data) → is_some (option_and_then (if_printed text) (if_plain_object d)) ≡ true
    → (option_and_then (if_printed text) (if_plain_object d) ≡ Some d) × (has_float d ≡ false)
printed text null found = absurd (false≢true found)
printed text (boolean b) found = absurd (false≢true found)
printed text (number n) found = absurd (false≢true found)
printed text (string s) found = absurd (false≢true found)
printed text (array ds) found = absurd (false≢true found)
printed text (object ms) found = plain (has_float (object ms)) text ms found

is_printed : (text : List ℕ) → IsTrue (is_metadata text) → is_some (printed_object text) ≡ true
is_printed text form = (and_parts (nat_le (length text) metadata_limit) (is_some (printed_object text)) form).1

-- what metadata reads as is what it prints
pub metadata_read : (text : List ℕ) (d : Data) → IsUtf8 text → read text ≡ Some d → IsTrue (is_metadata text) → (d ≡ metadata_data text) × (has_float d ≡ false)
metadata_read text d utf8 reads form =
    let is : printed_object text ≡ option_and_then (if_printed text) (if_plain_object d) = rw (is_utf8-from_IsUtf8 text utf8, reads) refl in
    let found = printed text d (ap is_some (sym is) ∙ is_printed text form) in
    (let told : printed_object text ≡ Some d = is ∙ found.0 in rw told refl, found.1)

-- metadata is never refused
pub metadata_reads : (text : List ℕ) → (IsUtf8 text → read text ≡ None) → IsTrue (is_metadata text) → ⊥
metadata_reads text refused form =
    let none : printed_object text ≡ None = elim (cases_Bool (is_utf8 text)) [
      | inl it_is ↦ rw (it_is, refused (IsUtf8-from_is_utf8 text it_is)) refl
      | inr it_is_not ↦ rw it_is_not refl
    ] in
    false≢true (ap is_some (sym none) ∙ is_printed text form)
