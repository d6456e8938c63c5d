-- Bodies that are objects, and bodies that are none.
use Rattle.std.proofs.Common.{◌≡◌, List, ℕ, true, Some, None, is_some, IsUtf8, refl, inl, inr}
use Rattle.std.specs.Prelude.{option_and_then}
use Rattle.std.specs.declared.option.Option.{Option}
use Rattle.std.proofs.lemmas.Bool.{cases_Bool}
use Rattle.std.proofs.lemmas.Str.{IsUtf8-from_is_utf8, is_utf8-from_IsUtf8}
use Rattle.std.specs.Str.{is_utf8}
use Rattle.serde_json.specs.Data.{Data}
use Rattle.serde_json.specs.Find.{as_object}
use Rattle.serde_json.specs.Read.{read}
use Rattle.op_model.specs.Json.{object_in}

if_some : {M : Type 0} (d : Data) (o : Option M) → is_some o ≡ true → option_and_then (λ m. Some d) o ≡ Some d
if_some d None e = absurd cc
if_some d (Some m) e = refl

pub is_object : (body : List ℕ) (d : Data) → IsUtf8 body → read body ≡ Some d → is_some (as_object d) ≡ true → object_in body ≡ Some d
is_object body d u r o = rw (is_utf8-from_IsUtf8 body u, r) (if_some d (as_object d) o)

pub is_unread : (body : List ℕ) → (IsUtf8 body → read body ≡ None) → object_in body ≡ None
is_unread body h = elim (cases_Bool (is_utf8 body)) [
  | inl u ↦ rw (u, h (IsUtf8-from_is_utf8 body u)) refl
  | inr n ↦ rw n refl
]
