-- What is no text is no client.
use Rattle.std.proofs.Common.{◌≡◌, ℕ, None, List, IsUtf8, refl, inl, inr}
use Rattle.std.proofs.lemmas.Bool.{cases_Bool}
use Rattle.op_names.specs.Forms.{is_client}
use Rattle.op_names.specs.Names.{text_if}
use Rattle.op_names.proofs.AsciiTexts.{IsUtf8-from_client}
pub use Rattle.op_names.proofs.AsciiTexts.{IsUtf8-from_visible}

pub no_client : (text : List ℕ) → ¬ (IsUtf8 text) → text_if is_client text ≡ None
no_client text strange = elim (cases_Bool (is_client text)) [
  | inl e ↦ absurd (strange (IsUtf8-from_client text e))
  | inr e ↦ rw e refl
]
