-- The places of the entries that drew the secrets of grants.
use Rattle.std.specs.Prelude.{ℕ, ◌≡◌, ◌^◌, ◌<◌, List, ◌∷◌, ◌++◌, All}
use Rattle.std.specs.Option.{option_to_list}
use Rattle.op_names.specs.Secrets.{secret_text, IsDrawn}
use Rattle.op_names.specs.declared.Letter.{Letter}
use Rattle.op_model.specs.declared.row.GrantRow.{GrantRow}

abbrev pub secrets_of : GrantRow → List (List ℕ)
secrets_of row = row.continuation ∷ row.nonce ∷ option_to_list row.access ++ option_to_list row.reference

-- the text is no secret that was drawn at this place or behind it
abbrev pub IsDrawnBefore : ℕ → List ℕ → Type 0
IsDrawnBefore place text =
    (letter : Letter) (word : List ℕ) (drawn : ℕ) → IsDrawn word → drawn < 2 ^ 64
    → text ≡ secret_text letter word drawn → drawn < place

-- the place is above the place in every secret of the grants
abbrev pub IsNewPlace : ℕ → List GrantRow → Type 0
IsNewPlace place rows = All (λ row. All (IsDrawnBefore place) (secrets_of row)) rows
