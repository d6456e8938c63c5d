-- Access tokens with an index by the places of the entries that drew them.
use Rattle.std.specs.Prelude.{ℕ, ◌≡◌, ◌+◌, ◌^◌, ◌<◌, ◌≤◌, List, length, map, count_by, Some, All, IsTrue}
use Rattle.std.specs.List.{list_all}
use Rattle.std.specs.Option.{is_some}
use Rattle.std.specs.declared.option.Option.{Option}
use Rattle.op_names.specs.Secrets.{secret_text, IsDrawn}
use Rattle.op_names.specs.declared.Letter.TheVariants.{Access}
use Rattle.op_model.specs.History.{nth}
use Rattle.op_model.specs.declared.grant.Item.{Item}
use Rattle.op_model.specs.declared.row.GrantRow.{GrantRow}
use Rattle.op_grant.specs.declared.tokens.Token.{Token}
use Rattle.op_grant.specs.Tokens.{TokensValue, grant_at}
use Rattle.op_grant.specs.Limits.{are_readable}

abbrev pub accesses : List GrantRow → List (Option (List ℕ))
accesses rows = map (λ row. row.access) rows

abbrev pub asked_items : List GrantRow → List (List Item)
asked_items rows = map (λ row. row.items) rows

-- the text of an access token that was drawn at a place
pub record IsDrawnAt (place : ℕ) (text : List ℕ) : Type 0 where
  pub word : List ℕ
  pub drawn : IsDrawn word
  pub small : place < 2 ^ 64
  pub is : text ≡ secret_text Access word place

-- the index has grant n for the token with this text
pub record IsFound (tokens : List Token) (n : ℕ) (text : List ℕ) : Type 0 where
  pub place : ℕ
  pub drawn : IsDrawnAt place text
  pub at : grant_at tokens place ≡ Some n

-- the token of the index is its grant's
pub record IsHeld (texts : List (Option (List ℕ))) (t : Token) : Type 0 where
  pub text : List ℕ
  pub there : nth texts t.grant ≡ Some (Some text)
  pub drawn : IsDrawnAt t.place text

pub record AreIndexed (tokens : TokensValue) (texts : List (Option (List ℕ))) : Type 0 where
  pub found : (n : ℕ) (text : List ℕ) → nth texts n ≡ Some (Some text) → IsFound tokens.tokens n text
  pub held : All (IsHeld texts) tokens.tokens
  -- a grant without a token leaves room for one
  pub few : length tokens.tokens ≤ count_by is_some texts
  pub room : length texts ≤ length tokens.tokens + tokens.room

pub record IsKept (tokens : TokensValue) (rows : List GrantRow) : Type 0 where
  pub indexed : AreIndexed tokens (accesses rows)
  pub readable : IsTrue (list_all are_readable (asked_items rows))
