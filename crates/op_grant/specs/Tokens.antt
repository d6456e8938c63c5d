-- Access tokens by the places of the entries that drew them.
use Rattle.std.specs.Prelude.{ℕ, ◌≡◌, ◌<◌, not, ◌==◌, List, [], ◌∷◌, All, length, filter, slice_get, option_map, IfSome}
use Rattle.std.specs.List.{find}
use Rattle.std.specs.declared.option.Option.{Option}
use Rattle.op_grant.specs.declared.tokens.Token.{Token}

-- the tokens in ascending order of their places, and the room for more
pub record TokensValue : Type 0 where
  pub tokens : List Token
  pub room : ℕ

-- each place lies below those behind it
abbrev pub AreRising : List Token → Type 0
AreRising [] = Unit {0}
AreRising (x ∷ xs) = All (λ y. x.place < y.place) xs × AreRising xs

-- the grant of the token that was drawn at a place
abbrev pub grant_at : List Token → ℕ → Option ℕ
grant_at tokens place = option_map (λ t. t.grant) (find (λ t. t.place == place) tokens)

-- a token that was drawn at a place
abbrev pub IsTokenAt : List Token → ℕ → ℕ → Type 0
IsTokenAt tokens at place = (at < length tokens) × IfSome (slice_get tokens at) (λ t. t.place ≡ place)

-- the tokens but those of a place
abbrev pub left : ℕ → List Token → List Token
left place tokens = filter (λ t. not (t.place == place)) tokens
