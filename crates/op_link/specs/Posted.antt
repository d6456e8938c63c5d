-- Messages that were posted.
use Rattle.std.specs.Prelude.{◌≡◌, ◌⊎◌, ℕ, List, [], ◌∷◌, ◌++◌, ⊤, Some, None, Ok, Err}
use Rattle.std.specs.declared.option.Option.{Option}
use Rattle.std.specs.declared.result.Result.{Result}

-- a message, and what its post answered: a status, or 0 where the post failed
pub record Posted : Type 0 where
  pub message : List ℕ
  pub outcome : ℕ

-- The message stands at the end with what its post answered. The message of a post that failed may be missing.
abbrev pub Adds : {E : Type 0} → (old new : List Posted) → (message : List ℕ) → Result ℕ E → Type 0
Adds old new message (Ok status) = new ≡ old ++ record { message = message; outcome = status } ∷ []
Adds old new message (Err fault) = (new ≡ old) ⊎ (new ≡ old ++ record { message = message; outcome = 0 } ∷ [])

-- the same, where the messages are told
abbrev pub Posts : {E : Type 0} → (old new : Option (List Posted)) → (message : List ℕ) → Result ℕ E → Type 0
Posts None new message result = ⊤
Posts (Some old) None message result = ⊥
Posts (Some old) (Some new) message result = Adds old new message result
