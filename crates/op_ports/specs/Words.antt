-- What words are drawn.
use Rattle.std.specs.Prelude.{◌≡◌, ℕ, List, [], ◌∷◌, ⊤, Some, None, MatchResult}
use Rattle.std.specs.declared.option.Option.{Option}
use Rattle.std.specs.declared.result.Result.{Result}

-- Of the words to come, these were drawn and those are left. A word past the end is not told.
abbrev pub Draws : (told drawn left : List (List ℕ)) → Type 0
Draws told [] left = left ≡ told
Draws [] (word ∷ drawn) left = left ≡ []
Draws (next ∷ told) (word ∷ drawn) left = (word ≡ next) × Draws told drawn left

-- the same, where the words are told
abbrev pub DrawsKnown : (told left : Option (List (List ℕ))) (drawn : List (List ℕ)) → Type 0
DrawsKnown None left drawn = ⊤
DrawsKnown (Some told) None drawn = ⊥
DrawsKnown (Some told) (Some left) drawn = Draws told drawn left

-- one draw: at `Ok` the next word, and at `Err` none
abbrev pub DrawsOne : {E : Type 0} → (told left : Option (List (List ℕ))) → Result (List ℕ) E → Type 0
DrawsOne told left result =
    MatchResult result (λ word. DrawsKnown told left (word ∷ [])) (λ _. DrawsKnown told left [])
