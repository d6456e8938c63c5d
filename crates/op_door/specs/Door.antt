-- What a door gives, and what it takes back.
use Rattle.std.specs.Prelude.{◌≡◌, ℕ, ◌+◌, List, [], ◌∷◌, ◌++◌, Some, None, ⊤}
use Rattle.std.specs.declared.option.Option.{Option}
use Rattle.op_causes.specs.Causes.{Rose}
use Rattle.op_door.specs.declared.door.Next.{Next}
use Rattle.op_door.specs.declared.door.Next.TheVariants as next
use Rattle.op_door.specs.declared.door.Told.{Told}
use Rattle.op_door.specs.declared.door.Told.TheVariants as told

-- the answer that was told
abbrev pub answer_of : {C : Type 0} → Told C → Next C
answer_of (told.Conn conn) = next.Conn conn
answer_of told.Nothing = next.Nothing
answer_of told.Closed = next.Closed

-- the next call gave the first answer that was told; past the end nothing is told
abbrev pub GivesFirst : {C : Type 0} → (told left : List (Told C)) → Next C → Type 0
GivesFirst [] left answer = left ≡ []
GivesFirst (first ∷ others) left answer = (answer ≡ answer_of first) × (left ≡ others)

-- a call that failed leaves what was told
abbrev pub Gives : {C : Type 0} → (coming left : Option (List (Told C))) → Next C → Type 0
Gives None left answer = ⊤
Gives (Some coming) None answer = ⊥
Gives (Some coming) (Some left) next.Failed = left ≡ coming
Gives (Some coming) (Some left) answer = GivesFirst coming left answer

abbrev pub Finishes : {C : Type 0} → (old new : Option (List C)) → C → Type 0
Finishes None new conn = ⊤
Finishes (Some old) None conn = ⊥
Finishes (Some old) (Some new) conn = new ≡ old ++ conn ∷ []

-- how many connections are given out and not finished yet
abbrev pub given_by : {C : Type 0} → ℕ → Next C → ℕ
given_by n (next.Conn conn) = n + 1
given_by n _ = n

-- a door fails only where its count rose
abbrev pub IsCause : {C : Type 0} → (old new : ℕ) → Next C → Type 0
IsCause old new next.Failed = Rose old new
IsCause old new _ = new ≡ old
