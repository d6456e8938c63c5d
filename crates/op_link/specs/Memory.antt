-- A link in memory: what it holds, and what one post does.
use Rattle.std.specs.Prelude.{◌≡◌, ℕ, ◌+◌, ◌-◌, ◌^◌, Bool, false, ◌==◌, List, [], ◌∷◌, ◌++◌, map, min, ⊤, MatchResult}
use Rattle.std.specs.List.{list_any}
use Rattle.std.specs.declared.option.Option.{Option}
use Rattle.std.specs.declared.result.Result.{Result}
use Rattle.op_link.specs.Posted.{Posted}
use Rattle.op_link.specs.declared.memory.MemoryLink.{MemoryLink}
use Rattle.op_link.specs.declared.memory.Post.{Post}

abbrev pub link_secret : MemoryLink → Option (List ℕ)
link_secret l = l.secret

abbrev pub posted_of : Post → Posted
posted_of post = record { message = post.message.items; outcome = post.outcome }

-- what each post is answered
abbrev pub link_status : MemoryLink → ℕ
link_status l = l.status

-- the messages that were posted
abbrev pub link_posted : MemoryLink → List Posted
link_posted l = map posted_of l.posted.items

-- the numbers of the posts that fail
abbrev pub link_failing : MemoryLink → List ℕ
link_failing l = l.failing.items

abbrev pub link_calls : MemoryLink → ℕ
link_calls l = l.calls

abbrev pub link_faults : MemoryLink → ℕ
link_faults l = l.faults

-- the next post is one of those that fail
abbrev pub link_fails : MemoryLink → Bool
link_fails l = list_any (λ call. call == link_calls l) (link_failing l)

-- what each post leaves as it was, or counts; a count at its greatest value stays there
pub record IsCalled (old new : MemoryLink) : Type 0 where
  pub calls : link_calls new ≡ min (link_calls old + 1) (2 ^ 64 - 1)
  pub status : link_status new ≡ link_status old
  pub secret : link_secret new ≡ link_secret old
  pub failing : link_failing new ≡ link_failing old

-- a post is answered only where its number is not listed
abbrev pub FailsWhere : {E : Type 0} → (listed : Bool) → Result ℕ E → Type 0
FailsWhere listed result = MatchResult result (λ status. listed ≡ false) (λ _. Unit {0})

-- the message is kept at the end, or nothing has changed
abbrev pub KeepsMessage : {E : Type 0} → (old new : List Posted) → (message : List ℕ) → (outcome : ℕ) → Result ⊤ E → Type 0
KeepsMessage old new message outcome result = MatchResult result (λ _. new ≡ old ++ record { message = message; outcome = outcome } ∷ []) (λ _. new ≡ old)
