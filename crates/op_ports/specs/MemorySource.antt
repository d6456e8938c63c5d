-- A source in memory: what it holds, and what one call does.
use Rattle.std.specs.Prelude.{◌≡◌, ℕ, Bool, true, false, ◌==◌, List, ◌++◌, length, take, drop, min, MatchResult}
use Rattle.std.specs.List.{list_any}
use Rattle.std.specs.declared.result.Result.{Result}
use Rattle.op_ports.specs.Counts.{counted}
use Rattle.op_ports.specs.declared.source.MemorySource.{MemorySource}

-- the bytes that are left
abbrev pub source_left : MemorySource → List ℕ
source_left s = drop s.place s.bytes.items

-- how many bytes it gives at most at a time
abbrev pub source_piece : MemorySource → ℕ
source_piece s = s.piece

-- the numbers of the calls that fail
abbrev pub source_failing : MemorySource → List ℕ
source_failing s = s.failing.items

abbrev pub source_calls : MemorySource → ℕ
source_calls s = s.calls

abbrev pub source_faults : MemorySource → ℕ
source_faults s = s.faults

-- the next call is one of those that fail
abbrev pub source_fails : MemorySource → Bool
source_fails s = list_any (λ call. call == source_calls s) (source_failing s)

-- how many bytes the next call gives into a buffer with this much room
abbrev pub next_count : MemorySource → ℕ → ℕ
next_count s room = min (min (length (source_left s)) room) (source_piece s)

-- a call that gives the next n bytes
pub record Gives (n : ℕ) (old new : MemorySource) (into into' : List ℕ) : Type 0 where
  pub listed : source_fails old ≡ false
  pub count : n ≡ next_count old (length into)
  pub given : into' ≡ take n (source_left old) ++ drop n into
  pub left : source_left new ≡ drop n (source_left old)
  pub faults : source_faults new ≡ source_faults old

-- a call that fails
pub record Fails (old new : MemorySource) (into into' : List ℕ) : Type 0 where
  pub listed : source_fails old ≡ true
  pub unwritten : into' ≡ into
  pub left : source_left new ≡ source_left old
  pub faults : source_faults new ≡ counted (source_faults old)

-- what each call leaves as it was, or counts
pub record IsCalled (old new : MemorySource) : Type 0 where
  pub calls : source_calls new ≡ counted (source_calls old)
  pub piece : source_piece new ≡ source_piece old
  pub failing : source_failing new ≡ source_failing old

-- one call: it fails exactly where its number is listed
abbrev pub Calls : {E : Type 0} → (old new : MemorySource) (into into' : List ℕ) → Result ℕ E → Type 0
Calls old new into into' result =
    IsCalled old new × MatchResult result (λ n. Gives n old new into into') (λ _. Fails old new into into')
