-- A sink in memory: what it holds, and what one call does.
use Rattle.std.specs.Prelude.{◌≡◌, ℕ, Bool, false, ◌==◌, List, ◌++◌, length, take, min, MatchResult}
use Rattle.std.specs.List.{list_any}
use Rattle.std.specs.declared.result.Result.{Result}
use Rattle.op_ports.specs.Counts.{counted}
use Rattle.op_ports.specs.declared.sink.MemorySink.{MemorySink}

-- the bytes that it was given
abbrev pub sink_bytes : MemorySink → List ℕ
sink_bytes s = s.bytes.items

-- how many bytes it takes at most at a time
abbrev pub sink_piece : MemorySink → ℕ
sink_piece s = s.piece

-- the numbers of the calls that fail
abbrev pub sink_failing : MemorySink → List ℕ
sink_failing s = s.failing.items

abbrev pub sink_calls : MemorySink → ℕ
sink_calls s = s.calls

abbrev pub sink_faults : MemorySink → ℕ
sink_faults s = s.faults

-- the next call is one of those that fail
abbrev pub sink_fails : MemorySink → Bool
sink_fails s = list_any (λ call. call == sink_calls s) (sink_failing s)

-- a call that takes the first n bytes of a piece
pub record Takes (n : ℕ) (old new : MemorySink) (from : List ℕ) : Type 0 where
  pub listed : sink_fails old ≡ false
  pub count : n ≡ min (length from) (sink_piece old)
  pub bytes : sink_bytes new ≡ sink_bytes old ++ take n from
  pub faults : sink_faults new ≡ sink_faults old

-- a call that fails
pub record Fails (old new : MemorySink) : Type 0 where
  pub bytes : sink_bytes new ≡ sink_bytes old
  pub faults : sink_faults new ≡ counted (sink_faults old)

-- what each call leaves as it was, or counts
pub record IsCalled (old new : MemorySink) : Type 0 where
  pub calls : sink_calls new ≡ counted (sink_calls old)
  pub piece : sink_piece new ≡ sink_piece old
  pub failing : sink_failing new ≡ sink_failing old

-- one call: it fails where its number is listed, and else only where a growth was refused
abbrev pub Calls : {E : Type 0} → (old new : MemorySink) (from : List ℕ) → Result ℕ E → Type 0
Calls old new from result =
    IsCalled old new × MatchResult result (λ n. Takes n old new from) (λ _. Fails old new)
