-- Where a head may end in what is held.
use Rattle.std.specs.Prelude.{◌≡◌, ℕ, ◌<◌, ◌≤◌, true, false, List, length, take}
use Rattle.std.specs.Io.KnownBytes.{IsAtEnd}
use Rattle.std.specs.declared.option.Option.{Option}
use Rattle.op_model.specs.Requests.{ends_with_mark, head_limit}
use Rattle.op_http.specs.declared.reader.Edge.{Edge}
use Rattle.op_http.specs.declared.reader.Edge.TheVariants.{Mark, Limit, End}

-- no end mark ends in the text
abbrev pub HasNoMark : List ℕ → Type 0
HasNoMark text = (k : ℕ) → ends_with_mark (take k text) ≡ false

-- no end mark ends in the first n bytes of the text
pub record HasNoMarkTo (n : ℕ) (text : List ℕ) : Type 0 where
  pub within : n ≤ length text
  pub none : (k : ℕ) → k ≤ n → ends_with_mark (take k text) ≡ false

-- the text's first end mark ends behind n bytes
pub record IsFirstMark (text : List ℕ) (n : ℕ) : Type 0 where
  pub ends : ends_with_mark (take n text) ≡ true
  pub first : (k : ℕ) → k < n → ends_with_mark (take k text) ≡ false
  pub within : n ≤ length text

-- where the window ends, of these bytes and what is left
abbrev pub IsEdge : List ℕ → Option (List ℕ) → Edge → Type 0
IsEdge bytes left (Mark n) = IsFirstMark bytes n × (n ≤ head_limit)
IsEdge bytes left Limit = (head_limit ≤ length bytes) × HasNoMark (take head_limit bytes)
IsEdge bytes left End = (length bytes < head_limit) × HasNoMark bytes × IsAtEnd left
