-- Words in memory: what they hold, and what one draw does.
use Rattle.std.specs.Prelude.{◌≡◌, ℕ, Bool, true, false, ◌==◌, List, [], ◌∷◌, drop, MatchResult}
use Rattle.std.specs.List.{list_any}
use Rattle.std.specs.declared.result.Result.{Result}
use Rattle.op_ports.specs.Counts.{counted}
use Rattle.op_ports.specs.declared.words.TableWords.{TableWords}

-- the words to come
abbrev pub words_left : TableWords → List (List ℕ)
words_left w = drop w.place w.table.items

-- the last word that was drawn, or zeros
abbrev pub words_last : TableWords → List ℕ
words_last w = w.last

-- the numbers of the draws that fail
abbrev pub words_failing : TableWords → List ℕ
words_failing w = w.failing.items

abbrev pub words_calls : TableWords → ℕ
words_calls w = w.calls

abbrev pub words_faults : TableWords → ℕ
words_faults w = w.faults

-- the next draw is one of those that fail
abbrev pub words_fails : TableWords → Bool
words_fails w = list_any (λ call. call == words_calls w) (words_failing w)

-- the next word, or past the end the last one again
abbrev pub GivesNext : (words left : List (List ℕ)) (last last' : List ℕ) → List ℕ → Type 0
GivesNext [] left last last' word = (left ≡ []) × (word ≡ last) × (last' ≡ last)
GivesNext (next ∷ words) left last last' word = (left ≡ words) × (word ≡ next) × (last' ≡ next)

-- a draw that gives a word
pub record Gives (word : List ℕ) (old new : TableWords) : Type 0 where
  pub listed : words_fails old ≡ false
  pub next : GivesNext (words_left old) (words_left new) (words_last old) (words_last new) word
  pub faults : words_faults new ≡ words_faults old

-- a draw that fails
pub record Fails (old new : TableWords) : Type 0 where
  pub listed : words_fails old ≡ true
  pub left : words_left new ≡ words_left old
  pub last : words_last new ≡ words_last old
  pub faults : words_faults new ≡ counted (words_faults old)

-- what each draw leaves as it was, or counts
pub record IsCalled (old new : TableWords) : Type 0 where
  pub calls : words_calls new ≡ counted (words_calls old)
  pub failing : words_failing new ≡ words_failing old

-- one draw: it fails exactly where its number is listed
abbrev pub Calls : {E : Type 0} → (old new : TableWords) → Result (List ℕ) E → Type 0
Calls old new result = IsCalled old new × MatchResult result (λ word. Gives word old new) (λ _. Fails old new)
