-- A clock in memory.
use Rattle.std.specs.Prelude.{◌≡◌, ℕ, List, [], ◌∷◌, drop}
use Rattle.op_ports.specs.declared.clock.TableClock.{TableClock}

-- the answers to come
abbrev pub clock_answers : TableClock → List ℕ
clock_answers c = drop c.place c.table.items

-- the last answer that it gave, or 0
abbrev pub clock_last : TableClock → ℕ
clock_last c = c.last

-- one call gives the next answer, or past the end the last one again
abbrev pub Gives : (answers left : List ℕ) (last last' : ℕ) → ℕ → Type 0
Gives [] left last last' answer = (left ≡ []) × (answer ≡ last) × (last' ≡ last)
Gives (next ∷ answers) left last last' answer = (left ≡ answers) × (answer ≡ next) × (last' ≡ next)
