-- The words of the command line.
use Rattle.std.specs.Prelude.{ℕ, List, [], ◌∷◌}

-- the name of the journal's file: the second word, or nothing
abbrev pub journal_of : List (List ℕ) → List ℕ
journal_of (command ∷ journal ∷ more) = journal
journal_of _ = []
