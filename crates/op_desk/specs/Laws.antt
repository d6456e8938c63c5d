-- What holds of all that disks spell.
use Rattle.std.specs.Prelude.{◌≡◌, ℕ, List}
use Rattle.op_model.specs.declared.act.Entry.{Entry}
use Rattle.op_desk.specs.Spelling.{Spells, SpellsRounds}

-- no bytes spell two lists of rounds
abbrev pub SpellOneListOfRounds : Type 0
SpellOneListOfRounds = (bytes : List ℕ) (a b : List (List Entry)) → SpellsRounds a bytes → SpellsRounds b bytes → a ≡ b

-- no bytes spell two histories
abbrev pub SpellOneHistory : Type 0
SpellOneHistory = (bytes : List ℕ) (a b : List Entry) → Spells a bytes → Spells b bytes → a ≡ b
