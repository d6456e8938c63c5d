-- What stands: the history that was found, and the rounds since, each as its entries. A round without entries is none.
use Rattle.std.specs.Prelude.{List, [], ◌∷◌, ◌++◌}
use Rattle.std.specs.List.{flat_map}
use Rattle.op_model.specs.declared.act.Entry.{Entry}

pub record Stood : Type 0 where
  pub found : List Entry
  pub rounds : List (List Entry)

abbrev pub opened_with : List Entry → Stood
opened_with history = record { found = history; rounds = [] }

abbrev pub entries_of : List (List Entry) → List Entry
entries_of rounds = flat_map (λ (round : List Entry). round) rounds

-- the whole history
abbrev pub now : Stood → List Entry
now stood = stood.found ++ entries_of stood.rounds

abbrev pub with_rounds : Stood → List (List Entry) → Stood
with_rounds stood more = record { found = stood.found; rounds = stood.rounds ++ more }

-- entries as a round: one, or where there are none, none
abbrev pub round_of : List Entry → List (List Entry)
round_of [] = []
round_of (e ∷ es) = (e ∷ es) ∷ []

abbrev pub with_entries : Stood → List Entry → Stood
with_entries stood entries = with_rounds stood (round_of entries)
