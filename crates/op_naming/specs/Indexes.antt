-- Texts with their numbers.
use Rattle.std.specs.Prelude.{ℕ, ◌≡◌, List, length}
use Rattle.std.specs.HashMap.{get_by, spare}
use Rattle.std.specs.Str.{bytes_eq}
use Rattle.std.specs.declared.option.Option.{Option}
use Rattle.op_model.specs.History.{number_of}
use Rattle.op_naming.specs.declared.index.Index.{Index}

-- the number of a text
abbrev pub number_in : Index → List ℕ → Option ℕ
number_in index text = get_by (λ k. bytes_eq text k.items) index.numbers

-- the room for more
abbrev pub room_in : Index → ℕ
room_in index = spare index.numbers

-- the index has these texts, in this order
pub record IsIndexOf (index : Index) (texts : List (List ℕ)) : Type 0 where
  pub count : index.count ≡ length texts
  pub numbers : (text : List ℕ) → number_in index text ≡ number_of (λ k. bytes_eq k text) texts

-- the same texts, whatever the room
pub record IsSameIndex (old new : Index) : Type 0 where
  pub count : new.count ≡ old.count
  pub numbers : (text : List ℕ) → number_in new text ≡ number_in old text
