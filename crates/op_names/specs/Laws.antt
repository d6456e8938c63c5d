-- What is printed is read again, and secrets differ.
use Rattle.std.specs.Prelude.{◌≡◌, ◌≢◌, ℕ, ◌^◌, ◌<◌, List, Option, Some, IfSome, IsTrue}
use Rattle.op_names.specs.Forms.{is_origin, is_path}
use Rattle.op_names.specs.Ids.{id_text, id_in, has_id_number}
use Rattle.op_names.specs.Secrets.{secret_text, IsDrawn, ReadsSecret}
use Rattle.op_names.specs.Names.{address_in, address_url, row_in, row_url, row_folder}
use Rattle.op_names.specs.declared.Id.{Id}
use Rattle.op_names.specs.declared.Letter.{Letter}
use Rattle.op_names.specs.declared.AddressName.{AddressName}
use Rattle.op_names.specs.declared.RowName.{RowName}

abbrev pub IdsReadBack : Type 0
IdsReadBack = (id : Id) → IsTrue (has_id_number id.number) → id_in (id_text id) ≡ Some id

-- what was read of a secret's text, if it is a letter, a word and a place, is what was printed
abbrev pub SecretsReadBack : Type 0
SecretsReadBack =
    (letter : Letter) (word : List ℕ) (place : ℕ) (read : Option (Letter × List ℕ × ℕ)) → IsDrawn word → place < 2 ^ 64
    → IfSome read (λ secret. IsDrawn secret.1 × (secret.2 < 2 ^ 64)) → ReadsSecret (secret_text letter word place) read
    → read ≡ Some (letter, word, place)

-- no two secrets of one letter that were drawn at different places are equal
abbrev pub SecretsDiffer : Type 0
SecretsDiffer =
    (letter : Letter) (word other : List ℕ) (place elsewhere : ℕ) → IsDrawn word → IsDrawn other → place < 2 ^ 64
    → elsewhere < 2 ^ 64 → place ≢ elsewhere → secret_text letter word place ≢ secret_text letter other elsewhere

abbrev pub AddressesReadBack : Type 0
AddressesReadBack =
    (name : AddressName) → IsTrue (is_origin name.origin) → IsTrue (is_path name.path) → address_in (address_url name) ≡ Some name

abbrev pub RowsReadBack : Type 0
RowsReadBack =
    (name : RowName) (folder : List ℕ) → IsTrue (is_origin name.origin) → IsTrue (has_id_number name.id.number)
    → row_folder name.id.kind ≡ Some folder → row_in name.id.kind (row_url name folder) ≡ Some name
