-- A history that is kept as the bytes of its rounds: what is seen of it.
use Rattle.std.specs.Prelude.{ℕ, zero, suc, List, [], ◌∷◌, ◌++◌, length, Option, Result, Ok, Err}
use Rattle.std.specs.Int.{w32, to_be_bytes}
use Rattle.std.specs.Option.{unwrap_or}
use Rattle.op_model.specs.declared.act.Entry.{Entry}
use Rattle.op_record.specs.declared.fault.Fault.{Fault}
use Rattle.op_record.specs.Readers.{Reader, bind, byte_between, bytes_at}
use Rattle.op_record.specs.Rows.{moment_at, entry_of_round_at}
use Rattle.op_record.specs.Rounds.{round_of}

pub record PackedValue : Type 0 where
  -- all entries, those of the open round at the end
  pub entries : List Entry
  -- the moment of the open round, if one is open
  pub moment : Option ℕ
  -- the entries of the open round
  pub round : List Entry
  -- how many bytes of entries without their moments still need no memory
  pub room : ℕ

-- the payload of the open round
abbrev pub payload_of : PackedValue → List ℕ
payload_of p = round_of (unwrap_or p.moment 0) p.round

-- what a commit asks for: the payload's length in four bytes, the payload, and a closed gate
abbrev pub body_of : List ℕ → List ℕ
body_of payload = to_be_bytes w32 (length payload) ++ (payload ++ 0 ∷ [])

-- ---- the entries that bytes hold: a 0, and behind it a round as it stands in the journal, again and again, and a 0 at the end

-- what stands between a 0 and the first entry of a round: the payload's length, the byte 2, and the moment
unfoldable pub opening_at : Reader ℕ
opening_at = bind (bytes_at 4) (λ length. bind (byte_between 2 2) (λ version. moment_at))

abbrev pub then_entries : {A : Type 0} → Result (A × List ℕ) Fault → (A → List ℕ → List Entry) → List Entry
then_entries (Ok x) next = next x.0 x.1
then_entries (Err fault) next = []

-- in at most so many steps, from within a round of this moment on
unfoldable pub entries_from : (steps at : ℕ) → List ℕ → List Entry
entries_from zero at bytes = []
entries_from (suc n) at [] = []
entries_from (suc n) at (zero ∷ bytes) = then_entries (opening_at bytes) (λ later rest. entries_from n later rest)
entries_from (suc n) at (suc b ∷ bytes) = then_entries (entry_of_round_at at (suc b ∷ bytes)) (λ entry rest. entry ∷ entries_from n at rest)

abbrev pub held : ℕ → List ℕ → List Entry
held at bytes = entries_from (length bytes) at bytes
