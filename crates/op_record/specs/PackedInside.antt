-- What a packed history keeps.
use Rattle.std.specs.Prelude.{◌≡◌, ℕ, ◌+◌, ◌*◌, ◌/◌, ◌<◌, ◌≤◌, List, [], ◌∷◌, ◌++◌, length, drop, take, slice_index_or, Option, Some, None, vec_len, vec_capacity}
use Rattle.op_time.specs.declared.TheConstants.{LAST}
use Rattle.op_model.specs.declared.act.Entry.{Entry}
use Rattle.op_record.specs.Rounds.{round_of}
use Rattle.op_record.specs.Packing.{PackedValue, held, body_of}
use Rattle.op_record.specs.declared.packed.TheConstants.{STRIDE}
use Rattle.op_record.specs.declared.packed.Point.{Point}
use Rattle.op_record.specs.declared.packed.Packed.TheInside.{Inside}

-- bytes that hold these entries, from within a round of one moment to within a round of another, whatever follows
abbrev pub IsPiece : (from : ℕ) → List ℕ → List Entry → (to : ℕ) → Type 0
IsPiece from bytes entries to = (more : List ℕ) → held from (bytes ++ more) ≡ entries ++ held to more

-- the point of this number: from its place on, and within a round of its moment, the bytes hold the entries from its own on
pub record IsPoint (text : List ℕ) (entries : List Entry) (to number : ℕ) (point : Point) : Type 0 where
  pub within : point.place ≤ length text
  pub low : point.moment ≤ LAST
  pub holds : IsPiece point.moment (drop point.place text) (drop (STRIDE * number) entries) to

abbrev pub ArePoints : List ℕ → List Entry → ℕ → List Point → Type 0
ArePoints text entries to points = (number : ℕ) (d : Point) → number < length points → IsPoint text entries to number (slice_index_or points number d)

-- no round is open: rounds, and a 0 behind them
pub record IsClosed (bytes : List ℕ) (points : List Point) (entries : List Entry) : Type 0 where
  pub text : List ℕ
  pub to : ℕ
  pub bytes_are : bytes ≡ text ++ 0 ∷ []
  pub holds : IsPiece 0 text entries to
  pub points_are : ArePoints text entries to points

-- a round of this moment is open: behind what was there it stands as a commit asks for it, from this place on
pub record IsOpen (at : ℕ) (bytes : List ℕ) (points : List Point) (start : ℕ) (entries round : List Entry) : Type 0 where
  pub text : List ℕ
  pub low : at ≤ LAST
  pub start_is : start ≡ length text + 1
  pub bytes_are : bytes ≡ text ++ 0 ∷ body_of (round_of at round)
  -- whatever its length says
  pub holds : (digits : List ℕ) → length digits ≡ 4 → IsPiece 0 (text ++ 0 ∷ (digits ++ round_of at round)) entries at
  pub points_are : (digits : List ℕ) → length digits ≡ 4 → ArePoints (text ++ 0 ∷ (digits ++ round_of at round)) entries at points
  -- where it has no entry, what was there before is closed
  pub unused : round ≡ [] → IsClosed (take start bytes) points entries

abbrev pub entries_of : Inside → List Entry
entries_of p = held 0 p.bytes.items

-- the entries behind those that were there before, if a round is open
abbrev pub round_in : Option ℕ → ℕ → List Entry → List Entry
round_in None before entries = []
round_in (Some at) before entries = drop before entries

abbrev pub packed_of : Inside → PackedValue
packed_of p = record { entries = entries_of p; moment = p.moment; round = round_in p.moment p.before (entries_of p); room = p.room }

abbrev pub Stands : Option ℕ → List ℕ → List Point → (start before : ℕ) → List Entry → Type 0
Stands None bytes points start before entries = IsClosed bytes points entries
Stands (Some at) bytes points start before entries = IsOpen at bytes points start entries (drop before entries)

pub record IsKept (p : Inside) : Type 0 where
  pub counted : p.count ≡ length (entries_of p)
  pub before : p.before ≤ p.count
  pub some : 0 < vec_len p.bytes
  pub few : p.count ≤ vec_len p.bytes
  pub pointed : length p.points.items ≡ (p.count + 15) / STRIDE
  pub room : vec_len p.bytes + p.room ≤ vec_capacity p.bytes
  pub points_room : (p.count + p.room + 15) / STRIDE ≤ vec_capacity p.points
  pub stands : Stands p.moment p.bytes.items p.points.items p.start p.before (entries_of p)
