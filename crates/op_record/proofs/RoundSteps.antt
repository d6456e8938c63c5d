-- Entries of a round that are read one after another: what each step leaves.
use Rattle.std.proofs.Common.{◌≡◌, ℕ, zero, suc, ◌+◌, ◌<◌, ◌≤◌, true, false, eqb, List, [], ◌∷◌, ◌++◌, length, Option, Some, None, Result, Ok, Err, refl, sym, ap, ◌∙◌, append_assoc, arith}
use Rattle.std.specs.Prelude.{IfSome}
use Rattle.std.specs.List.{flat_map, AllByRecursion}
use Rattle.std.proofs.lemmas.Bool.{eqb-true}
use Rattle.std.proofs.lemmas.List.{append-nil, length-append}
use Rattle.op_time.specs.declared.TheConstants.{LAST}
use Rattle.op_model.specs.declared.act.Entry.{Entry}
use Rattle.op_record.specs.declared.fault.Fault.{Fault}
use Rattle.op_record.specs.declared.fault.Fault.TheVariants.{Short}
use Rattle.op_record.specs.Readers.{bind, byte, digits_at}
use Rattle.op_record.specs.Rows.{act_at, entry_at, entry_of_round_at}
use Rattle.op_record.specs.RoundReading.{entry_with, text_with, FitsWith, AreRead, StopsAt}
use Rattle.op_record.proofs.FieldLaws.{Field}
use Rattle.op_record.proofs.ActLaws.{entry-field, entry_of_round-field}
use Rattle.op_record.proofs.Many.{all_append, flat_map_more}

pub entry_with-field : (said : Option ℕ) → IfSome said (λ at. at ≤ LAST) → Field (entry_with said) (text_with said) (FitsWith said)
entry_with-field None low = entry-field
entry_with-field (Some at) low = entry_of_round-field at low

-- no entry is read of nothing
pub none_left : (said : Option ℕ) → entry_with said [] ≡ Err Short
unfolding entry_at entry_of_round_at act_at digits_at bind byte
none_left None = refl
none_left (Some at) = refl

-- the entries that were read so far
pub record SoFar (said : Option ℕ) (bytes rest : List ℕ) (old new : List Entry) : Type 0 where
  pub round : List Entry
  pub have : AllByRecursion (FitsWith said) round
  pub split : bytes ≡ flat_map (text_with said) round ++ rest
  pub left : 0 < length round → 0 < length rest
  pub grown : new ≡ old ++ round

pub starts : (said : Option ℕ) (bytes : List ℕ) (old : List Entry) → SoFar said bytes bytes old old
starts said bytes old = record { round = []; have = tt; split = refl; left = λ some. absurd (omega (arith, some)); grown = sym (append-nil old) }

-- the texts of one more entry
pub record OneMore (said : Option ℕ) (bytes after : List ℕ) (round : List Entry) (entry : Entry) : Type 0 where
  pub have : AllByRecursion (FitsWith said) (round ++ entry ∷ [])
  pub split : bytes ≡ flat_map (text_with said) (round ++ entry ∷ []) ++ after

one_more : (said : Option ℕ) (bytes rest after : List ℕ) (round : List Entry) (entry : Entry) → IfSome said (λ at. at ≤ LAST) → AllByRecursion (FitsWith said) round
    → bytes ≡ flat_map (text_with said) round ++ rest → entry_with said rest ≡ Ok (entry, after) → OneMore said bytes after round entry
one_more said bytes rest after round entry low have split read =
    let t = (entry_with-field said low).takes rest entry after read in
    record {
      have = all_append (FitsWith said) round (entry ∷ []) have (t.0, tt);
      split = (
          split ∙ ap (λ (u : List ℕ). flat_map (text_with said) round ++ u) t.1 ∙ sym (append_assoc (flat_map (text_with said) round) (text_with said entry) after)
          ∙ ap (λ (u : List ℕ). u ++ after) (sym (flat_map_more (text_with said) round entry))
          );
    }

pub goes_on : (said : Option ℕ) (bytes rest after : List ℕ) (old new newer : List Entry) (entry : Entry) → IfSome said (λ at. at ≤ LAST) → SoFar said bytes rest old new → entry_with said rest ≡ Ok (entry, after)
    → newer ≡ new ++ entry ∷ [] → 0 < length after → SoFar said bytes after old newer
goes_on said bytes rest after old new newer entry low so_far read pushed some =
    let m = one_more said bytes rest after so_far.round entry low so_far.have so_far.split read in
    record {
      round = so_far.round ++ entry ∷ [];
      have = m.have;
      split = m.split;
      left = λ _. some;
      grown = pushed ∙ ap (λ (l : List Entry). l ++ entry ∷ []) so_far.grown ∙ append_assoc old so_far.round (entry ∷ []);
    }

pub ends : (said : Option ℕ) (bytes rest after : List ℕ) (old new newer : List Entry) (entry : Entry) → IfSome said (λ at. at ≤ LAST) → SoFar said bytes rest old new → entry_with said rest ≡ Ok (entry, after)
    → newer ≡ new ++ entry ∷ [] → after ≡ [] → AreRead said bytes old newer
ends said bytes rest after old new newer entry low so_far read pushed none =
    let m = one_more said bytes rest after so_far.round entry low so_far.have so_far.split read in
    record {
      round = so_far.round ++ entry ∷ [];
      some = omega (arith, length-append so_far.round (entry ∷ []));
      have = m.have;
      is = m.split ∙ ap (λ (u : List ℕ). flat_map (text_with said) (so_far.round ++ entry ∷ []) ++ u) none ∙ append-nil (flat_map (text_with said) (so_far.round ++ entry ∷ []));
      grown = pushed ∙ ap (λ (l : List Entry). l ++ entry ∷ []) so_far.grown ∙ append_assoc old so_far.round (entry ∷ []);
    }

pub stops : (said : Option ℕ) (bytes rest : List ℕ) (old new : List Entry) (fault : Fault) → SoFar said bytes rest old new → entry_with said rest ≡ Err fault → StopsAt said bytes fault
stops said bytes rest old new fault so_far fails = record { entries = so_far.round; rest = rest; have = so_far.have; split = so_far.split; left = so_far.left; fails = fails }

-- whether bytes are left
pub is_end : (bytes : List ℕ) → eqb (length bytes) 0 ≡ true → bytes ≡ []
is_end [] e = refl
is_end (b ∷ bytes) e = absurd (omega (arith, eqb-true (length (b ∷ bytes)) 0 e))

pub is_more : (bytes : List ℕ) → eqb (length bytes) 0 ≡ false → 0 < length bytes
is_more [] e = absurd cc
is_more (b ∷ bytes) e = omega arith

-- an entry takes a byte
pub shorter : (said : Option ℕ) (rest after : List ℕ) (entry : Entry) → IfSome said (λ at. at ≤ LAST) → entry_with said rest ≡ Ok (entry, after) → length after < length rest
shorter said rest after entry low read =
    let t = (entry_with-field said low).takes rest entry after read in
    let n : length rest ≡ length (text_with said entry) + length after = ap length t.1 ∙ length-append (text_with said entry) after in
    some (text_with said entry) refl n
  where
    some : (text : List ℕ) → text_with said entry ≡ text → length rest ≡ length text + length after → length after < length rest
    some [] e n =
        let t = (entry_with-field said low).takes rest entry after read in
        let again = (entry_with-field said low).again entry [] t.0 in
        let read : entry_with said [] ≡ Ok (entry, []) = ap (λ (u : List ℕ). entry_with said (u ++ [])) (sym e) ∙ again in
        let none = none_left said in
        absurd cc
    some (b ∷ text) e n = omega arith
