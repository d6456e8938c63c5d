-- The entries that bytes hold, one after another.
use Rattle.std.proofs.Common.{◌≡◌, ℕ, zero, suc, ◌+◌, ◌-◌, ◌<◌, ◌≤◌, lit<, lit≤, List, [], ◌∷◌, ◌++◌, length, take, drop, get_or, Option, Some, None, Result, Ok, Err, refl, sym, ap, subst, ◌∙◌, append_assoc, arith}
use Rattle.std.specs.Prelude.{IsOk}
use Rattle.std.proofs.lemmas.List.{append-nil, length-append}
use Rattle.op_time.specs.declared.TheConstants.{LAST}
use Rattle.op_model.specs.declared.act.Entry.{Entry}
use Rattle.op_record.specs.declared.fault.Fault.{Fault}
use Rattle.op_record.specs.declared.fault.Fault.TheVariants.{Short}
use Rattle.op_record.specs.Fields.{number}
use Rattle.op_record.specs.Readers.{Reader, BeginsWithout, bind, done, byte_between, bytes_at}
use Rattle.op_record.specs.Rows.{act_at, moment_at, entry_of_round_at}
use Rattle.op_record.specs.Rounds.{act_in, IsInRound, round_of}
use Rattle.op_record.specs.Packing.{opening_at, then_entries, entries_from, held}
use Rattle.op_record.proofs.Good.{IsGood, Whole, good-bind, good-bytes, good-done}
use Rattle.op_record.proofs.FieldLaws.{Field, again-bind, between-field, bytes-field}
use Rattle.op_record.proofs.Parts.{moment-field}
use Rattle.op_record.proofs.ActLaws.{act-field, entry_of_round-field}
use Rattle.op_record.proofs.RoundSteps.{none_left}

-- ---- readers take bytes away

opening_good : IsGood opening_at
unfolding opening_at
opening_good = good-bind (bytes_at 4) _ (good-bytes 4) (λ bytes l rest e. good-bind (byte_between 2 2) _ (between-field 2 2 (lit≤ tt)).good (λ bytes v rest e. moment-field.good))

entry_good : (at : ℕ) → IsGood (entry_of_round_at at)
unfolding entry_of_round_at
entry_good at = good-bind (act_at 25) _ (act-field 25 (lit≤ tt) (lit≤ tt)).good (λ bytes act rest e. good-done (record { at = at; act = act }))

not_longer : {A : Type 0} (r : Reader A) → IsGood r → (bytes : List ℕ) (x : A) (rest : List ℕ) → r bytes ≡ Ok (x, rest) → length rest ≤ length bytes
not_longer r good bytes x rest e =
    let w = good.whole bytes x rest e in omega (arith, ap length w.parts, length-append w.text rest)

pub opening_shorter : (bytes : List ℕ) (at : ℕ) (rest : List ℕ) → opening_at bytes ≡ Ok (at, rest) → length rest ≤ length bytes
opening_shorter bytes at rest e = not_longer opening_at opening_good bytes at rest e

both_read : {A X : Type 0} (read : Result (A × List ℕ) Fault) (x : A × List ℕ) (d : Fault) → read ≡ Ok x → read ≡ Err d → X
both_read read x d p q = absurd cc

pub entry_shorter : (at : ℕ) (bytes : List ℕ) (entry : Entry) (rest : List ℕ) → entry_of_round_at at bytes ≡ Ok (entry, rest) → length rest < length bytes
entry_shorter at bytes entry rest e = shorter ((entry_good at).whole bytes entry rest e).text refl
  where
    w : Whole (entry_of_round_at at) bytes entry rest
    w = (entry_good at).whole bytes entry rest e

    shorter : (text : List ℕ) → w.text ≡ text → length rest < length bytes
    shorter [] none = both_read (entry_of_round_at at []) (entry, []) Short (ap (λ (t : List ℕ). entry_of_round_at at (t ++ [])) (sym none) ∙ w.again []) (none_left (Some at))
    shorter (b ∷ text) some = omega (arith, ap length w.parts, length-append w.text rest, ap length some)

-- ---- more steps than bytes change nothing

opened_same : (n m : ℕ) (bytes : List ℕ) (read : Result (ℕ × List ℕ) Fault) → opening_at bytes ≡ read
    → ((at : ℕ) (rest : List ℕ) → length rest ≤ length bytes → entries_from n at rest ≡ entries_from m at rest)
    → then_entries read (λ later rest. entries_from n later rest) ≡ then_entries read (λ later rest. entries_from m later rest)
opened_same n m bytes (Ok x) e same = same x.0 x.1 (opening_shorter bytes x.0 x.1 e)
opened_same n m bytes (Err f) e same = refl

taken_same : (n m at : ℕ) (bytes : List ℕ) (read : Result (Entry × List ℕ) Fault) → entry_of_round_at at bytes ≡ read
    → ((rest : List ℕ) → length rest < length bytes → entries_from n at rest ≡ entries_from m at rest)
    → then_entries read (λ entry rest. entry ∷ entries_from n at rest) ≡ then_entries read (λ entry rest. entry ∷ entries_from m at rest)
taken_same n m at bytes (Ok x) e same = ap (λ (l : List Entry). x.0 ∷ l) (same x.1 (entry_shorter at bytes x.0 x.1 e))
taken_same n m at bytes (Err f) e same = refl

enough : (n m at : ℕ) (bytes : List ℕ) → length bytes ≤ n → length bytes ≤ m → entries_from n at bytes ≡ entries_from m at bytes
unfolding entries_from
enough zero zero at bytes p q = refl
enough zero (suc m) at [] p q = refl
enough zero (suc m) at (b ∷ bytes) p q = absurd (omega (arith, p))
enough (suc n) zero at [] p q = refl
enough (suc n) zero at (b ∷ bytes) p q = absurd (omega (arith, q))
enough (suc n) (suc m) at [] p q = refl
enough (suc n) (suc m) at (zero ∷ bytes) p q = opened_same n m bytes (opening_at bytes) refl (λ later rest le. enough n m later rest (omega (arith, le, p)) (omega (arith, le, q)))
enough (suc n) (suc m) at (suc b ∷ bytes) p q = taken_same n m at (suc b ∷ bytes) (entry_of_round_at at (suc b ∷ bytes)) refl (λ rest lt. enough n m at rest (omega (arith, lt, p)) (omega (arith, lt, q)))

-- ---- a step

pub held_opening : (at : ℕ) (bytes : List ℕ) (later : ℕ) (rest : List ℕ) → opening_at bytes ≡ Ok (later, rest) → held at (0 ∷ bytes) ≡ held later rest
unfolding entries_from
held_opening at bytes later rest e =
    ap (λ (read : Result (ℕ × List ℕ) Fault). then_entries read (λ later rest. entries_from (length bytes) later rest)) e
    ∙ enough (length bytes) (length rest) later rest (opening_shorter bytes later rest e) (omega arith)

pub held_entry : (at b : ℕ) (bytes : List ℕ) (entry : Entry) (rest : List ℕ) → entry_of_round_at at (suc b ∷ bytes) ≡ Ok (entry, rest) → held at (suc b ∷ bytes) ≡ entry ∷ held at rest
unfolding entries_from
held_entry at b bytes entry rest e =
    ap (λ (read : Result (Entry × List ℕ) Fault). then_entries read (λ entry rest. entry ∷ entries_from (length bytes) at rest)) e
    ∙ ap (λ (l : List Entry). entry ∷ l) (enough (length bytes) (length rest) at rest (omega (arith, entry_shorter at (suc b ∷ bytes) entry rest e)) (omega arith))

held_unopened : (at : ℕ) (bytes : List ℕ) (f : Fault) → opening_at bytes ≡ Err f → held at (0 ∷ bytes) ≡ []
unfolding entries_from
held_unopened at bytes f e = ap (λ (read : Result (ℕ × List ℕ) Fault). then_entries read (λ later rest. entries_from (length bytes) later rest)) e

held_untaken : (at b : ℕ) (bytes : List ℕ) (f : Fault) → entry_of_round_at at (suc b ∷ bytes) ≡ Err f → held at (suc b ∷ bytes) ≡ []
unfolding entries_from
held_untaken at b bytes f e = ap (λ (read : Result (Entry × List ℕ) Fault). then_entries read (λ entry rest. entry ∷ entries_from (length bytes) at rest)) e

-- nothing is held at the end
pub held_end : (at : ℕ) → held at (0 ∷ []) ≡ []
unfolding opening_at bind bytes_at
held_end at = held_unopened at [] Short refl

-- ---- the entry at a place, step by step

-- the entry at a place of the first bytes is the one at a place of the bytes that are left
pub record IsLeftOf (at : ℕ) (bytes : List ℕ) (place later : ℕ) (rest : List ℕ) (left : ℕ) : Type 0 where
  pub there : left < length (held later rest)
  pub same : (d : Entry) → get_or (held at bytes) place d ≡ get_or (held later rest) left d

pub begins : (at : ℕ) (bytes : List ℕ) (place : ℕ) → place < length (held at bytes) → IsLeftOf at bytes place at bytes place
begins at bytes place there = record { there = there; same = λ d. refl }

pub opens : (at : ℕ) (bytes : List ℕ) (place later : ℕ) (rest : List ℕ) (left : ℕ) (opening : List ℕ) (moment : ℕ) (after : List ℕ) → IsLeftOf at bytes place later rest left
    → rest ≡ 0 ∷ opening → opening_at opening ≡ Ok (moment, after) → IsLeftOf at bytes place moment after left
opens at bytes place later rest left opening moment after l gate e =
    let step : held later rest ≡ held moment after = ap (held later) gate ∙ held_opening later opening moment after e in
    record {
      there = subst (λ (h : List Entry). left < length h) step l.there;
      same = λ d. l.same d ∙ ap (λ (h : List Entry). get_or h left d) step;
    }

opening_read : (later : ℕ) (opening : List ℕ) (read : Result (ℕ × List ℕ) Fault) → opening_at opening ≡ read → 0 < length (held later (0 ∷ opening)) → IsOk read
opening_read later opening (Ok x) e some = refl
opening_read later opening (Err f) e some = absurd (omega (arith, some, ap length (held_unopened later opening f e)))

pub opening_is_there : (at : ℕ) (bytes : List ℕ) (place later : ℕ) (rest : List ℕ) (left : ℕ) (opening : List ℕ) → IsLeftOf at bytes place later rest left → rest ≡ 0 ∷ opening → IsOk (opening_at opening)
opening_is_there at bytes place later rest left opening l gate =
    opening_read later opening (opening_at opening) refl (omega (arith, l.there, ap (λ (t : List ℕ). length (held later t)) gate))

next_is : (later : ℕ) (rest : List ℕ) (entry : Entry) (after : List ℕ) → BeginsWithout 0 rest → 0 < length (held later rest) → entry_of_round_at later rest ≡ Ok (entry, after) → held later rest ≡ entry ∷ held later after
unfolding entries_from
next_is later [] entry after other some e = absurd (omega (arith, some))
next_is later (zero ∷ rest) entry after other some e = absurd (other rest refl)
next_is later (suc b ∷ rest) entry after other some e = held_entry later b rest entry after e

pub found_here : (at : ℕ) (bytes : List ℕ) (place later : ℕ) (rest : List ℕ) (left : ℕ) (entry : Entry) (after : List ℕ) → IsLeftOf at bytes place later rest left → BeginsWithout 0 rest
    → entry_of_round_at later rest ≡ Ok (entry, after) → left ≡ 0 → entry ≡ get_or (held at bytes) place entry
found_here at bytes place later rest left entry after l other e none =
    let step = next_is later rest entry after other (omega (arith, l.there)) e in
    sym (l.same entry ∙ ap (λ (n : ℕ). get_or (held later rest) n entry) none ∙ ap (λ (h : List Entry). get_or h 0 entry) step)

pub passes : (at : ℕ) (bytes : List ℕ) (place later : ℕ) (rest : List ℕ) (left : ℕ) (entry : Entry) (after : List ℕ) → IsLeftOf at bytes place later rest left → BeginsWithout 0 rest
    → entry_of_round_at later rest ≡ Ok (entry, after) → 0 < left → IsLeftOf at bytes place later after (left - 1)
passes at bytes place later rest left entry after l other e some =
    let step = next_is later rest entry after other (omega (arith, l.there)) e in
    let one : left ≡ suc (left - 1) = omega (arith, some) in
    record {
      there = omega (arith, l.there, ap length step, some);
      same = λ d. l.same d ∙ ap (λ (h : List Entry). get_or h left d) step ∙ ap (λ (n : ℕ). get_or (entry ∷ held later after) n d) one;
    }

untaken : (later : ℕ) (rest : List ℕ) (f : Fault) → BeginsWithout 0 rest → entry_of_round_at later rest ≡ Err f → length (held later rest) ≡ 0
unfolding entries_from
untaken later [] f other e = refl
untaken later (zero ∷ rest) f other e = absurd (other rest refl)
untaken later (suc b ∷ rest) f other e = ap length (held_untaken later b rest f e)

entry_read : (later : ℕ) (rest : List ℕ) (read : Result (Entry × List ℕ) Fault) → entry_of_round_at later rest ≡ read → BeginsWithout 0 rest → 0 < length (held later rest) → IsOk read
entry_read later rest (Ok x) e other some = refl
entry_read later rest (Err f) e other some = absurd (omega (arith, some, untaken later rest f other e))

pub entry_is_there : (at : ℕ) (bytes : List ℕ) (place later : ℕ) (rest : List ℕ) (left : ℕ) → IsLeftOf at bytes place later rest left → BeginsWithout 0 rest → IsOk (entry_of_round_at later rest)
entry_is_there at bytes place later rest left l other = entry_read later rest (entry_of_round_at later rest) refl other (omega (arith, l.there))
