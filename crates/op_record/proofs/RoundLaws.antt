-- What reading a payload says of its bytes.
use Rattle.std.proofs.Common.{◌≡◌, ℕ, zero, suc, ◌+◌, ◌-◌, ◌<◌, ◌≤◌, lit<, lit≤, List, [], ◌∷◌, ◌++◌, length, take, drop, Option, Some, None, Result, Ok, Err, refl, sym, ap, subst, ◌∙◌, append_assoc, arith, ◌⊎◌, inl, inr}
use Rattle.std.specs.Prelude.{OnOk}
use Rattle.std.specs.List.{flat_map, AllByRecursion}
use Rattle.std.proofs.lemmas.List.{append-nil, length-append, take-append-drop, take_at}
use Rattle.std.proofs.lemmas.Bool.{cases_lt}
use Rattle.std.proofs.Math.Seq.{take-append-add}
use Rattle.op_time.specs.declared.TheConstants.{LAST}
use Rattle.op_model.specs.declared.act.Entry.{Entry}
use Rattle.op_model.specs.declared.act.Act.TheVariants as acts
use Rattle.op_record.specs.declared.fault.Fault.{Fault}
use Rattle.op_record.specs.declared.fault.Fault.TheVariants.{Short, Bad}
use Rattle.op_record.specs.declared.fault.ReadError.{ReadError}
use Rattle.op_record.specs.declared.fault.ReadError.TheVariants as errors
use Rattle.op_record.specs.declared.RecordFault.{RecordFault}
use Rattle.op_record.specs.declared.RecordFault.TheVariants as faults
use Rattle.op_record.specs.Fields.{number}
use Rattle.op_record.specs.Records.{act_of, record_of}
use Rattle.op_record.specs.Readers.{Fails, BeginsWithout, bind, byte, digits_at}
use Rattle.op_record.specs.Rows.{moment_at, entry_at, entry_of_round_at}
use Rattle.op_record.specs.Cuts.{HasRecord, IsUnlessMemory}
use Rattle.op_record.specs.Laws.{NoActBeginsAnother, BothVersionsSayIt}
use Rattle.op_record.specs.Rounds.{records, round_of, act_in, IsInRound, IsRoundOfRecords, IsRoundOfOneMoment, IsRound, BeginsRound, IsCutRound, IsBadRoundAt, IsReadOrMemory}
use Rattle.op_record.specs.RoundReading.{entry_with, text_with, FitsWith, AreRead, StopsAt, IsReadRound, IsLeft, Says}
use Rattle.op_record.proofs.Parts.{moment-field}
use Rattle.op_record.proofs.LengthLaws.{length_number}
use Rattle.op_record.proofs.ActLaws.{entry-field, entry_of_round-field}
use Rattle.op_record.proofs.CutLaws.{take_take}
use Rattle.op_record.proofs.RoundSteps.{none_left}
use Rattle.op_record.proofs.Many.{Stopped, Begins, IsStop, take_more, one_way, not_refused, same_values, short_begins, stops_whole, bad_stops}

-- ---- the first byte

is_refused : (bytes : List ℕ) → entry_at (2 ∷ bytes) ≡ Err (Bad (length (2 ∷ bytes)))
unfolding entry_at digits_at bind byte
is_refused bytes = refl

-- no record begins with a 2
no_record : {X : Type 0} (entry : Entry) (rest bytes : List ℕ) → HasRecord entry → 2 ∷ bytes ≡ record_of entry ++ rest → X
no_record entry rest bytes has e = not_refused entry-field entry rest (2 ∷ bytes) _ has e (is_refused bytes)

-- ---- which version

of_records : (payload : List ℕ) (entries : List Entry) → BeginsWithout 2 payload → IsRound payload entries → IsRoundOfRecords payload entries
of_records payload entries other (inl first) = first
of_records payload entries other (inr second) = absurd (other _ second.is)

-- the entries behind a moment
record IsBehind (rest : List ℕ) (entries : List Entry) : Type 0 where
  some : 0 < length entries
  at : ℕ
  low : at ≤ LAST
  have : AllByRecursion (IsInRound at) entries
  is : rest ≡ number 8 at ++ flat_map act_in entries

moment_low : (at : ℕ) (entries : List Entry) → 0 < length entries → AllByRecursion (IsInRound at) entries → at ≤ LAST
moment_low at [] some have = absurd (omega (arith, some))
moment_low at (e ∷ entries) some have = subst (λ (n : ℕ). n ≤ LAST) have.0.0 have.0.2.0

tail_is : (a b : ℕ) (x y : List ℕ) → a ∷ x ≡ b ∷ y → x ≡ y
tail_is a b x y e = ap (λ (t : List ℕ). drop 1 t) e

no_records : {X : Type 0} (rest : List ℕ) (entries : List Entry) → 0 < length entries → AllByRecursion HasRecord entries → 2 ∷ rest ≡ records entries → X
no_records rest [] some have is = absurd (omega (arith, some))
no_records rest (e ∷ entries) some have is = no_record e (records entries) rest have.0 is

behind : (payload rest : List ℕ) (entries : List Entry) → payload ≡ 2 ∷ rest → IsRound payload entries → IsBehind rest entries
behind payload rest entries two (inl first) = no_records rest entries first.some first.have (sym two ∙ first.is)
behind payload rest entries two (inr second) = record {
  some = second.some;
  at = second.at;
  low = moment_low second.at entries second.some second.have;
  have = second.have;
  is = tail_is 2 2 rest _ (sym two ∙ second.is);
}

-- ---- what was read

pub records_read : (payload : List ℕ) (old new : List Entry) → AreRead None payload old new → IsReadRound payload old new
records_read payload old new r = record { round = r.round; is = inl (record { some = r.some; have = r.have; is = r.is }); grown = r.grown }

pub round_read : (payload rest bytes : List ℕ) (at : ℕ) (old new : List Entry) → payload ≡ 2 ∷ rest → moment_at rest ≡ Ok (at, bytes) → AreRead (Some at) bytes old new → IsReadRound payload old new
round_read payload rest bytes at old new two moment r =
    let t = moment-field.takes rest at bytes moment in
    record {
      round = r.round;
      is = inr (record { some = r.some; at = at; have = r.have; is = two ∙ ap (λ (u : List ℕ). 2 ∷ u) (t.1 ∙ ap (λ (u : List ℕ). number 8 at ++ u) r.is) });
      grown = r.grown;
    }

-- ---- payloads of records

stopped : (said : Option ℕ) (bytes : List ℕ) (fault : Fault) → StopsAt said bytes fault → Stopped (entry_with said) (text_with said) (FitsWith said) bytes fault
stopped said bytes fault s = record { values = s.entries; rest = s.rest; have = s.have; split = s.split; left = s.left; fails = s.fails }

records_begin : (bytes : List ℕ) → Begins record_of HasRecord bytes → BeginsRound bytes
records_begin bytes b = record { entries = b.values; more = b.more; whole = inl (record { some = b.some; have = b.have; is = b.whole }) }

pub records_short : (payload : List ℕ) → BeginsWithout 2 payload → StopsAt None payload Short → IsCutRound payload
records_short payload other s = (
  records_begin payload (short_begins entry-field payload (stopped None payload Short s)),
  λ entries round. let first = of_records payload entries other round in
      stops_whole entry-field (none_left None) payload Short (stopped None payload Short s) entries first.some first.have first.is,
)

left_at : (payload : List ℕ) (at left : ℕ) → at + left ≡ length payload → IsBadRoundAt payload at → IsLeft payload left
left_at payload at left sum bad = record { within = omega (arith, sum); bad = subst (λ (n : ℕ). IsBadRoundAt payload n) (omega (arith, sum)) bad }

abbrev head_of : List ℕ → ℕ
head_of [] = 0
head_of (b ∷ bytes) = b

first_is : (at b : ℕ) (bytes more rest : List ℕ) → take (at + 1) (b ∷ bytes) ++ more ≡ 2 ∷ rest → b ≡ 2
first_is at b bytes more rest e =
    let step : suc at ≡ at + 1 = omega arith in
    ap head_of (ap (λ (n : ℕ). take n (b ∷ bytes) ++ more) step ∙ e)

stays_other : {X : Type 0} (payload more rest : List ℕ) (at : ℕ) → BeginsWithout 2 payload → at < length payload → take (at + 1) payload ++ more ≡ 2 ∷ rest → X
stays_other [] more rest at other within e = absurd (omega (arith, within))
stays_other (b ∷ bytes) more rest at other within e = absurd (other bytes (ap (λ (v : ℕ). v ∷ bytes) (first_is at b bytes more rest e)))

pub records_bad : (payload : List ℕ) (left : ℕ) → BeginsWithout 2 payload → StopsAt None payload (Bad left) → IsLeft payload left
records_bad payload left other s =
    let b = bad_stops entry-field (none_left None) payload left (stopped None payload (Bad left) s) in
    let within : b.0 < length payload = omega (arith, b.1.sum, b.1.some) in
    left_at payload b.0 left b.1.sum (record {
      within = within;
      before = records_begin (take b.0 payload) b.1.before;
      never = λ r. elim r.whole [
        | inl first ↦ b.1.never r.entries r.more first.have first.is
        | inr second ↦ stays_other payload r.more _ b.0 other within second.is
      ];
    })

-- ---- payloads of one moment

round_begins : (at : ℕ) (bytes : List ℕ) → Begins act_in (IsInRound at) bytes → BeginsRound (2 ∷ (number 8 at ++ bytes))
round_begins at bytes b = record {
  entries = b.values;
  more = b.more;
  whole = inr (record {
    some = b.some;
    at = at;
    have = b.have;
    is = ap (λ (t : List ℕ). 2 ∷ t) (append_assoc (number 8 at) bytes b.more ∙ ap (λ (t : List ℕ). number 8 at ++ t) b.whole);
  });
}

-- the entries behind this moment
record AreBehind (at : ℕ) (bytes : List ℕ) (entries : List Entry) : Type 0 where
  some : 0 < length entries
  have : AllByRecursion (IsInRound at) entries
  is : bytes ≡ flat_map act_in entries

are_behind : (payload rest bytes : List ℕ) (at : ℕ) (entries : List Entry) → at ≤ LAST → payload ≡ 2 ∷ rest → rest ≡ number 8 at ++ bytes → IsRound payload entries → AreBehind at bytes entries
are_behind payload rest bytes at entries low two moment round =
    let h = behind payload rest entries two round in
    let m = one_way moment-field at h.at bytes (flat_map act_in entries) low h.low (sym moment ∙ h.is) in
    record { some = h.some; have = subst (λ (n : ℕ). AllByRecursion (IsInRound n) entries) (sym m.0) h.have; is = m.1 }

pub round_short : (payload rest bytes : List ℕ) (at : ℕ) → payload ≡ 2 ∷ rest → moment_at rest ≡ Ok (at, bytes) → StopsAt (Some at) bytes Short → IsCutRound payload
round_short payload rest bytes at two moment s =
    let t = moment-field.takes rest at bytes moment in
    let field = entry_of_round-field at t.0 in
    let stop = stopped (Some at) bytes Short s in
    let whole : payload ≡ 2 ∷ (number 8 at ++ bytes) = two ∙ ap (λ (u : List ℕ). 2 ∷ u) t.1 in (
      subst BeginsRound (sym whole) (round_begins at bytes (short_begins field bytes stop)),
      λ entries round. let b = are_behind payload rest bytes at entries t.0 two t.1 round in
          stops_whole field (none_left (Some at)) bytes Short stop entries b.some b.have b.is,
    )

length_front : (at : ℕ) → length (2 ∷ number 8 at) ≡ 9
length_front at = omega (arith, length_number 8 at)

pub round_bad : (payload rest bytes : List ℕ) (at left : ℕ) → payload ≡ 2 ∷ rest → moment_at rest ≡ Ok (at, bytes) → StopsAt (Some at) bytes (Bad left) → IsLeft payload left
round_bad payload rest bytes at left two moment s =
    let t = moment-field.takes rest at bytes moment in
    let field = entry_of_round-field at t.0 in
    let b = bad_stops field (none_left (Some at)) bytes left (stopped (Some at) bytes (Bad left) s) in
    let front = 2 ∷ number 8 at in
    let whole : payload ≡ front ++ bytes = two ∙ ap (λ (u : List ℕ). 2 ∷ u) t.1 in
    let len : length payload ≡ length front + length bytes = ap length whole ∙ length-append front bytes in
    let place = length front + b.0 in
    let first : take place payload ≡ front ++ take b.0 bytes = ap (λ (u : List ℕ). take place u) whole ∙ take-append-add front bytes b.0 in
    let next : place + 1 ≡ length front + (b.0 + 1) = omega arith in
    let with : take (place + 1) payload ≡ front ++ take (b.0 + 1) bytes =
    ap (λ (n : ℕ). take n payload) next ∙ ap (λ (u : List ℕ). take (length front + (b.0 + 1)) u) whole ∙ take-append-add front bytes (b.0 + 1) in
    left_at payload place left (omega (arith, b.1.sum, len)) (record {
      within = omega (arith, b.1.sum, b.1.some, len);
      before = subst BeginsRound (sym first) (round_begins at (take b.0 bytes) b.1.before);
      never = λ r.
          let q = are_behind (take (place + 1) payload ++ r.more) ((number 8 at ++ take (b.0 + 1) bytes) ++ r.more) (take (b.0 + 1) bytes ++ r.more) at r.entries t.0
          (ap (λ (u : List ℕ). u ++ r.more) with) (append_assoc (number 8 at) (take (b.0 + 1) bytes) r.more) r.whole in
          b.1.never r.entries r.more q.have q.is;
    })

-- ---- payloads whose moment is cut or wrong

a_poll : ℕ → Entry
a_poll at = record { at = at; act = acts.GrantPolled 0 }

moment_begins : (front : List ℕ) → moment_at front ≡ Err Short → BeginsRound (2 ∷ front)
unfolding a_poll
moment_begins front e =
    let x = moment-field.good.short front e in
    let t = moment-field.takes (front ++ x.more) x.value [] x.reads in
    let entry = a_poll x.value in
    record {
      entries = entry ∷ [];
      more = x.more ++ act_in entry;
      whole = inr (record {
        some = lit< tt;
        at = x.value;
        have = ((refl, tt, (t.0, lit< tt)), tt);
        is = ap (λ (u : List ℕ). 2 ∷ u) (
            sym (append_assoc front x.more (act_in entry)) ∙ ap (λ (u : List ℕ). u ++ act_in entry) (t.1 ∙ append-nil (number 8 x.value))
            ∙ ap (λ (u : List ℕ). number 8 x.value ++ u) (sym (append-nil (act_in entry)))
            );
      });
    }

pub moment_short : (payload rest : List ℕ) → payload ≡ 2 ∷ rest → moment_at rest ≡ Err Short → IsCutRound payload
moment_short payload rest two e = (
  subst BeginsRound (sym two) (moment_begins rest e),
  λ entries round. let h = behind payload rest entries two round in
      not_refused moment-field h.at (flat_map act_in entries) rest Short h.low h.is e,
)

pub moment_bad : (payload rest : List ℕ) (left : ℕ) → payload ≡ 2 ∷ rest → moment_at rest ≡ Err (Bad left) → IsLeft payload left
moment_bad payload rest left two e =
    let b = moment-field.good.bad rest left e in
    let front = 2 ∷ b.front in
    let whole : payload ≡ front ++ b.bad ∷ b.rest = two ∙ ap (λ (u : List ℕ). 2 ∷ u) b.parts in
    let len : length payload ≡ length front + suc (length b.rest) = ap length whole ∙ length-append front (b.bad ∷ b.rest) in
    let place : left ≡ suc (length b.rest) = b.place in
    let first : take (length front) payload ≡ front = ap (λ (u : List ℕ). take (length front) u) whole ∙ take_at front (b.bad ∷ b.rest) (length front) refl in
    let with : take (length front + 1) payload ≡ front ++ b.bad ∷ [] = ap (λ (u : List ℕ). take (length front + 1) u) whole ∙ take_more front b.bad b.rest in
    left_at payload (length front) left (omega (arith, len, place)) (record {
      within = omega (arith, len);
      before = subst BeginsRound (sym first) (moment_begins b.front b.before);
      never = λ r.
          let h = behind (take (length front + 1) payload ++ r.more) ((b.front ++ b.bad ∷ []) ++ r.more) r.entries (ap (λ (u : List ℕ). u ++ r.more) with) r.whole in
          not_refused moment-field h.at (flat_map act_in r.entries) (b.front ++ b.bad ∷ r.more) _ h.low (sym (append_assoc b.front (b.bad ∷ []) r.more) ∙ h.is) (b.after r.more);
    })

-- ---- a payload is one of these alone

begins_front : (a b : List ℕ) → BeginsRound (a ++ b) → BeginsRound a
begins_front a b r = record { entries = r.entries; more = b ++ r.more; whole = subst (λ (t : List ℕ). IsRound t r.entries) (append_assoc a b r.more) r.whole }

pub round_begins_itself : (payload : List ℕ) (entries : List Entry) → IsRound payload entries → BeginsRound payload
round_begins_itself payload entries round = record { entries = entries; more = []; whole = subst (λ (t : List ℕ). IsRound t entries) (sym (append-nil payload)) round }

pub bad_begins : {X : Type 0} (payload : List ℕ) (at : ℕ) → IsBadRoundAt payload at → BeginsRound payload → X
bad_begins payload at bad r = absurd (bad.never (begins_front (take (at + 1) payload) (drop (at + 1) payload) (subst BeginsRound (sym (take-append-drop (at + 1) payload)) r)))

bad_before : {X : Type 0} (payload : List ℕ) (at other : ℕ) → IsBadRoundAt payload at → IsBadRoundAt payload other → at < other → X
bad_before payload at other a b lt =
    let t = take_take (at + 1) other payload (omega (arith, lt)) (omega (arith, b.within)) in
    absurd (a.never (begins_front (take (at + 1) payload) t.0 (subst BeginsRound (sym t.1) b.before)))

pub same_place : (payload : List ℕ) (at other : ℕ) → IsBadRoundAt payload at → IsBadRoundAt payload other → at ≡ other
same_place payload at other a b =
    elim (cases_lt at other) [
      | inl lt ↦ bad_before payload at other a b lt
      | inr le ↦ elim (cases_lt other at) [ inl lt ↦ bad_before payload other at b a lt | inr ge ↦ omega arith ]
    ]

-- a payload says its entries in one way
pub one_round : (payload : List ℕ) (a b : List Entry) → IsRound payload a → IsRound payload b → a ≡ b
one_round payload a b (inl x) (inl y) = same_values entry-field (none_left None) a b x.have y.have (sym x.is ∙ y.is)
one_round payload a b (inl x) (inr y) = no_records _ a x.some x.have (sym y.is ∙ x.is)
one_round payload a b (inr x) (inl y) = no_records _ b y.some y.have (sym x.is ∙ y.is)
one_round payload a b (inr x) (inr y) =
    let low = moment_low x.at a x.some x.have in
    let q = are_behind payload _ (flat_map act_in a) x.at b low x.is refl (inr y) in
    same_values (entry_of_round-field x.at low) (none_left (Some x.at)) a b x.have q.have q.is

-- ---- what a result says

abbrev Answer : Type 0
Answer = Result (Unit {0}) RecordFault

pub says_read : (payload : List ℕ) (old new : List Entry) (result : Answer) → Says payload old new result → OnOk result (IsReadRound payload old new)
says_read payload old new (Ok x) h = h
says_read payload old new (Err e) h = tt

pub says_short : (payload : List ℕ) (old new : List Entry) (result : Answer) → Says payload old new result → result ≡ Err faults.Short → IsCutRound payload
says_short payload old new (Ok x) h e = absurd cc
says_short payload old new (Err faults.Short) h e = h
says_short payload old new (Err (faults.Bad at)) h e = absurd cc
says_short payload old new (Err faults.Memory) h e = absurd cc

err : RecordFault → Answer
err e = Err e

place_is : (m n : ℕ) → err (faults.Bad m) ≡ err (faults.Bad n) → m ≡ n
unfolding err
place_is m n e = cc

pub says_bad : (payload : List ℕ) (old new : List Entry) (result : Answer) (at : ℕ) → Says payload old new result → result ≡ Err (faults.Bad at) → IsBadRoundAt payload at
unfolding err
says_bad payload old new (Ok x) at h e = absurd cc
says_bad payload old new (Err faults.Short) at h e = absurd cc
says_bad payload old new (Err (faults.Bad n)) at h e = subst (λ (m : ℕ). IsBadRoundAt payload m) (place_is n at e) h
says_bad payload old new (Err faults.Memory) at h e = absurd cc

-- and what a payload says of the result

pub whole_is_read : (payload : List ℕ) (old new : List Entry) (result : Answer) → Says payload old new result → (round : List Entry) → IsRound payload round → IsReadOrMemory round old new result
whole_is_read payload old new (Ok x) h round is = h.grown ∙ ap (λ (l : List Entry). old ++ l) (one_round payload h.round round h.is is)
whole_is_read payload old new (Err faults.Short) h round is = h.1 round is
whole_is_read payload old new (Err (faults.Bad at)) h round is = bad_begins payload at h (round_begins_itself payload round is)
whole_is_read payload old new (Err faults.Memory) h round is = tt

pub cut_is_told : (payload : List ℕ) (old new : List Entry) (result : Answer) → Says payload old new result → IsCutRound payload → IsUnlessMemory result (Err faults.Short)
cut_is_told payload old new (Ok x) h cut = absurd (cut.1 h.round h.is)
cut_is_told payload old new (Err faults.Short) h cut = refl
cut_is_told payload old new (Err (faults.Bad at)) h cut = bad_begins payload at h cut.0
cut_is_told payload old new (Err faults.Memory) h cut = tt

pub bad_is_told : (payload : List ℕ) (old new : List Entry) (result : Answer) (at : ℕ) → Says payload old new result → IsBadRoundAt payload at → IsUnlessMemory result (Err (faults.Bad at))
unfolding err
bad_is_told payload old new (Ok x) at h bad = bad_begins payload at bad (round_begins_itself payload h.round h.is)
bad_is_told payload old new (Err faults.Short) at h bad = bad_begins payload at bad h.0
bad_is_told payload old new (Err (faults.Bad n)) at h bad = ap (λ (m : ℕ). err (faults.Bad m)) (same_place payload at n bad h)
bad_is_told payload old new (Err faults.Memory) at h bad = tt

-- ---- by what a call gave

abbrev pub Told : Type 0
Told = Result (Unit {0}) ReadError

pub round_all_read : (result : Told) (payload rest bytes : List ℕ) (at : ℕ) (old new : List Entry) → payload ≡ 2 ∷ rest → moment_at rest ≡ Ok (at, bytes) → OnOk result (AreRead (Some at) bytes old new) → OnOk result (IsReadRound payload old new)
round_all_read (Ok x) payload rest bytes at old new two moment r = round_read payload rest bytes at old new two moment r
round_all_read (Err e) payload rest bytes at old new two moment r = tt

abbrev pub told : ReadError → Told
told e = Err e

error_is : (a b : ReadError) → told a ≡ told b → a ≡ b
error_is a b e = cc

-- the fault of a moment

fault_of : (error : ReadError) (f : Fault) (rest : List ℕ) → error ≡ errors.Fault f → Fails error (moment_at rest) → moment_at rest ≡ Err f
fault_of error f rest e h = subst (λ (x : ReadError). Fails x (moment_at rest)) e h

pub moment_told_short : (payload rest : List ℕ) (error : ReadError) → payload ≡ 2 ∷ rest → Fails error (moment_at rest) → told error ≡ told (errors.Fault Short) → IsCutRound payload
moment_told_short payload rest error two h e = moment_short payload rest two (fault_of error Short rest (error_is error (errors.Fault Short) e) h)

pub moment_told_bad : (payload rest : List ℕ) (error : ReadError) (left : ℕ) → payload ≡ 2 ∷ rest → Fails error (moment_at rest) → told error ≡ told (errors.Fault (Bad left)) → IsLeft payload left
moment_told_bad payload rest error left two h e = moment_bad payload rest left two (fault_of error (Bad left) rest (error_is error (errors.Fault (Bad left)) e) h)

-- ---- laws

pub no_act_begins_another : NoActBeginsAnother
no_act_begins_another at a b more p q e = one_way (entry_of_round-field at (subst (λ (n : ℕ). n ≤ LAST) p.0 p.2.0)) a b more [] p q (e ∙ sym (append-nil (act_in b)))

have_records : (at : ℕ) (entries : List Entry) → AllByRecursion (λ entry. (entry.at ≡ at) × HasRecord entry) entries → AllByRecursion HasRecord entries
have_records at [] have = tt
have_records at (e ∷ entries) have = (have.0.1, have_records at entries have.1)

are_in_round : (at : ℕ) (entries : List Entry) → AllByRecursion (λ entry. (entry.at ≡ at) × HasRecord entry) entries → AllByRecursion (IsInRound at) entries
are_in_round at [] have = tt
are_in_round at (e ∷ entries) have = ((have.0.0, have.0.1.0.0, have.0.1.1), are_in_round at entries have.1)

pub both_versions_say_it : BothVersionsSayIt
both_versions_say_it at entries some have =
    (inl (record { some = some; have = have_records at entries have; is = refl }), inr (record { some = some; at = at; have = are_in_round at entries have; is = refl }))
