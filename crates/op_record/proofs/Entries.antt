-- What a result of reading says.
use Rattle.std.proofs.Common.{◌≡◌, ℕ, ◌+◌, ◌-◌, ◌<◌, ◌≤◌, List, [], ◌∷◌, ◌++◌, length, take, Result, Ok, Err, refl, sym, ap, subst, ◌∙◌, arith}
use Rattle.std.specs.Prelude.{IfOk}
use Rattle.std.proofs.lemmas.List.{append-nil, take_at, length-append}
use Rattle.op_model.specs.declared.act.Entry.{Entry}
use Rattle.op_record.specs.declared.fault.Fault.{Fault}
use Rattle.op_record.specs.declared.fault.Fault.TheVariants as faults
use Rattle.op_record.specs.declared.RecordFault.{RecordFault}
use Rattle.op_record.specs.declared.RecordFault.TheVariants.{Short, Bad, Memory}
use Rattle.op_record.specs.Records.{record_of}
use Rattle.op_record.specs.Rows.{entry_at}
use Rattle.op_record.specs.Reading.{told, reading}
use Rattle.op_record.specs.Laws.{NoRecordBeginsAnother, AreCutOneWay, IsReadBack}
use Rattle.op_record.specs.Cuts.{HasRecord, IsCut, IsBadAt, IsFound, IsUnlessMemory}
use Rattle.op_record.proofs.CutLaws.{found, again, short_is_cut, IsPlace, bad_is, cut_is_short, bad_at_is, one_way}

abbrev Answer : Type 0
Answer = Result (Entry × ℕ) RecordFault

-- ---- what each answer says

taken : (bytes : List ℕ) (entry : Entry) (rest : List ℕ) → bytes ≡ record_of entry ++ rest → (length bytes - length rest ≡ length (record_of entry)) × (length rest ≤ length bytes)
taken bytes entry rest e =
    let n : length bytes ≡ length (record_of entry) + length rest = ap length e ∙ length-append (record_of entry) rest in
    (omega arith, omega arith)

pub rest_fits : (bytes : List ℕ) (entry : Entry) (rest : List ℕ) → entry_at bytes ≡ Ok (entry, rest) → length rest ≤ length bytes
rest_fits bytes entry rest e = (taken bytes entry rest (found bytes entry rest e).1).1

pub left_fits : (bytes : List ℕ) (left : ℕ) → entry_at bytes ≡ Err (faults.Bad left) → left ≤ length bytes
left_fits bytes left e = let p = bad_is bytes left e in omega (arith, p.1.sum)

abbrev ok : Entry × ℕ → Answer
ok x = Ok x

abbrev err : RecordFault → Answer
err d = Err d

ok_is : (x y : Entry × ℕ) → ok x ≡ ok y → x ≡ y
ok_is x y e = cc

bad_place : (m n : ℕ) → err (Bad m) ≡ err (Bad n) → m ≡ n
bad_place m n e = cc

found_from : (bytes : List ℕ) (read : Result (Entry × List ℕ) Fault) (x : Entry × ℕ) → entry_at bytes ≡ read → told (length bytes) read ≡ Ok x → IsFound bytes x.0 x.1
found_from bytes (Ok y) x e h =
    let f = found bytes y.0 y.1 e in
    let t = taken bytes y.0 y.1 f.1 in
    let whole : take (length bytes - length y.1) bytes ≡ record_of y.0 = ap (λ (u : List ℕ). take (length bytes - length y.1) u) f.1 ∙ take_at (record_of y.0) y.1 (length bytes - length y.1) (sym t.0) in
    subst (λ (p : Entry × ℕ). IsFound bytes p.0 p.1) (ok_is (y.0, length bytes - length y.1) x h) (record { has = f.0; within = omega arith; record_is = whole })
found_from bytes (Err faults.Short) x e h = absurd cc
found_from bytes (Err (faults.Bad left)) x e h = absurd cc

cut_from : (bytes : List ℕ) (read : Result (Entry × List ℕ) Fault) → entry_at bytes ≡ read → told (length bytes) read ≡ Err Short → IsCut bytes
cut_from bytes (Ok y) e h = absurd cc
cut_from bytes (Err faults.Short) e h = short_is_cut bytes e
cut_from bytes (Err (faults.Bad left)) e h = absurd cc

bad_from : (bytes : List ℕ) (read : Result (Entry × List ℕ) Fault) (at : ℕ) → entry_at bytes ≡ read → told (length bytes) read ≡ Err (Bad at) → IsBadAt bytes at
bad_from bytes (Ok y) at e h = absurd cc
bad_from bytes (Err faults.Short) at e h = absurd cc
bad_from bytes (Err (faults.Bad left)) at e h =
    let p = bad_is bytes left e in
    let same : p.0 ≡ at = omega (arith, p.1.sum, bad_place (length bytes - left) at h) in
    subst (λ (n : ℕ). IsBadAt bytes n) same p.1.bad

-- ---- what a result says

pub says_found : (result : Answer) (bytes : List ℕ) → IsUnlessMemory result (reading bytes) → IfOk result (λ x. IsFound bytes x.0 x.1)
says_found (Ok x) bytes h = found_from bytes (entry_at bytes) x refl h
says_found (Err d) bytes h = tt

pub says_cut : (result : Answer) (bytes : List ℕ) → IsUnlessMemory result (reading bytes) → result ≡ Err Short → IsCut bytes
says_cut (Ok x) bytes h e = absurd cc
says_cut (Err Short) bytes h e = cut_from bytes (entry_at bytes) refl h
says_cut (Err (Bad at)) bytes h e = absurd cc
says_cut (Err Memory) bytes h e = absurd cc

pub says_bad : (result : Answer) (bytes : List ℕ) (at : ℕ) → IsUnlessMemory result (reading bytes) → result ≡ Err (Bad at) → IsBadAt bytes at
says_bad (Ok x) bytes at h e = absurd cc
says_bad (Err Short) bytes at h e = absurd cc
says_bad (Err (Bad n)) bytes at h e = subst (λ (m : ℕ). IsBadAt bytes m) (bad_place n at e) (bad_from bytes (entry_at bytes) n refl h)
says_bad (Err Memory) bytes at h e = absurd cc

-- ---- and what the bytes say of the result

pub reads_whole : (entry : Entry) (rest : List ℕ) → HasRecord entry → reading (record_of entry ++ rest) ≡ Ok (entry, length (record_of entry))
reads_whole entry rest has =
    ap (told (length (record_of entry ++ rest))) (again entry rest has)
    ∙ ap (λ (n : ℕ). Ok (entry, n)) ((taken (record_of entry ++ rest) entry rest refl).0)

pub reads_cut : (bytes : List ℕ) → IsCut bytes → reading bytes ≡ Err Short
reads_cut bytes cut = ap (told (length bytes)) (cut_is_short bytes cut)

pub reads_bad : (bytes : List ℕ) (at : ℕ) → IsBadAt bytes at → reading bytes ≡ Err (Bad at)
reads_bad bytes at bad =
    ap (told (length bytes)) (bad_at_is bytes at bad) ∙ ap (λ (n : ℕ). Err (Bad n)) (omega (arith, bad.within))

-- ---- laws

pub no_record_begins_another : NoRecordBeginsAnother
no_record_begins_another a b more p q e = one_way a b more [] p q (e ∙ sym (append-nil (record_of b)))

pub are_cut_one_way : AreCutOneWay
are_cut_one_way a b x y p q e = one_way a b x y p q e

pub is_read_back : IsReadBack
is_read_back entry rest has = reads_whole entry rest has
