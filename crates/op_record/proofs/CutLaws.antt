-- What reading an entry says of the bytes.
use Rattle.std.proofs.Common.{◌≡◌, ◌≢◌, ℕ, zero, suc, ◌+◌, ◌-◌, ◌<◌, ◌≤◌, lit<, List, [], ◌∷◌, ◌++◌, length, take, drop, Result, Ok, Err, refl, sym, ap, subst, ◌∙◌, append_assoc, arith, ◌⊎◌, inl, inr}
use Rattle.std.proofs.lemmas.List.{append-nil, take_at, drop_at, take-append-drop, length-append, length-take, take-append-le}
use Rattle.std.proofs.lemmas.Bool.{cases_lt}
use Rattle.op_model.specs.declared.act.Entry.{Entry}
use Rattle.op_record.specs.declared.fault.Fault.{Fault}
use Rattle.op_record.specs.declared.fault.Fault.TheVariants.{Short, Bad}
use Rattle.op_record.specs.Records.{record_of}
use Rattle.op_record.specs.Rows.{entry_at}
use Rattle.op_record.specs.Cuts.{HasRecord, IsCut, IsBadAt}
use Rattle.op_record.proofs.Good.{Whole, Extends, Stops}
use Rattle.op_record.proofs.ActLaws.{entry-field}

abbrev Read : Type 0
Read = Result (Entry × List ℕ) Fault

-- ---- from what was read to the bytes

pub found : (bytes : List ℕ) (entry : Entry) (rest : List ℕ) → entry_at bytes ≡ Ok (entry, rest) → HasRecord entry × (bytes ≡ record_of entry ++ rest)
found bytes entry rest e = entry-field.takes bytes entry rest e

pub again : (entry : Entry) (rest : List ℕ) → HasRecord entry → entry_at (record_of entry ++ rest) ≡ Ok (entry, rest)
again entry rest has = entry-field.again entry rest has

pub again_alone : (entry : Entry) (bytes : List ℕ) → HasRecord entry → bytes ≡ record_of entry → entry_at bytes ≡ Ok (entry, [])
again_alone entry bytes has e = ap entry_at (e ∙ sym (append-nil (record_of entry))) ∙ again entry [] has

pub short_is_cut : (bytes : List ℕ) → entry_at bytes ≡ Err Short → IsCut bytes
short_is_cut bytes e =
    let x = entry-field.good.short bytes e in
    let t = found (bytes ++ x.more) x.value [] x.reads in
    record { entry = x.value; has = t.0; more = x.more; some = x.some; whole = t.1 ∙ append-nil (record_of x.value) }

ok_not_bad : {X : Type 0} (read : Read) (x : Entry × List ℕ) (d : Fault) → read ≡ Ok x → read ≡ Err d → X
ok_not_bad read x d p q = absurd cc

take_more : (front : List ℕ) (b : ℕ) (rest : List ℕ) → take (length front + 1) (front ++ b ∷ rest) ≡ front ++ b ∷ []
take_more front b rest =
    ap (λ (t : List ℕ). take (length front + 1) t) (sym (append_assoc front (b ∷ []) rest))
    ∙ take_at (front ++ b ∷ []) rest (length front + 1) (length-append front (b ∷ []))

-- the place of a bad byte, by the bytes that are left from it on
pub record IsPlace (bytes : List ℕ) (left at : ℕ) : Type 0 where
  pub sum : at + left ≡ length bytes
  pub bad : IsBadAt bytes at

bad_of : (bytes : List ℕ) (left : ℕ) (s : Stops entry_at bytes left) → IsPlace bytes left (length s.front)
bad_of bytes left s =
    let len : length bytes ≡ length s.front + suc (length s.rest) = ap length s.parts ∙ length-append s.front (s.bad ∷ s.rest) in
    let place : left ≡ suc (length s.rest) = s.place in
    let front : take (length s.front) bytes ≡ s.front = ap (λ (t : List ℕ). take (length s.front) t) s.parts ∙ take_at s.front (s.bad ∷ s.rest) (length s.front) refl in
    let with : take (length s.front + 1) bytes ≡ s.front ++ s.bad ∷ [] = ap (λ (t : List ℕ). take (length s.front + 1) t) s.parts ∙ take_more s.front s.bad s.rest in
    record {
      sum = omega arith;
      bad = record {
        within = omega arith;
        before = subst IsCut (sym front) (short_is_cut s.front s.before);
        never = λ entry more has e.
            let whole : s.front ++ s.bad ∷ more ≡ record_of entry = sym (append_assoc s.front (s.bad ∷ []) more) ∙ ap (λ (t : List ℕ). t ++ more) (sym with) ∙ e in
            ok_not_bad (entry_at (s.front ++ s.bad ∷ more)) (entry, []) (Bad (length (s.bad ∷ more))) (again_alone entry (s.front ++ s.bad ∷ more) has whole) (s.after more);
      };
    }

pub bad_is : (bytes : List ℕ) (left : ℕ) → entry_at bytes ≡ Err (Bad left) → (at : ℕ) × IsPlace bytes left at
bad_is bytes left e = let s = entry-field.good.bad bytes left e in (length s.front, bad_of bytes left s)

-- ---- from the bytes to what is read

not_nothing : {X : Type 0} (rest more : List ℕ) → 0 < length more → rest ++ more ≡ [] → X
not_nothing rest more some e = absurd (omega (arith, length-append rest more, ap length e, some))

rest_is : (read : Read) (a b : Entry) (x y : List ℕ) → read ≡ Ok (a, x) → read ≡ Ok (b, y) → (a ≡ b) × (x ≡ y)
rest_is read a b x y p q =
    let same : (a, x) ≡ (b, y) = cc in
    (ap (λ (p : Entry × List ℕ). p.0) same, ap (λ (p : Entry × List ℕ). p.1) same)

cut_cases : (bytes : List ℕ) → IsCut bytes → (read : Read) → entry_at bytes ≡ read → read ≡ Err Short
cut_cases bytes cut (Ok x) e =
    let w = entry-field.good.whole bytes x.0 x.1 e in
    let one : entry_at (bytes ++ cut.more) ≡ Ok (x.0, x.1 ++ cut.more) =
    ap entry_at (ap (λ (t : List ℕ). t ++ cut.more) w.parts ∙ append_assoc w.text x.1 cut.more) ∙ w.again (x.1 ++ cut.more) in
    let two = again_alone cut.entry (bytes ++ cut.more) cut.has cut.whole in
    not_nothing x.1 cut.more cut.some ((rest_is (entry_at (bytes ++ cut.more)) x.0 cut.entry (x.1 ++ cut.more) [] one two).1)
cut_cases bytes cut (Err Short) e = refl
cut_cases bytes cut (Err (Bad left)) e =
    let s = entry-field.good.bad bytes left e in
    let one : entry_at (bytes ++ cut.more) ≡ Err (Bad (length (s.bad ∷ (s.rest ++ cut.more)))) =
    ap entry_at (ap (λ (t : List ℕ). t ++ cut.more) s.parts ∙ append_assoc s.front (s.bad ∷ s.rest) cut.more) ∙ s.after (s.rest ++ cut.more) in
    ok_not_bad (entry_at (bytes ++ cut.more)) (cut.entry, []) (Bad (length (s.bad ∷ (s.rest ++ cut.more)))) (again_alone cut.entry (bytes ++ cut.more) cut.has cut.whole) one

pub cut_is_short : (bytes : List ℕ) → IsCut bytes → entry_at bytes ≡ Err Short
cut_is_short bytes cut = cut_cases bytes cut (entry_at bytes) refl

-- the front of a front
pub take_take : (m n : ℕ) (bytes : List ℕ) → m ≤ n → n ≤ length bytes → (more : List ℕ) × (take m bytes ++ more ≡ take n bytes)
take_take m n bytes le enough =
    let len : length (take n bytes) ≡ n = omega (arith, length-take n bytes) in
    let front : take m (take n bytes) ≡ take m bytes =
    sym (take-append-le m (take n bytes) (drop n bytes) (omega arith)) ∙ ap (λ (t : List ℕ). take m t) (take-append-drop n bytes) in
    (drop m (take n bytes), ap (λ (t : List ℕ). t ++ drop m (take n bytes)) (sym front) ∙ take-append-drop m (take n bytes))

-- a place that is bad lies before the end of each front with which a record begins
no_cut_past : {X : Type 0} (bytes : List ℕ) (at n : ℕ) → IsBadAt bytes at → at < n → n ≤ length bytes → IsCut (take n bytes) → X
no_cut_past bytes at n bad lt enough cut =
    let t = take_take (at + 1) n bytes (omega arith) enough in
    absurd (bad.never cut.entry (t.0 ++ cut.more) cut.has (sym (append_assoc (take (at + 1) bytes) t.0 cut.more) ∙ ap (λ (u : List ℕ). u ++ cut.more) t.1 ∙ cut.whole))

take_whole : (bytes : List ℕ) → take (length bytes) bytes ≡ bytes
take_whole bytes = ap (λ (t : List ℕ). take (length bytes) t) (sym (append-nil bytes)) ∙ take_at bytes [] (length bytes) refl

same_place : (bytes : List ℕ) (at other : ℕ) → IsBadAt bytes at → IsBadAt bytes other → at ≡ other
same_place bytes at other a b =
    elim (cases_lt at other) [
      | inl lt ↦ no_cut_past bytes at other a lt (omega (arith, b.within)) b.before
      | inr le ↦ elim (cases_lt other at) [
        | inl lt ↦ no_cut_past bytes other at b lt (omega (arith, a.within)) a.before
        | inr ge ↦ omega arith
      ]
    ]

bad_cases : (bytes : List ℕ) (at : ℕ) → IsBadAt bytes at → (read : Read) → entry_at bytes ≡ read → read ≡ Err (Bad (length bytes - at))
bad_cases bytes at bad (Ok x) e =
    let t = found bytes x.0 x.1 e in
    let cut_short = cut_is_short (take at bytes) bad.before in
    let whole = take_at (record_of x.0) x.1 (length (record_of x.0)) refl in
    elim (cases_lt at (length (record_of x.0))) [
      | inl lt ↦
          let enough : length (record_of x.0) ≤ length bytes = omega (arith, ap length t.1, length-append (record_of x.0) x.1) in
          let u = take_take (at + 1) (length (record_of x.0)) bytes (omega arith) enough in
          absurd (bad.never x.0 u.0 t.0 (u.1 ∙ ap (λ (v : List ℕ). take (length (record_of x.0)) v) t.1 ∙ whole))
      | inr le ↦
          let u = take_take (length (record_of x.0)) at bytes le (omega (arith, bad.within)) in
          let front : take (length (record_of x.0)) bytes ≡ record_of x.0 = ap (λ (v : List ℕ). take (length (record_of x.0)) v) t.1 ∙ whole in
          let one : entry_at (take at bytes) ≡ Ok (x.0, u.0) = ap entry_at (sym u.1 ∙ ap (λ (v : List ℕ). v ++ u.0) front) ∙ again x.0 u.0 t.0 in
          ok_not_bad (entry_at (take at bytes)) (x.0, u.0) Short one cut_short
    ]
bad_cases bytes at bad (Err Short) e =
    no_cut_past bytes at (length bytes) bad bad.within (omega arith) (subst IsCut (sym (take_whole bytes)) (short_is_cut bytes e))
bad_cases bytes at bad (Err (Bad left)) e =
    let other = bad_is bytes left e in
    let same : at ≡ other.0 = same_place bytes at other.0 bad other.1.bad in
    ap (λ (n : ℕ). Err (Bad n)) (omega (arith, other.1.sum))

pub bad_at_is : (bytes : List ℕ) (at : ℕ) → IsBadAt bytes at → entry_at bytes ≡ Err (Bad (length bytes - at))
bad_at_is bytes at bad = bad_cases bytes at bad (entry_at bytes) refl

-- ---- records stand one after another in one way

pub one_way : (a b : Entry) (x y : List ℕ) → HasRecord a → HasRecord b → record_of a ++ x ≡ record_of b ++ y → (a ≡ b) × (x ≡ y)
one_way a b x y p q e = rest_is (entry_at (record_of a ++ x)) a b x y (again a x p) (ap entry_at e ∙ again b y q)
