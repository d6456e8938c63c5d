-- How a row is put together of fields, and each field read back.
use Rattle.std.proofs.Common.{◌≡◌, ℕ, zero, suc, ◌+◌, ◌-◌, ◌*◌, ◌/◌, ◌^◌, ◌<◌, ◌≤◌, Bool, true, false, cond, ltb, leb, eqb, lit<, lit≤, List, [], ◌∷◌, ◌++◌, length, take, drop, Option, Some, None, Result, Ok, Err, refl, sym, ap, subst, ◌∙◌, append_assoc, arith, ◌⊎◌, inl, inr}
use Rattle.std.specs.Prelude.{IfSome}
use Rattle.std.specs.Int.{bytes_high_first}
use Rattle.std.proofs.Math.Nat.{div-eq_of_lt}
use Rattle.std.proofs.lemmas.Bool.{ltb-false, le-ltb, leb-true, le-leb, eqb-true}
use Rattle.std.proofs.lemmas.List.{append-nil, take_at, drop_at, take-append-drop, length-append, length-take}
use Rattle.op_record.specs.declared.fault.Fault.{Fault}
use Rattle.op_record.specs.declared.fault.Fault.TheVariants.{Short, Bad}
use Rattle.op_record.specs.Fields.{number, text, optional}
use Rattle.op_record.specs.Readers.{Reader, onward, bind, done, byte, is_between, byte_between, digits_at, number_at, bytes_at, text_at, option_at}
use Rattle.op_record.proofs.Good.{IsGood, good-bind, good-byte, good-bytes, good-done, good-if, bound, chosen, ok_parts}
use Rattle.op_record.proofs.Numbers.{both, and_true, byte_takes, byte_again, digits_good, digits_takes, digits_again}

-- a reader of values with a text each, if they fit
pub record Field {A : Type 0} (r : Reader A) (spell : A → List ℕ) (Fits : A → Type 0) : Type 0 where
  pub good : IsGood r
  pub takes : (bytes : List ℕ) (x : A) (rest : List ℕ) → r bytes ≡ Ok (x, rest) → Fits x × (bytes ≡ spell x ++ rest)
  pub again : (x : A) (rest : List ℕ) → Fits x → r (spell x ++ rest) ≡ Ok (x, rest)

-- what was read is a text that completes that of the value
pub record Taken {A : Type 0} (spell : A → List ℕ) (Fits : A → Type 0) (wrap : List ℕ → List ℕ) (bytes : List ℕ) (x : A) (rest : List ℕ) : Type 0 where
  pub text : List ℕ
  pub parts : bytes ≡ text ++ rest
  pub spelled : wrap text ≡ spell x
  pub fits : Fits x

-- the last fields of values, the first ones being read
pub record Row {A : Type 0} (spell : A → List ℕ) (Fits : A → Type 0) (wrap : List ℕ → List ℕ) (r : Reader A) : Type 0 where
  pub good : IsGood r
  pub takes : (bytes : List ℕ) (x : A) (rest : List ℕ) → r bytes ≡ Ok (x, rest) → Taken spell Fits wrap bytes x rest

pub row-bind : {A B : Type 0} {r : Reader A} {piece : A → List ℕ} {F : A → Type 0} {next : A → Reader B} {spell : B → List ℕ} {Fits : B → Type 0} (wrap : List ℕ → List ℕ)
    → Field r piece F → ((x : A) → F x → Row spell Fits (λ t. wrap (piece x ++ t)) (next x)) → Row spell Fits wrap (bind r next)
unfolding bind
row-bind {A} {B} {r} {piece} {F} {next} {spell} {Fits} wrap field rows = record {
  good = good-bind r next field.good (λ bytes x rest e. (rows x (field.takes bytes x rest e).0).good);
  takes = λ bytes y rest e.
      let b = bound (r bytes) next (y, rest) e in
      let t = field.takes bytes b.value b.rest b.is in
      let more = (rows b.value t.0).takes b.rest y rest b.goes in
      record {
        text = piece b.value ++ more.text;
        parts = t.1 ∙ ap (λ (u : List ℕ). piece b.value ++ u) more.parts ∙ sym (append_assoc (piece b.value) more.text rest);
        spelled = more.spelled;
        fits = more.fits;
      };
}

pub row-done : {B : Type 0} {spell : B → List ℕ} {Fits : B → Type 0} (wrap : List ℕ → List ℕ) (y : B) → wrap [] ≡ spell y → Fits y → Row spell Fits wrap (done y)
unfolding done
row-done {B} {spell} {Fits} wrap y spelled fits = record {
  good = good-done y;
  takes = λ bytes x rest e.
      let q = ok_parts y x bytes rest e in
      record { text = []; parts = q.1; spelled = spelled ∙ ap spell q.0; fits = subst (λ v. Fits v) q.0 fits };
}

pub row-if : {B : Type 0} {spell : B → List ℕ} {Fits : B → Type 0} (wrap : List ℕ → List ℕ) (b : Bool) {r s : Reader B}
    → (b ≡ true → Row spell Fits wrap r) → (b ≡ false → Row spell Fits wrap s) → Row spell Fits wrap (cond b r s)
row-if wrap true first second = first refl
row-if wrap false first second = second refl

-- the same row, by what each text with its value says
pub row-fits : {B : Type 0} {spell : B → List ℕ} {F G : B → Type 0} (wrap : List ℕ → List ℕ) {r : Reader B} → Row spell F wrap r
    → ((text : List ℕ) (x : B) → wrap text ≡ spell x → F x → G x) → Row spell G wrap r
row-fits wrap row to = record {
  good = row.good;
  takes = λ bytes x rest e.
      let t = row.takes bytes x rest e in
      record { text = t.text; parts = t.parts; spelled = t.spelled; fits = to t.text x t.spelled t.fits };
}

pub again-bind : {A B : Type 0} {r : Reader A} {piece : A → List ℕ} {F : A → Type 0} (field : Field r piece F) (next : A → Reader B) (x : A) (t rest : List ℕ) (y : Result (B × List ℕ) Fault)
    → F x → next x (t ++ rest) ≡ y → bind r next ((piece x ++ t) ++ rest) ≡ y
unfolding bind
again-bind {A} {B} {r} {piece} field next x t rest y fits e =
    rw (append_assoc (piece x) t rest) (ap (λ (read : Result (A × List ℕ) Fault). onward read next) (field.again x (t ++ rest) fits) ∙ e)

pub again-done : {B : Type 0} (y : B) (rest : List ℕ) → done y ([] ++ rest) ≡ Ok (y, rest)
unfolding done
again-done y rest = refl

-- a field of several parts
pub field-of : {A : Type 0} (r : Reader A) (spell : A → List ℕ) (Fits : A → Type 0) → Row spell Fits (λ t. t) r → ((x : A) (rest : List ℕ) → Fits x → r (spell x ++ rest) ≡ Ok (x, rest)) → Field r spell Fits
field-of r spell Fits row again = record {
  good = row.good;
  takes = λ bytes x rest e.
      let t = row.takes bytes x rest e in
      (t.fits, t.parts ∙ ap (λ (u : List ℕ). u ++ rest) t.spelled);
  again = again;
}

-- the same field, by a fact that says the same
pub field-fits : {A : Type 0} {r : Reader A} {spell : A → List ℕ} {F G : A → Type 0} → Field r spell F → ((x : A) → F x → G x) → ((x : A) → G x → F x) → Field r spell G
field-fits field to from = record {
  good = field.good;
  takes = λ bytes x rest e. let t = field.takes bytes x rest e in (to x t.0, t.1);
  again = λ x rest fits. field.again x rest (from x fits);
}

-- ---- fields of one part

abbrev pub one : ℕ → List ℕ
one b = b ∷ []

pub byte-field : (test : ℕ → Bool) (some : ℕ) → test some ≡ true → Field (byte test) one (λ b. test b ≡ true)
byte-field test some passes = record {
  good = good-byte test some passes;
  takes = byte_takes test;
  again = byte_again test;
}

abbrev pub IsBetween : ℕ → ℕ → ℕ → Type 0
IsBetween low high b = (low ≤ b) × (b ≤ high)

pub between-field : (low high : ℕ) → low ≤ high → Field (byte_between low high) one (IsBetween low high)
between-field low high le =
    field-fits (byte-field (is_between low high) low (and_true (leb low low) (leb low high) (le-leb low low (omega arith)) (le-leb low high le)))
    (λ b e. let p = both (leb low b) (leb b high) e in (leb-true low b p.0, leb-true b high p.1))
    (λ b h. and_true (leb low b) (leb b high) (le-leb low b h.0) (le-leb b high h.1))

pub number-field : (width limit : ℕ) → limit < 256 ^ width → Field (number_at width limit) (number width) (λ n. n ≤ limit)
unfolding number
number-field width limit fits = record {
  good = digits_good limit width 0 (omega arith);
  takes = λ bytes n rest e.
      let t = digits_takes limit width 0 bytes n rest (omega arith) e in
      (t.low, t.parts);
  again = λ n rest le.
      let none : n / 256 ^ width ≡ 0 = div-eq_of_lt (omega arith) in
      subst (λ (v : ℕ). digits_at limit width v (bytes_high_first width n ++ rest) ≡ Ok (n, rest)) none (digits_again limit width n rest le);
}

pub bytes-field : (n : ℕ) → Field (bytes_at n) (λ bytes. bytes) (λ bytes. length bytes ≡ n)
unfolding bytes_at
bytes-field n = record {
  good = good-bytes n;
  takes = λ bytes x rest e.
      elim (chosen (ltb (length bytes) n) (Err Short) (Ok (take n bytes, drop n bytes)) (Ok (x, rest)) e) [
        | inl p ↦ absurd cc
        | inr p ↦
            let q = ok_parts (take n bytes) x (drop n bytes) rest p.1 in
            let long : n ≤ length bytes = ltb-false _ _ p.0 in
            let len : length (take n bytes) ≡ n = omega (arith, length-take n bytes) in
            (ap length (sym q.0) ∙ len, sym (take-append-drop n bytes) ∙ ap (λ (t : List ℕ). take n bytes ++ t) q.1 ∙ ap (λ (t : List ℕ). t ++ rest) q.0)
      ];
  again = λ bytes rest len.
      let enough : ltb (length (bytes ++ rest)) n ≡ false = le-ltb _ _ (omega (arith, length-append bytes rest)) in
      rw (enough, take_at bytes rest n len, drop_at bytes rest n len) refl;
}

-- ---- fields of several parts

pub text-field : (limit : ℕ) → limit < 65536 → Field (text_at limit) text (λ bytes. length bytes ≤ limit)
unfolding text_at text bind
text-field limit fits = record {
  good = good-bind (number_at 2 limit) bytes_at (number-field 2 limit fits).good (λ bytes n rest e. good-bytes n);
  takes = λ bytes x rest e.
      let b = bound (number_at 2 limit bytes) bytes_at (x, rest) e in
      let n = (number-field 2 limit fits).takes bytes b.value b.rest b.is in
      let t = (bytes-field b.value).takes b.rest x rest b.goes in (
        subst (λ (v : ℕ). v ≤ limit) (sym t.0) n.0,
        n.1 ∙ ap (λ (u : List ℕ). number 2 b.value ++ u) t.1 ∙ sym (append_assoc (number 2 b.value) x rest) ∙ ap (λ (v : ℕ). (number 2 v ++ x) ++ rest) (sym t.0),
      );
  again = λ x rest le. again-bind (number-field 2 limit fits) bytes_at (length x) x rest _ le ((bytes-field (length x)).again x rest refl);
}

zero_or_one : (flag : ℕ) → IsBetween 0 1 flag → eqb flag 0 ≡ false → flag ≡ 1
zero_or_one zero h e = absurd cc
zero_or_one (suc zero) h e = refl
zero_or_one (suc (suc n)) h e = absurd (omega (arith, h.1))

option_again : {A : Type 0} {r : Reader A} {spell : A → List ℕ} {F : A → Type 0} → Field r spell F → (o : Option A) (rest : List ℕ) → IfSome o F → option_at r (optional spell o ++ rest) ≡ Ok (o, rest)
unfolding option_at
option_again {A} {r} {spell} {F} field None rest h = again-bind (between-field 0 1 (lit≤ tt)) (λ flag. cond (eqb flag 0) (done None) (bind r (λ x. done (Some x)))) 0 [] rest _ (lit≤ tt, lit≤ tt) (again-done None rest)
option_again {A} {r} {spell} {F} field (Some x) rest h =
    again-bind (between-field 0 1 (lit≤ tt)) (λ flag. cond (eqb flag 0) (done None) (bind r (λ x. done (Some x)))) 1 (spell x) rest _ (lit≤ tt, lit≤ tt)
    (ap (λ (t : List ℕ). bind r (λ x. done (Some x)) (t ++ rest)) (sym (append-nil (spell x))) ∙ again-bind field (λ x. done (Some x)) x [] rest _ h (again-done (Some x) rest))

pub option-field : {A : Type 0} {r : Reader A} {spell : A → List ℕ} {F : A → Type 0} → Field r spell F → Field (option_at r) (optional spell) (λ o. IfSome o F)
unfolding option_at
option-field {A} {r} {spell} {F} field =
    field-of (option_at r) (optional spell) (λ o. IfSome o F)
    (row-bind (λ t. t) (between-field 0 1 (lit≤ tt)) (λ flag h. row-if (λ t. flag ∷ t) (eqb flag 0)
    (λ e. row-done (λ t. flag ∷ t) None (ap one (eqb-true flag 0 e)) tt)
    (λ e. row-bind (λ t. flag ∷ t) field (λ x fits. row-done (λ t. flag ∷ (spell x ++ t)) (Some x) (ap (λ (v : ℕ). v ∷ (spell x ++ [])) (zero_or_one flag h e) ∙ ap (λ (t : List ℕ). 1 ∷ t) (append-nil (spell x))) fits))))
    (option_again field)

-- a last field
pub row-last : {B : Type 0} {r : Reader B} {piece : B → List ℕ} {F : B → Type 0} {spell : B → List ℕ} {Fits : B → Type 0} (wrap : List ℕ → List ℕ)
    → Field r piece F → ((x : B) → F x → (wrap (piece x) ≡ spell x) × Fits x) → Row spell Fits wrap r
row-last {B} {r} {piece} {F} {spell} {Fits} wrap field same = record {
  good = field.good;
  takes = λ bytes x rest e.
      let t = field.takes bytes x rest e in
      let s = same x t.0 in
      record { text = piece x; parts = t.1; spelled = s.0; fits = s.1 };
}
