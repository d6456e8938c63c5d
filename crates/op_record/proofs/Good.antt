-- What holds of each reader that is put together of bytes, one after another.
use Rattle.std.proofs.Common.{◌≡◌, ℕ, zero, suc, ◌+◌, ◌-◌, ◌<◌, ◌≤◌, Bool, true, false, cond, ltb, lit<, List, [], ◌∷◌, ◌++◌, length, take, drop, Option, Some, None, Result, Ok, Err, refl, sym, ap, subst, ◌∙◌, append_assoc, arith, ◌⊎◌, inl, inr}
use Rattle.std.specs.Prelude.{replicate}
use Rattle.std.proofs.lemmas.Bool.{ltb-false, ltb-true, le-ltb, lt-ltb}
use Rattle.std.proofs.lemmas.List.{append-nil, take_at, drop_at, take-append-drop, length-append, length-take, length-replicate}
use Rattle.op_record.specs.declared.fault.Fault.{Fault}
use Rattle.op_record.specs.declared.fault.Fault.TheVariants.{Short, Bad}
use Rattle.op_record.specs.Readers.{Reader, onward, bind, done, byte, bytes_at}

-- what was read is the front, and the front is read so whatever follows
pub record Whole {A : Type 0} (r : Reader A) (bytes : List ℕ) (x : A) (rest : List ℕ) : Type 0 where
  pub text : List ℕ
  pub parts : bytes ≡ text ++ rest
  pub again : (more : List ℕ) → r (text ++ more) ≡ Ok (x, more)

-- with more bytes a value is read
pub record Extends {A : Type 0} (r : Reader A) (bytes : List ℕ) : Type 0 where
  pub more : List ℕ
  pub value : A
  pub some : 0 < length more
  pub reads : r (bytes ++ more) ≡ Ok (value, [])

-- so many bytes from the end stands the first byte with which nothing can be read, whatever follows
pub record Stops {A : Type 0} (r : Reader A) (bytes : List ℕ) (left : ℕ) : Type 0 where
  pub front : List ℕ
  pub bad : ℕ
  pub rest : List ℕ
  pub parts : bytes ≡ front ++ bad ∷ rest
  pub place : left ≡ length (bad ∷ rest)
  pub before : r front ≡ Err Short
  pub after : (more : List ℕ) → r (front ++ bad ∷ more) ≡ Err (Bad (length (bad ∷ more)))

pub record IsGood {A : Type 0} (r : Reader A) : Type 0 where
  pub whole : (bytes : List ℕ) (x : A) (rest : List ℕ) → r bytes ≡ Ok (x, rest) → Whole r bytes x rest
  pub short : (bytes : List ℕ) → r bytes ≡ Err Short → Extends r bytes
  pub bad : (bytes : List ℕ) (left : ℕ) → r bytes ≡ Err (Bad left) → Stops r bytes left

-- ---- steps

pub record Bound {A B : Type 0} (read : Result (A × List ℕ) Fault) (next : A → Reader B) (y : B × List ℕ) : Type 0 where
  pub value : A
  pub rest : List ℕ
  pub is : read ≡ Ok (value, rest)
  pub goes : next value rest ≡ Ok y

pub bound : {A B : Type 0} (read : Result (A × List ℕ) Fault) (next : A → Reader B) (y : B × List ℕ) → onward read next ≡ Ok y → Bound read next y
bound (Ok x) next y e = record { value = x.0; rest = x.1; is = refl; goes = e }
bound (Err d) next y e = absurd cc

pub record Later {A B : Type 0} (read : Result (A × List ℕ) Fault) (next : A → Reader B) (d : Fault) : Type 0 where
  pub value : A
  pub rest : List ℕ
  pub is : read ≡ Ok (value, rest)
  pub fails : next value rest ≡ Err d

abbrev pub err : {X : Type 0} → Fault → Result X Fault
err d = Err d

abbrev pub ok : {X : Type 0} → X → Result X Fault
ok x = Ok x

err_is : {X : Type 0} (d d' : Fault) → err {X = X} d ≡ err d' → d ≡ d'
err_is d d' e = cc

pub failed : {A B : Type 0} (read : Result (A × List ℕ) Fault) (next : A → Reader B) (d : Fault) → onward read next ≡ Err d → (read ≡ Err d) ⊎ Later read next d
failed (Ok x) next d e = inr (record { value = x.0; rest = x.1; is = refl; fails = e })
failed {A} {B} (Err d') next d e = inl (ap (λ (f : Fault). Err f) (err_is {X = B × List ℕ} d' d e))

end_of : (text rest : List ℕ) → [] ≡ text ++ rest → rest ≡ []
end_of [] rest e = sym e
end_of (b ∷ text) rest e = absurd cc

no_end : {X : Type 0} (front : List ℕ) (b : ℕ) (rest : List ℕ) → [] ≡ front ++ b ∷ rest → X
no_end [] b rest e = absurd cc
no_end (c ∷ front) b rest e = absurd cc

-- ---- one reader after another

bind_whole : {A B : Type 0} (r : Reader A) (next : A → Reader B) → IsGood r → ((bytes : List ℕ) (x : A) (rest : List ℕ) → r bytes ≡ Ok (x, rest) → IsGood (next x))
    → (bytes : List ℕ) (y : B) (rest : List ℕ) → bind r next bytes ≡ Ok (y, rest) → Whole (bind r next) bytes y rest
unfolding bind
bind_whole r next good goes bytes y rest e =
    let b = bound (r bytes) next (y, rest) e in
    let first = good.whole bytes b.value b.rest b.is in
    let second = (goes bytes b.value b.rest b.is).whole b.rest y rest b.goes in
    record {
      text = first.text ++ second.text;
      parts = first.parts ∙ ap (λ (t : List ℕ). first.text ++ t) second.parts ∙ sym (append_assoc first.text second.text rest);
      again = λ more. rw (append_assoc first.text second.text more) (ap (λ (read : Result (_ × List ℕ) Fault). onward read next) (first.again (second.text ++ more)) ∙ second.again more);
    }

bind_ends : {A B : Type 0} (r : Reader A) (next : A → Reader B) → IsGood r → (bytes : List ℕ) (first : Extends r bytes) → IsGood (next first.value)
    → (read : Result (B × List ℕ) Fault) → next first.value [] ≡ read → Extends (bind r next) bytes
unfolding bind
bind_ends r next good bytes first goes (Ok y) e =
    let w = goes.whole [] y.0 y.1 e in
    let none : y.1 ≡ [] = end_of w.text y.1 w.parts in
    record {
      more = first.more;
      value = y.0;
      some = first.some;
      reads = ap (λ (read : Result (_ × List ℕ) Fault). onward read next) first.reads ∙ e ∙ ap (λ (t : List ℕ). Ok (y.0, t)) none;
    }
bind_ends r next good bytes first goes (Err Short) e =
    let second = goes.short [] e in
    let w = good.whole (bytes ++ first.more) first.value [] first.reads in
    let whole : bytes ++ first.more ≡ w.text = w.parts ∙ append-nil w.text in
    let one : r (bytes ++ (first.more ++ second.more)) ≡ Ok (first.value, second.more) =
    ap r (sym (append_assoc bytes first.more second.more) ∙ ap (λ (t : List ℕ). t ++ second.more) whole) ∙ w.again second.more in
    record {
      more = first.more ++ second.more;
      value = second.value;
      some = omega (arith, length-append first.more second.more, first.some);
      reads = ap (λ (read : Result (_ × List ℕ) Fault). onward read next) one ∙ second.reads;
    }
bind_ends r next good bytes first goes (Err (Bad left)) e =
    let s = goes.bad [] left e in no_end s.front s.bad s.rest s.parts

bind_short : {A B : Type 0} (r : Reader A) (next : A → Reader B) → IsGood r → ((bytes : List ℕ) (x : A) (rest : List ℕ) → r bytes ≡ Ok (x, rest) → IsGood (next x))
    → (bytes : List ℕ) → bind r next bytes ≡ Err Short → Extends (bind r next) bytes
unfolding bind
bind_short r next good goes bytes e =
    elim (failed (r bytes) next Short e) [
      | inl is ↦
          let first = good.short bytes is in
          bind_ends r next good bytes first (goes (bytes ++ first.more) first.value [] first.reads) (next first.value []) refl
      | inr later ↦
          let w = good.whole bytes later.value later.rest later.is in
          let second = (goes bytes later.value later.rest later.is).short later.rest later.fails in
          let one : r (bytes ++ second.more) ≡ Ok (later.value, later.rest ++ second.more) =
          ap r (ap (λ (t : List ℕ). t ++ second.more) w.parts ∙ append_assoc w.text later.rest second.more) ∙ w.again (later.rest ++ second.more) in
          record {
            more = second.more;
            value = second.value;
            some = second.some;
            reads = ap (λ (read : Result (_ × List ℕ) Fault). onward read next) one ∙ second.reads;
          }
    ]

bind_bad : {A B : Type 0} (r : Reader A) (next : A → Reader B) → IsGood r → ((bytes : List ℕ) (x : A) (rest : List ℕ) → r bytes ≡ Ok (x, rest) → IsGood (next x))
    → (bytes : List ℕ) (left : ℕ) → bind r next bytes ≡ Err (Bad left) → Stops (bind r next) bytes left
unfolding bind
bind_bad r next good goes bytes left e =
    elim (failed (r bytes) next (Bad left) e) [
      | inl is ↦
          let s = good.bad bytes left is in
          record {
            front = s.front;
            bad = s.bad;
            rest = s.rest;
            parts = s.parts;
            place = s.place;
            before = ap (λ (read : Result (_ × List ℕ) Fault). onward read next) s.before;
            after = λ more. ap (λ (read : Result (_ × List ℕ) Fault). onward read next) (s.after more);
          }
      | inr later ↦
          let w = good.whole bytes later.value later.rest later.is in
          let s = (goes bytes later.value later.rest later.is).bad later.rest left later.fails in
          record {
            front = w.text ++ s.front;
            bad = s.bad;
            rest = s.rest;
            parts = w.parts ∙ ap (λ (t : List ℕ). w.text ++ t) s.parts ∙ sym (append_assoc w.text s.front (s.bad ∷ s.rest));
            place = s.place;
            before = ap (λ (read : Result (_ × List ℕ) Fault). onward read next) (w.again s.front) ∙ s.before;
            after = λ more. rw (append_assoc w.text s.front (s.bad ∷ more)) (ap (λ (read : Result (_ × List ℕ) Fault). onward read next) (w.again (s.front ++ s.bad ∷ more)) ∙ s.after more);
          }
    ]

pub good-bind : {A B : Type 0} (r : Reader A) (next : A → Reader B) → IsGood r → ((bytes : List ℕ) (x : A) (rest : List ℕ) → r bytes ≡ Ok (x, rest) → IsGood (next x)) → IsGood (bind r next)
good-bind r next good goes = record { whole = bind_whole r next good goes; short = bind_short r next good goes; bad = bind_bad r next good goes }

pub ok_parts : {A : Type 0} (x y : A) (bytes rest : List ℕ) → ok {X = A × List ℕ} (x, bytes) ≡ ok (y, rest) → (x ≡ y) × (bytes ≡ rest)
ok_parts x y bytes rest e =
    let pair : (x, bytes) ≡ (y, rest) = cc in
    (ap (λ (p : _ × List ℕ). p.0) pair, ap (λ (p : _ × List ℕ). p.1) pair)

pub good-done : {A : Type 0} (x : A) → IsGood (done x)
unfolding done
good-done x = record {
  whole = λ bytes y rest e.
      let p = ok_parts x y bytes rest e in
      record { text = []; parts = p.1; again = λ more. ap (λ v. Ok (v, more)) p.0 };
  short = λ bytes e. absurd cc;
  bad = λ bytes left e. absurd cc;
}

-- ---- a byte

pub chosen : {A : Type 0} (b : Bool) (x y z : A) → cond b x y ≡ z → ((b ≡ true) × (x ≡ z)) ⊎ ((b ≡ false) × (y ≡ z))
chosen true x y z e = inl (refl, e)
chosen false x y z e = inr (refl, e)

bad_is : {X : Type 0} (m n : ℕ) → err {X = X} (Bad m) ≡ err (Bad n) → m ≡ n
bad_is m n e = cc

-- some byte passes the test
pub good-byte : (test : ℕ → Bool) (one : ℕ) → test one ≡ true → IsGood (byte test)
unfolding byte
good-byte test one passes = record {
  whole = whole;
  short = short;
  bad = bad;
} where
  whole : (bytes : List ℕ) (x : ℕ) (rest : List ℕ) → byte test bytes ≡ Ok (x, rest) → Whole (byte test) bytes x rest
  whole [] x rest e = absurd cc
  whole (b ∷ bytes) x rest e =
      elim (chosen (test b) (Ok (b, bytes)) (Err (Bad (length (b ∷ bytes)))) (Ok (x, rest)) e) [
        | inl p ↦
            let q = ok_parts b x bytes rest p.1 in
            record { text = b ∷ []; parts = ap (λ (t : List ℕ). b ∷ t) q.1; again = λ more. rw p.0 (ap (λ (v : ℕ). Ok (v, more)) q.0) }
        | inr p ↦ absurd cc
      ]

  short : (bytes : List ℕ) → byte test bytes ≡ Err Short → Extends (byte test) bytes
  short [] e = record { more = one ∷ []; value = one; some = lit< tt; reads = rw passes refl }
  short (b ∷ bytes) e =
      elim (chosen (test b) (Ok (b, bytes)) (Err (Bad (length (b ∷ bytes)))) (Err Short) e) [
        | inl p ↦ absurd cc
        | inr p ↦ absurd cc
      ]

  bad : (bytes : List ℕ) (left : ℕ) → byte test bytes ≡ Err (Bad left) → Stops (byte test) bytes left
  bad [] left e = absurd cc
  bad (b ∷ bytes) left e =
      elim (chosen (test b) (Ok (b, bytes)) (Err (Bad (length (b ∷ bytes)))) (Err (Bad left)) e) [
        | inl p ↦ absurd cc
        | inr p ↦
            record { front = []; bad = b; rest = bytes; parts = refl; place = sym (bad_is {X = ℕ × List ℕ} _ _ p.1); before = refl; after = λ more. rw p.0 refl }
      ]

-- ---- so many bytes

pub good-bytes : (n : ℕ) → IsGood (bytes_at n)
unfolding bytes_at
good-bytes n = record {
  whole = λ bytes x rest e.
      elim (chosen (ltb (length bytes) n) (Err Short) (Ok (take n bytes, drop n bytes)) (Ok (x, rest)) e) [
        | inl p ↦ absurd cc
        | inr p ↦
            let q = ok_parts (take n bytes) x (drop n bytes) rest p.1 in
            let long : n ≤ length bytes = ltb-false _ _ p.0 in
            let len : length (take n bytes) ≡ n = omega (arith, length-take n bytes) in
            record {
              text = take n bytes;
              parts = sym (take-append-drop n bytes) ∙ ap (λ (t : List ℕ). take n bytes ++ t) q.1;
              again = λ more.
                  let enough : ltb (length (take n bytes ++ more)) n ≡ false = le-ltb _ _ (omega (arith, length-append (take n bytes) more)) in
                  rw (enough, take_at (take n bytes) more n len, drop_at (take n bytes) more n len) (ap (λ (t : List ℕ). Ok (t, more)) q.0);
            }
      ];
  short = λ bytes e.
      elim (chosen (ltb (length bytes) n) (Err Short) (Ok (take n bytes, drop n bytes)) (Err Short) e) [
        | inl p ↦
            let less : length bytes < n = ltb-true _ _ p.0 in
            let fill = replicate (n - length bytes) 0 in
            let all : length (bytes ++ fill) ≡ n = omega (arith, length-append bytes fill, length-replicate {A = ℕ} (n - length bytes) 0) in
            let enough : ltb (length (bytes ++ fill)) n ≡ false = le-ltb _ _ (omega arith) in
            record {
              more = fill;
              value = take n (bytes ++ fill);
              some = omega (arith, length-replicate {A = ℕ} (n - length bytes) 0);
              reads = rw enough (ap (λ (t : List ℕ). Ok (take n (bytes ++ fill), t)) (drop_all (bytes ++ fill) n all));
            }
        | inr p ↦ absurd cc
      ];
  bad = λ bytes left e.
      elim (chosen (ltb (length bytes) n) (Err Short) (Ok (take n bytes, drop n bytes)) (Err (Bad left)) e) [
        | inl p ↦ absurd cc
        | inr p ↦ absurd cc
      ];
} where
  drop_all : (bytes : List ℕ) (n : ℕ) → length bytes ≡ n → drop n bytes ≡ []
  drop_all bytes n len = ap (λ (t : List ℕ). drop n t) (sym (append-nil bytes)) ∙ drop_at bytes [] n len

-- ---- a choice

pub good-if : {A : Type 0} (b : Bool) (r s : Reader A) → IsGood r → IsGood s → IsGood (cond b r s)
good-if true r s first second = first
good-if false r s first second = second
