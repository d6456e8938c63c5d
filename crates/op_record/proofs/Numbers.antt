-- Numbers of some bytes, the highest first, up to a limit.
use Rattle.std.proofs.Common.{◌≡◌, ℕ, zero, suc, ◌+◌, ◌-◌, ◌*◌, ◌/◌, ◌%◌, ◌^◌, ◌<◌, ◌≤◌, Bool, true, false, cond, ltb, leb, lit<, List, [], ◌∷◌, ◌++◌, length, Result, Ok, Err, refl, sym, ap, subst, ◌∙◌, arith, ◌⊎◌, inl, inr}
use Rattle.std.specs.Prelude.{◌&&◌}
use Rattle.std.specs.Int.{bytes_high_first, byte_at}
use Rattle.std.proofs.Math.Nat.{div-one, div-mul-le_self, div-div-eq-div-mul, div-eq_of_lt, one-le-pow, pow-suc}
use Rattle.std.proofs.lemmas.Bool.{ltb-true, lt-ltb, leb-true, le-leb}
use Rattle.std.proofs.lemmas.Nat.{div-mul-add, mod-mul-add, div-add-mod', le-div, mod_below}
use Rattle.op_record.specs.declared.fault.Fault.{Fault}
use Rattle.op_record.specs.declared.fault.Fault.TheVariants.{Short, Bad}
use Rattle.op_record.specs.Readers.{Reader, onward, bind, done, byte, may_go_on, digits_at}
use Rattle.op_record.proofs.Good.{IsGood, good-bind, good-byte, good-done, bound, chosen, ok_parts}

pub both : (a b : Bool) → (a && b) ≡ true → (a ≡ true) × (b ≡ true)
both true b e = (refl, e)
both false b e = absurd cc

pub and_true : (a b : Bool) → a ≡ true → b ≡ true → (a && b) ≡ true
and_true a b p q = rw (p, q) refl

-- a byte that was read passed the test
pub byte_takes : (test : ℕ → Bool) (bytes : List ℕ) (x : ℕ) (rest : List ℕ) → byte test bytes ≡ Ok (x, rest) → (test x ≡ true) × (bytes ≡ x ∷ rest)
unfolding byte
byte_takes test [] x rest e = absurd cc
byte_takes test (b ∷ bytes) x rest e =
    elim (chosen (test b) (Ok (b, bytes)) (Err (Bad (length (b ∷ bytes)))) (Ok (x, rest)) e) [
      | inl p ↦
          let q = ok_parts b x bytes rest p.1 in
          (subst (λ (v : ℕ). test v ≡ true) q.0 p.0, ap (λ (t : List ℕ). b ∷ t) q.1 ∙ ap (λ (v : ℕ). v ∷ rest) q.0)
      | inr p ↦ absurd cc
    ]

pub byte_again : (test : ℕ → Bool) (x : ℕ) (rest : List ℕ) → test x ≡ true → byte test (x ∷ rest) ≡ Ok (x, rest)
unfolding byte
byte_again test x rest passes = rw passes refl

-- ---- powers

pub pow_positive : (k : ℕ) → 0 < 256 ^ k
pow_positive k = one-le-pow k 256 (lit< tt)

pub next_power : (m k : ℕ) → m / 256 ^ suc k ≡ m / 256 ^ k / 256
next_power m k = ap (λ (w : ℕ). m / w) (pow-suc 256 k) ∙ sym (div-div-eq-div-mul m (256 ^ k) 256)

pub div_monotone : (m n w : ℕ) → 0 < w → m ≤ n → m / w ≤ n / w
div_monotone m n w pos le = le-div (m / w) n w pos (omega (arith, div-mul-le_self m w))

pub byte_at_is : (k m : ℕ) → byte_at k m ≡ m / 256 ^ k % 256
byte_at_is zero m = ap (λ (n : ℕ). n % 256) (sym (div-one m))
byte_at_is (suc k) m = refl

-- ---- one digit after another

pub goes_on_is : (limit left n b : ℕ) → may_go_on limit left n b ≡ true → (b < 256) × (n * 256 + b ≤ limit / 256 ^ left)
goes_on_is limit left n b e =
    let p = both (ltb b 256) (leb (n * 256 + b) (limit / 256 ^ left)) e in
    (ltb-true _ _ p.0, leb-true _ _ p.1)

pub goes_on : (limit left n b : ℕ) → b < 256 → n * 256 + b ≤ limit / 256 ^ left → may_go_on limit left n b ≡ true
goes_on limit left n b low le = and_true (ltb b 256) (leb (n * 256 + b) (limit / 256 ^ left)) (lt-ltb _ _ low) (le-leb _ _ le)

pub digits_good : (limit left n : ℕ) → n ≤ limit / 256 ^ left → IsGood (digits_at limit left n)
unfolding digits_at
digits_good limit zero n le = good-done n
digits_good limit (suc left) n le =
    let lower : n ≤ limit / 256 ^ left / 256 = subst (λ (w : ℕ). n ≤ w) (next_power limit left) le in
    let with_zero : n * 256 + 0 ≤ limit / 256 ^ left = omega (arith, div-mul-le_self (limit / 256 ^ left) 256) in
    good-bind (byte (may_go_on limit left n)) (λ b. digits_at limit left (n * 256 + b))
    (good-byte (may_go_on limit left n) 0 (goes_on limit left n 0 (lit< tt) with_zero))
    (λ bytes b rest e. digits_good limit left (n * 256 + b) ((goes_on_is limit left n b ((byte_takes (may_go_on limit left n) bytes b rest e).0)).1))

pub record AreDigits (limit left n : ℕ) (bytes : List ℕ) (m : ℕ) (rest : List ℕ) : Type 0 where
  pub begins : m / 256 ^ left ≡ n
  pub low : m ≤ limit
  pub parts : bytes ≡ bytes_high_first left m ++ rest

pub digits_takes : (limit left n : ℕ) (bytes : List ℕ) (m : ℕ) (rest : List ℕ) → n ≤ limit / 256 ^ left → digits_at limit left n bytes ≡ Ok (m, rest) → AreDigits limit left n bytes m rest
unfolding digits_at done bind
digits_takes limit zero n bytes m rest le e =
    let q = ok_parts n m bytes rest e in
    record { begins = div-one m ∙ sym q.0; low = subst (λ (v : ℕ). v ≤ limit) q.0 (subst (λ (w : ℕ). n ≤ w) (div-one limit) le); parts = q.1 }
digits_takes limit (suc left) n bytes m rest le e =
    let b = bound (byte (may_go_on limit left n) bytes) (λ b. digits_at limit left (n * 256 + b)) (m, rest) e in
    let t = byte_takes (may_go_on limit left n) bytes b.value b.rest b.is in
    let g = goes_on_is limit left n b.value t.0 in
    let more = digits_takes limit left (n * 256 + b.value) b.rest m rest g.1 b.goes in
    let head : byte_at left m ≡ b.value = byte_at_is left m ∙ ap (λ (v : ℕ). v % 256) more.begins ∙ mod-mul-add n 256 b.value g.0 in
    record {
      begins = next_power m left ∙ ap (λ (v : ℕ). v / 256) more.begins ∙ div-mul-add n 256 b.value g.0;
      low = more.low;
      parts = t.1 ∙ ap (λ (t : List ℕ). b.value ∷ t) more.parts ∙ ap (λ (v : ℕ). v ∷ (bytes_high_first left m ++ rest)) (sym head);
    }

pub digits_again : (limit left m : ℕ) (rest : List ℕ) → m ≤ limit → digits_at limit left (m / 256 ^ left) (bytes_high_first left m ++ rest) ≡ Ok (m, rest)
unfolding digits_at done bind
digits_again limit zero m rest le = ap (λ (v : ℕ). Ok (v, rest)) (div-one m)
digits_again limit (suc left) m rest le =
    let n = m / 256 ^ suc left in
    let b = byte_at left m in
    let is : b ≡ m / 256 ^ left % 256 = byte_at_is left m in
    let whole : n * 256 + b ≡ m / 256 ^ left = ap (λ (v : ℕ). v * 256 + b) (next_power m left) ∙ ap (λ (v : ℕ). m / 256 ^ left / 256 * 256 + v) is ∙ div-add-mod' (m / 256 ^ left) 256 in
    let low : b < 256 = subst (λ (v : ℕ). v < 256) (sym is) (mod_below (m / 256 ^ left) 256 (lit< tt)) in
    let fits : n * 256 + b ≤ limit / 256 ^ left = subst (λ (v : ℕ). v ≤ limit / 256 ^ left) (sym whole) (div_monotone m limit (256 ^ left) (pow_positive left) le) in
    let first : byte (may_go_on limit left n) (b ∷ (bytes_high_first left m ++ rest)) ≡ Ok (b, bytes_high_first left m ++ rest) =
    byte_again (may_go_on limit left n) b (bytes_high_first left m ++ rest) (goes_on limit left n b low fits) in
    ap (λ (read : Result (ℕ × List ℕ) Fault). onward read (λ b. digits_at limit left (n * 256 + b))) first
    ∙ ap (λ (v : ℕ). digits_at limit left v (bytes_high_first left m ++ rest)) whole
    ∙ digits_again limit left m rest le
