-- A number that is read digit by digit: what each step leaves.
use Rattle.std.proofs.Common.{◌≡◌, ℕ, zero, suc, ◌+◌, ◌-◌, ◌*◌, ◌/◌, ◌%◌, ◌^◌, ◌<◌, ◌≤◌, Bool, true, false, cond, ltb, leb, lit<, List, [], ◌∷◌, ◌++◌, length, Result, Ok, Err, refl, sym, ap, subst, ◌∙◌, append_assoc, arith}
use Rattle.std.specs.Prelude.{◌&&◌}
use Rattle.std.specs.Int.{bytes_high_first, byte_at}
use Rattle.std.proofs.Math.Nat.{pow-le-pow_right, pow-suc, div-div-eq-div-mul, div-eq_of_lt}
use Rattle.std.proofs.lemmas.Nat.{div-mul-add, mod-mul-add}
use Rattle.std.proofs.lemmas.Bool.{lt-leb}
use Rattle.op_record.specs.declared.fault.Fault.{Fault}
use Rattle.op_record.specs.declared.fault.Fault.TheVariants.{Short, Bad}
use Rattle.op_record.specs.Fields.{number}
use Rattle.op_record.specs.Readers.{onward, bind, done, byte, may_go_on, digits_at}
use Rattle.op_record.proofs.Numbers.{byte_again, goes_on, byte_at_is, digits_again}

abbrev pub Total : Type 0
Total = Result (ℕ × List ℕ) Fault

pub digits_end : (limit width at n : ℕ) (rest : List ℕ) (total : Total) → at < width → rest ≡ [] → digits_at limit (width - at) n rest ≡ total → total ≡ Err Short
unfolding digits_at bind byte
digits_end limit width at n rest total lt none e =
    let k : width - at ≡ suc (width - 1 - at) = omega arith in
    let one : digits_at limit (width - at) n rest ≡ Err Short = rw (k, none) refl in
    sym e ∙ one

stuck : (limit left n b : ℕ) → limit / 256 ^ left < n * 256 + b → may_go_on limit left n b ≡ false
stuck limit left n b lt = elim (ltb b 256) as (λ v. (v && leb (n * 256 + b) (limit / 256 ^ left)) ≡ false) [ true ↦ lt-leb _ _ lt | false ↦ refl ]

pub digits_bad : (limit width at n b : ℕ) (rest after : List ℕ) (total : Total) → at < width → rest ≡ b ∷ after → limit / 256 ^ (width - 1 - at) < n * 256 + b → digits_at limit (width - at) n rest ≡ total → total ≡ Err (Bad (length rest))
unfolding digits_at bind byte
digits_bad limit width at n b rest after total lt parts big e =
    let k : width - at ≡ suc (width - 1 - at) = omega arith in
    let one : digits_at limit (width - at) n rest ≡ Err (Bad (length rest)) = rw (k, parts, stuck limit (width - 1 - at) n b big) refl in
    sym e ∙ one

pub digits_more : (limit width at n b : ℕ) (rest after : List ℕ) (total : Total) → at < width → rest ≡ b ∷ after → b < 256 → n * 256 + b ≤ limit / 256 ^ (width - 1 - at) → digits_at limit (width - at) n rest ≡ total
    → digits_at limit (width - (at + 1)) (n * 256 + b) after ≡ total
unfolding digits_at bind
digits_more limit width at n b rest after total lt parts low le e =
    let k : width - at ≡ suc (width - 1 - at) = omega arith in
    let j : width - (at + 1) ≡ width - 1 - at = omega arith in
    let first = byte_again (may_go_on limit (width - 1 - at) n) b after (goes_on limit (width - 1 - at) n b low le) in
    let one : digits_at limit (width - at) n rest ≡ digits_at limit (width - 1 - at) (n * 256 + b) after =
    rw (k, parts) (ap (λ (read : Total). onward read (λ b. digits_at limit (width - 1 - at) (n * 256 + b))) first) in
    rw j (sym one ∙ e)

pub digits_done : (limit width at n : ℕ) (rest : List ℕ) (total : Total) → width ≤ at → digits_at limit (width - at) n rest ≡ total → total ≡ Ok (n, rest)
unfolding digits_at done
digits_done limit width at n rest total le e =
    let k : width - at ≡ 0 = omega arith in
    let one : digits_at limit (width - at) n rest ≡ Ok (n, rest) = rw k refl in
    sym e ∙ one

-- seven digits or fewer leave room for one more in eight bytes
pub power_low : (k : ℕ) → k ≤ 7 → 256 ^ k ≤ 72057594037927936
power_low k le = pow-le-pow_right (lit< tt) le

one_more : (k : ℕ) → k + 1 ≡ suc k
one_more k = omega arith

pub digit_fits : (at n b : ℕ) → n < 256 ^ at → b < 256 → n * 256 + b < 256 ^ (at + 1)
digit_fits at n b lt low =
    let next : 256 ^ (at + 1) ≡ 256 ^ at * 256 = ap (λ (k : ℕ). 256 ^ k) (one_more at) ∙ pow-suc 256 at in
    omega arith

-- ---- a number that is read whole

byte_later : (k n b : ℕ) → b < 256 → byte_at (suc k) (n * 256 + b) ≡ byte_at k n
byte_later k n b low =
    let m = n * 256 + b in
    let order : 256 ^ suc k ≡ 256 * 256 ^ k = omega (arith, pow-suc 256 k) in
    ap (λ (w : ℕ). m / w % 256) order ∙ ap (λ (v : ℕ). v % 256) (sym (div-div-eq-div-mul m 256 (256 ^ k))) ∙ ap (λ (v : ℕ). v / 256 ^ k % 256) (div-mul-add n 256 b low) ∙ sym (byte_at_is k n)

high_more : (k n b : ℕ) → b < 256 → bytes_high_first (suc k) (n * 256 + b) ≡ bytes_high_first k n ++ b ∷ []
high_more zero n b low = ap (λ (v : ℕ). v ∷ []) (mod-mul-add n 256 b low)
high_more (suc k) n b low = ap (λ (v : ℕ). v ∷ bytes_high_first (suc k) (n * 256 + b)) (byte_later k n b low) ∙ ap (λ (l : List ℕ). byte_at k n ∷ l) (high_more k n b low)

pub whole_more : (at n b : ℕ) (bytes rest after : List ℕ) → b < 256 → bytes ≡ bytes_high_first at n ++ rest → rest ≡ b ∷ after → bytes ≡ bytes_high_first (at + 1) (n * 256 + b) ++ after
whole_more at n b bytes rest after low so_far is =
    so_far ∙ ap (λ (l : List ℕ). bytes_high_first at n ++ l) is ∙ sym (append_assoc (bytes_high_first at n) (b ∷ []) after) ∙ ap (λ (l : List ℕ). l ++ after) (sym (high_more at n b low))
    ∙ ap (λ (k : ℕ). bytes_high_first k (n * 256 + b) ++ after) (sym (one_more at))

pub whole_is : (width n : ℕ) → bytes_high_first width n ≡ number width n
unfolding number
whole_is width n = refl

pub whole_reads : (limit width n : ℕ) (bytes rest : List ℕ) → n < 256 ^ width → n ≤ limit → bytes ≡ number width n ++ rest → digits_at limit width 0 bytes ≡ Ok (n, rest)
whole_reads limit width n bytes rest few low is =
    ap (λ (l : List ℕ). digits_at limit width 0 l) (is ∙ ap (λ (l : List ℕ). l ++ rest) (sym (whole_is width n)))
    ∙ ap (λ (k : ℕ). digits_at limit width k (bytes_high_first width n ++ rest)) (sym (div-eq_of_lt few))
    ∙ digits_again limit width n rest low
