-- Counters by grant and interval, behind a write.
use Rattle.std.proofs.Common.{◌≡◌, ℕ, Bool, true, false, cond, List, [], ◌∷◌, nat_cmp, refl, sym, ap, ◌∙◌, arith, tests}
use Rattle.std.specs.Prelude.{Some, None}
use Rattle.std.specs.Ordering.{ordering_then, is_eq, match_ordering}
use Rattle.std.specs.Map.{lookup, set_value}
use Rattle.std.specs.BTreeMap.{insert_entry, is_at}
use Rattle.std.specs.declared.cmp.Ordering.{Ordering}
use Rattle.std.specs.declared.cmp.Ordering.TheVariants.{Less, Equal, Greater}
use Rattle.std.specs.declared.option.Option.{Option}
use Rattle.op_grant.specs.Value.{by_grant}

abbrev pub Key : Type 0
Key = ℕ × ℕ

-- ---- keys

eq_is : (o : Ordering) → is_eq o ≡ true → o ≡ Equal
eq_is Less h = absurd (let e : false ≡ true = h in cc)
eq_is Equal h = refl
eq_is Greater h = absurd (let e : false ≡ true = h in cc)

then_equal : (a b : Ordering) → ordering_then a b ≡ Equal → (a ≡ Equal) × (b ≡ Equal)
then_equal Less b h = absurd (let e : Less ≡ Equal = h in cc)
then_equal Equal b h = (refl, h)
then_equal Greater b h = absurd (let e : Greater ≡ Equal = h in cc)

number_is : (m n : ℕ) → nat_cmp m n ≡ Equal → m ≡ n
number_is m n h = grind (arith, tests)

number_itself : (n : ℕ) → nat_cmp n n ≡ Equal
number_itself n = grind (arith, tests)

key_is : (a b : Key) → by_grant a b ≡ Equal → a ≡ b
key_is (a, b) (c, d) h =
    let parts = then_equal (nat_cmp a c) (nat_cmp b d) h in
    let first = number_is a c parts.0 in
    let second = number_is b d parts.1 in
    ap (λ x. (x, b)) first ∙ ap (λ y. (c, y)) second

key_itself : (k : Key) → by_grant k k ≡ Equal
key_itself (a, b) = ap (λ o. ordering_then o (nat_cmp b b)) (number_itself a) ∙ number_itself b

pub tested_key : (q k : Key) → is_at (by_grant q) k ≡ true → q ≡ k
tested_key q k h = key_is q k (eq_is (by_grant q k) h)

pub own_key : (q : Key) → is_at (by_grant q) q ≡ true
own_key q = ap is_eq (key_itself q)

-- ---- a write

abbrev pub Counters : Type 0
Counters = List (Key × ℕ)

same_step : (b : Bool) (v w : ℕ) (o : Option ℕ) → cond b (Some v) o ≡ cond b (Some v) (cond b (Some w) o)
same_step true v w o = refl
same_step false v w o = refl

swap_step : (b c : Bool) (v w : ℕ) (o : Option ℕ) → (b ≡ true → c ≡ true → ⊥) → cond b (Some w) (cond c (Some v) o) ≡ cond c (Some v) (cond b (Some w) o)
swap_step true true v w o apart = absurd (apart refl refl)
swap_step true false v w o apart = refl
swap_step false c v w o apart = refl

insert_step : (o : Ordering) (q k : Key) (e : Key × ℕ) (es rest : Counters) (v : ℕ) → by_grant k e.0 ≡ o
    → lookup (is_at (by_grant q)) rest ≡ cond (is_at (by_grant q) k) (Some v) (lookup (is_at (by_grant q)) es)
    → lookup (is_at (by_grant q)) (match_ordering o ((k, v) ∷ e ∷ es) ((e.0, v) ∷ es) (e ∷ rest)) ≡ cond (is_at (by_grant q) k) (Some v) (lookup (is_at (by_grant q)) (e ∷ es))
insert_step Less q k e es rest v is h = refl
insert_step Equal q k e es rest v is h =
    let same : is_at (by_grant q) e.0 ≡ is_at (by_grant q) k = ap (is_at (by_grant q)) (sym (key_is k e.0 is)) in
    let o = lookup (is_at (by_grant q)) es in
    ap (λ b. cond b (Some v) o) same ∙ same_step (is_at (by_grant q) k) v e.1 o ∙ ap (λ b. cond (is_at (by_grant q) k) (Some v) (cond b (Some e.1) o)) (sym same)
insert_step Greater q k e es rest v is h =
    let o = lookup (is_at (by_grant q)) es in
    ap (λ p. cond (is_at (by_grant q) e.0) (Some e.1) p) h
    ∙ swap_step (is_at (by_grant q) e.0) (is_at (by_grant q) k) v e.1 o
    (λ b c.
    let same : k ≡ e.0 = sym (tested_key q k c) ∙ tested_key q e.0 b in
    let equal : by_grant k e.0 ≡ Equal = ap (by_grant k) (sym same) ∙ key_itself k in
    absurd (let f : Greater ≡ Equal = sym is ∙ equal in cc))

pub lookup-insert_entry : (q k : Key) (es : Counters) (v : ℕ) → lookup (is_at (by_grant q)) (insert_entry by_grant es k v) ≡ cond (is_at (by_grant q) k) (Some v) (lookup (is_at (by_grant q)) es)
lookup-insert_entry q k [] v = refl
lookup-insert_entry q k (e ∷ es) v = insert_step (by_grant k e.0) q k e es (insert_entry by_grant es k v) v refl (lookup-insert_entry q k es v)

-- what is found at the key whose value is set
set_own : (b : Bool) (e : Key × ℕ) (o p : Option ℕ) (w : ℕ) (es rest : Counters) (test : Key → Bool) → test e.0 ≡ b → cond b (Some e.1) o ≡ p → lookup test es ≡ o
    → ((s : ℕ) → o ≡ Some s → lookup test rest ≡ Some w) → (s : ℕ) → p ≡ Some s → lookup test (cond b ((e.0, w) ∷ es) (e ∷ rest)) ≡ Some w
set_own true e o p w es rest test is h found each s g = ap (λ b. cond b (Some w) (lookup test es)) is
set_own false e o p w es rest test is h found each s g = ap (λ b. cond b (Some e.1) (lookup test rest)) is ∙ each s (h ∙ g)

pub lookup-set_value : (test : Key → Bool) (es : Counters) (w s : ℕ) → lookup test es ≡ Some s → lookup test (set_value test es w) ≡ Some w
lookup-set_value test [] w s h = absurd (let e : None ≡ Some s = h in cc)
lookup-set_value test (e ∷ es) w s h =
    set_own (test e.0) e (lookup test es) (lookup test (e ∷ es)) w es (set_value test es w) test refl refl refl (λ r g. lookup-set_value test es w r g) s h

set_other : (b c : Bool) (e : Key × ℕ) (w : ℕ) (es rest : Counters) (other : Key → Bool) → other e.0 ≡ c → (b ≡ true → c ≡ true → ⊥) → lookup other rest ≡ lookup other es
    → lookup other (cond b ((e.0, w) ∷ es) (e ∷ rest)) ≡ cond c (Some e.1) (lookup other es)
set_other true true e w es rest other is apart h = absurd (apart refl refl)
set_other true false e w es rest other is apart h = ap (λ d. cond d (Some w) (lookup other es)) is
set_other false c e w es rest other is apart h = ap (λ d. cond d (Some e.1) (lookup other rest)) is ∙ ap (cond c (Some e.1)) h

-- and at any other key
pub lookup-set_other : (test other : Key → Bool) (es : Counters) (w : ℕ) → ((k : Key) → test k ≡ true → other k ≡ true → ⊥) → lookup other (set_value test es w) ≡ lookup other es
lookup-set_other test other [] w apart = refl
lookup-set_other test other (e ∷ es) w apart =
    set_other (test e.0) (other e.0) e w es (set_value test es w) other refl (apart e.0) (lookup-set_other test other es w apart)
