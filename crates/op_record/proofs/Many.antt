-- Values that stand one after another, each read by one reader.
use Rattle.std.proofs.Common.{◌≡◌, ℕ, zero, suc, ◌+◌, ◌-◌, ◌<◌, ◌≤◌, List, [], ◌∷◌, ◌++◌, length, take, Result, Ok, Err, refl, sym, ap, subst, ◌∙◌, append_assoc, arith}
use Rattle.std.specs.List.{flat_map, AllByRecursion}
use Rattle.std.proofs.lemmas.List.{append-nil, length-append, take_at}
use Rattle.std.proofs.lemmas.Grind.{flat_map-append}
use Rattle.op_record.specs.declared.fault.Fault.{Fault}
use Rattle.op_record.specs.declared.fault.Fault.TheVariants.{Short, Bad}
use Rattle.op_record.specs.Readers.{Reader}
use Rattle.op_record.proofs.FieldLaws.{Field}

pub all_append : {X : Type 0} (P : X → Type 0) (xs ys : List X) → AllByRecursion P xs → AllByRecursion P ys → AllByRecursion P (xs ++ ys)
all_append P [] ys these those = those
all_append P (x ∷ xs) ys these those = (these.0, all_append P xs ys these.1 those)

pub flat_map_more : {X : Type 0} (f : X → List ℕ) (xs : List X) (x : X) → flat_map f (xs ++ x ∷ []) ≡ flat_map f xs ++ f x
flat_map_more f xs x = flat_map-append f xs (x ∷ []) ∙ ap (λ (t : List ℕ). flat_map f xs ++ t) (append-nil (f x))

-- ---- one reader

both_read : {A X : Type 0} (read : Result (A × List ℕ) Fault) (x : A × List ℕ) (d : Fault) → read ≡ Ok x → read ≡ Err d → X
both_read read x d p q = absurd cc

same_read : {A : Type 0} (read : Result (A × List ℕ) Fault) (a b : A) (x y : List ℕ) → read ≡ Ok (a, x) → read ≡ Ok (b, y) → (a ≡ b) × (x ≡ y)
same_read {A} read a b x y p q =
    let same : (a, x) ≡ (b, y) = cc in
    (ap (λ (p : A × List ℕ). p.0) same, ap (λ (p : A × List ℕ). p.1) same)

pub one_way : {A : Type 0} {r : Reader A} {spell : A → List ℕ} {Fits : A → Type 0} → Field r spell Fits → (a b : A) (x y : List ℕ) → Fits a → Fits b → spell a ++ x ≡ spell b ++ y → (a ≡ b) × (x ≡ y)
one_way {A} {r} {spell} field a b x y p q e = same_read (r (spell a ++ x)) a b x y (field.again a x p) (ap r e ∙ field.again b y q)

-- what is read is not refused
pub not_refused : {A X : Type 0} {r : Reader A} {spell : A → List ℕ} {Fits : A → Type 0} → Field r spell Fits → (x : A) (rest bytes : List ℕ) (d : Fault) → Fits x → bytes ≡ spell x ++ rest → r bytes ≡ Err d → X
not_refused {A} {X} {r} field x rest bytes d fits e fails = both_read (r bytes) (x, rest) d (ap r e ∙ field.again x rest fits) fails

-- ---- many values

pub record Follows {A : Type 0} (spell : A → List ℕ) (Fits : A → Type 0) (xs ys : List A) (rest : List ℕ) : Type 0 where
  pub more : List A
  pub fit : AllByRecursion Fits more
  pub rest_is : rest ≡ flat_map spell more
  pub all : ys ≡ xs ++ more

-- values that begin like others are the first of them
pub follows : {A : Type 0} {r : Reader A} {spell : A → List ℕ} {Fits : A → Type 0} → Field r spell Fits → r [] ≡ Err Short → (xs ys : List A) (rest : List ℕ)
    → AllByRecursion Fits xs → AllByRecursion Fits ys → flat_map spell xs ++ rest ≡ flat_map spell ys → Follows spell Fits xs ys rest
follows field none [] ys rest hx hy e = record { more = ys; fit = hy; rest_is = e; all = refl }
follows {A} {r} {spell} field none (x ∷ xs) [] rest hx hy e =
    not_refused field x (flat_map spell xs ++ rest) [] Short hx.0 (sym e ∙ append_assoc (spell x) (flat_map spell xs) rest) none
follows {A} {r} {spell} field none (x ∷ xs) (y ∷ ys) rest hx hy e =
    let both = one_way field x y (flat_map spell xs ++ rest) (flat_map spell ys) hx.0 hy.0 (sym (append_assoc (spell x) (flat_map spell xs) rest) ∙ e) in
    let f = follows field none xs ys rest hx.1 hy.1 both.1 in
    record { more = f.more; fit = f.fit; rest_is = f.rest_is; all = ap (λ (l : List A). y ∷ l) f.all ∙ ap (λ (v : A). v ∷ (xs ++ f.more)) (sym both.0) }

pub same_values : {A : Type 0} {r : Reader A} {spell : A → List ℕ} {Fits : A → Type 0} → Field r spell Fits → r [] ≡ Err Short → (xs ys : List A)
    → AllByRecursion Fits xs → AllByRecursion Fits ys → flat_map spell xs ≡ flat_map spell ys → xs ≡ ys
same_values {A} {r} {spell} {Fits} field none xs ys hx hy e =
    let f = follows field none xs ys [] hx hy (append-nil (flat_map spell xs) ∙ e) in
    sym (f.all ∙ ap (λ (l : List A). xs ++ l) (nothing f.more f.fit f.rest_is) ∙ append-nil xs)
  where
    nothing : (more : List A) → AllByRecursion Fits more → [] ≡ flat_map spell more → more ≡ []
    nothing [] fit is = refl
    nothing (x ∷ more) fit is = not_refused field x (flat_map spell more) [] Short fit.0 is none

-- ---- where reading stops

-- the bytes begin with values, and behind them none is read
pub record Stopped {A : Type 0} (r : Reader A) (spell : A → List ℕ) (Fits : A → Type 0) (bytes : List ℕ) (fault : Fault) : Type 0 where
  pub values : List A
  pub rest : List ℕ
  pub have : AllByRecursion Fits values
  pub split : bytes ≡ flat_map spell values ++ rest
  pub left : 0 < length values → 0 < length rest
  pub fails : r rest ≡ Err fault

-- with more bytes these are one or more values
pub record Begins {A : Type 0} (spell : A → List ℕ) (Fits : A → Type 0) (bytes : List ℕ) : Type 0 where
  pub values : List A
  pub some : 0 < length values
  pub have : AllByRecursion Fits values
  pub more : List ℕ
  pub whole : bytes ++ more ≡ flat_map spell values

begins_with : {A : Type 0} {r : Reader A} {spell : A → List ℕ} {Fits : A → Type 0} → Field r spell Fits → (values : List A) (front : List ℕ) → AllByRecursion Fits values → r front ≡ Err Short
    → Begins spell Fits (flat_map spell values ++ front)
begins_with {A} {r} {spell} {Fits} field values front have short =
    let x = field.good.short front short in
    let t = field.takes (front ++ x.more) x.value [] x.reads in
    record {
      values = values ++ x.value ∷ [];
      some = omega (arith, length-append values (x.value ∷ []));
      have = all_append Fits values (x.value ∷ []) have (t.0, tt);
      more = x.more;
      whole = append_assoc (flat_map spell values) front x.more ∙ ap (λ (u : List ℕ). flat_map spell values ++ u) (t.1 ∙ append-nil (spell x.value)) ∙ sym (flat_map_more spell values x.value);
    }

pub short_begins : {A : Type 0} {r : Reader A} {spell : A → List ℕ} {Fits : A → Type 0} → Field r spell Fits → (bytes : List ℕ) → Stopped r spell Fits bytes Short → Begins spell Fits bytes
short_begins {A} {r} {spell} {Fits} field bytes s = subst (λ (t : List ℕ). Begins spell Fits t) (sym s.split) (begins_with field s.values s.rest s.have s.fails)

some_value : {A : Type 0} (spell : A → List ℕ) (values more : List A) (rest : List ℕ) (ys : List A) → 0 < length ys → ys ≡ values ++ more → (0 < length values → 0 < length rest) → rest ≡ flat_map spell more → 0 < length more
some_value spell [] more rest ys some all left is = omega (arith, some, ap length all)
some_value spell (v ∷ values) [] rest ys some all left is = omega (arith, left (omega arith), ap length is)
some_value spell (v ∷ values) (m ∷ more) rest ys some all left is = omega arith

refused_first : {A X : Type 0} {r : Reader A} {spell : A → List ℕ} {Fits : A → Type 0} → Field r spell Fits → (more : List A) (rest : List ℕ) (d : Fault) → 0 < length more → AllByRecursion Fits more → rest ≡ flat_map spell more → r rest ≡ Err d → X
refused_first field [] rest d some fit is fails = absurd (omega (arith, some))
refused_first {A} {X} {r} {spell} field (m ∷ more) rest d some fit is fails = not_refused field m (flat_map spell more) rest d fit.0 is fails

-- bytes behind which reading stops are no values
pub stops_whole : {A X : Type 0} {r : Reader A} {spell : A → List ℕ} {Fits : A → Type 0} → Field r spell Fits → r [] ≡ Err Short → (bytes : List ℕ) (fault : Fault) → Stopped r spell Fits bytes fault
    → (ys : List A) → 0 < length ys → AllByRecursion Fits ys → bytes ≡ flat_map spell ys → X
stops_whole {A} {X} {r} {spell} field none bytes fault s ys some fit is =
    let f = follows field none s.values ys s.rest s.have fit (sym s.split ∙ is) in
    refused_first field f.more s.rest fault (some_value spell s.values f.more s.rest ys some f.all s.left f.rest_is) f.fit f.rest_is s.fails

-- the place of the byte that stops it
pub record IsStop {A : Type 0} (spell : A → List ℕ) (Fits : A → Type 0) (bytes : List ℕ) (left at : ℕ) : Type 0 where
  pub sum : at + left ≡ length bytes
  pub some : 0 < left
  pub before : Begins spell Fits (take at bytes)
  pub never : (ys : List A) (more : List ℕ) → AllByRecursion Fits ys → take (at + 1) bytes ++ more ≡ flat_map spell ys → ⊥

pub take_more : (front : List ℕ) (b : ℕ) (rest : List ℕ) → take (length front + 1) (front ++ b ∷ rest) ≡ front ++ b ∷ []
take_more front b rest =
    ap (λ (t : List ℕ). take (length front + 1) t) (sym (append_assoc front (b ∷ []) rest))
    ∙ take_at (front ++ b ∷ []) rest (length front + 1) (length-append front (b ∷ []))

behind : {A X : Type 0} {r : Reader A} {spell : A → List ℕ} {Fits : A → Type 0} → Field r spell Fits → (zs : List A) (front : List ℕ) (bad : ℕ) (more : List ℕ) (d : Fault)
    → AllByRecursion Fits zs → front ++ bad ∷ more ≡ flat_map spell zs → r (front ++ bad ∷ more) ≡ Err d → X
behind field [] front bad more d fit is fails = absurd (omega (arith, ap length is, length-append front (bad ∷ more)))
behind {A} {X} {r} {spell} field (z ∷ zs) front bad more d fit is fails = not_refused field z (flat_map spell zs) (front ++ bad ∷ more) d fit.0 is fails

pub bad_stops : {A : Type 0} {r : Reader A} {spell : A → List ℕ} {Fits : A → Type 0} → Field r spell Fits → r [] ≡ Err Short → (bytes : List ℕ) (left : ℕ) → Stopped r spell Fits bytes (Bad left)
    → (at : ℕ) × IsStop spell Fits bytes left at
bad_stops {A} {r} {spell} {Fits} field none bytes left s =
    let b = field.good.bad s.rest left s.fails in
    let front = flat_map spell s.values ++ b.front in
    let parts : bytes ≡ front ++ b.bad ∷ b.rest = s.split ∙ ap (λ (t : List ℕ). flat_map spell s.values ++ t) b.parts ∙ sym (append_assoc (flat_map spell s.values) b.front (b.bad ∷ b.rest)) in
    let len : length bytes ≡ length front + suc (length b.rest) = ap length parts ∙ length-append front (b.bad ∷ b.rest) in
    let place : left ≡ suc (length b.rest) = b.place in
    let first : take (length front) bytes ≡ front = ap (λ (t : List ℕ). take (length front) t) parts ∙ take_at front (b.bad ∷ b.rest) (length front) refl in
    let with : take (length front + 1) bytes ≡ front ++ b.bad ∷ [] = ap (λ (t : List ℕ). take (length front + 1) t) parts ∙ take_more front b.bad b.rest in (
      length front,
      record {
        sum = omega arith;
        some = omega arith;
        before = subst (λ (t : List ℕ). Begins spell Fits t) (sym first) (begins_with field s.values b.front s.have b.before);
        never = λ ys more fit e.
            let whole : flat_map spell s.values ++ (b.front ++ b.bad ∷ more) ≡ flat_map spell ys =
            sym (append_assoc (flat_map spell s.values) b.front (b.bad ∷ more)) ∙ sym (append_assoc front (b.bad ∷ []) more) ∙ ap (λ (t : List ℕ). t ++ more) (sym with) ∙ e in
            let f = follows field none s.values ys (b.front ++ b.bad ∷ more) s.have fit whole in
            behind field f.more b.front b.bad more (Bad (length (b.bad ∷ more))) f.fit f.rest_is (b.after more);
      },
    )
