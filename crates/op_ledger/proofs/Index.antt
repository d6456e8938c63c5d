-- Balances with an index, behind a change.
use Rattle.std.proofs.Common.{◌≡◌, ℕ, zero, suc, ◌<◌, Bool, true, false, cond, List, [], ◌∷◌, ◌++◌, length, map, refl, sym, ap, subst, ◌∙◌, arith, length-append}
use Rattle.std.specs.Prelude.{Some, None, not, slice_get, slice_set}
use Rattle.std.specs.Option.{is_some, option_map, option_or}
use Rattle.std.specs.declared.option.Option.{Option}
use Rattle.std.proofs.lemmas.List.Folds.{find-append}
use Rattle.std.proofs.lemmas.List.{length-map}
use Rattle.std.proofs.lemmas.Option.{slice_get-map}
use Rattle.op_model.specs.Balances.{is_same_account}
use Rattle.op_model.specs.declared.act.Account.{Account}
use Rattle.op_ledger.specs.declared.values.Balance.{Balance}
use Rattle.op_ledger.specs.declared.places.Places.{Places}
use Rattle.op_ledger.specs.Balances.{find_balance}
use Rattle.op_ledger.specs.Indexed.{place_at, PlacesAlso, AreDistinct, IsPlaceOf, IsIndexed, put_at, put}
use Rattle.op_ledger.proofs.Replaced.{OnlyOne, set_is_replaced, find_passes, find_only, find-map}
use Rattle.op_ledger.proofs.AccountTests.{account_is, is_account, is_same_account-sym}

pub some_is : {X : Type 0} (x y : X) → Some x ≡ Some y → x ≡ y
some_is x y h = cc

-- an account stands once
pub only_account : (a : Account) (xs : List Balance) → AreDistinct xs → OnlyOne (λ b. is_same_account b.account a) xs
only_account a [] distinct = tt
only_account a (x ∷ xs) distinct =
    (λ same. subst (λ c. find_balance xs c ≡ None) (account_is x.account a same) distinct.0, only_account a xs distinct.1)

pub found_account : (xs : List Balance) (a : Account) (x : Balance) → find_balance xs a ≡ Some x → x.account ≡ a
found_account xs a x h = account_is x.account a (find_passes (λ b. is_same_account b.account a) xs x h)

-- a balance of the list is the one of its account
pub found_itself : (xs : List Balance) (k : ℕ) (b : Balance) → AreDistinct xs → slice_get xs k ≡ Some b → find_balance xs b.account ≡ Some b
found_itself xs k b distinct h =
    find_only (λ c. is_same_account c.account b.account) xs k b (only_account b.account xs distinct) h (is_account b.account)

-- ---- a change that leaves the accounts

pub find_balance-map : (g : Balance → Balance) → ((b : Balance) → (g b).account ≡ b.account) → (xs : List Balance) (a : Account) → find_balance (map g xs) a ≡ option_map g (find_balance xs a)
find_balance-map g keeps xs a =
    find-map (λ b. is_same_account b.account a) g (λ b. ap (λ c. is_same_account c a) (keeps b)) xs

pub distinct-map : (g : Balance → Balance) → ((b : Balance) → (g b).account ≡ b.account) → (xs : List Balance) → AreDistinct xs → AreDistinct (map g xs)
distinct-map g keeps [] distinct = tt
distinct-map g keeps (x ∷ xs) distinct =
    (subst (λ c. find_balance (map g xs) c ≡ None) (sym (keeps x)) (find_balance-map g keeps xs x.account ∙ ap (option_map g) distinct.0), distinct-map g keeps xs distinct.1)

placed-map : (g : Balance → Balance) → ((b : Balance) → (g b).account ≡ b.account) → (xs : List Balance) (a : Account) (o : Option ℕ) → IsPlaceOf xs a o → IsPlaceOf (map g xs) a o
placed-map g keeps xs a None h = find_balance-map g keeps xs a ∙ ap (option_map g) h
placed-map g keeps xs a (Some place) h =
    (subst (λ n. place < n) (sym (length-map xs g)) h.0, slice_get-map g xs place ∙ ap (option_map g) h.1 ∙ sym (find_balance-map g keeps xs a))

pub indexed-map : (places : Places) (g : Balance → Balance) → ((b : Balance) → (g b).account ≡ b.account) → (xs : List Balance) → IsIndexed places xs → IsIndexed places (map g xs)
indexed-map places g keeps xs h =
    record {
      distinct = distinct-map g keeps xs h.distinct;
      placed = λ a. placed-map g keeps xs a (place_at places a) (h.placed a);
    }

-- ---- one balance put in place of another

put_keeps_step : (t : Bool) (y b : Balance) → is_same_account b.account y.account ≡ t → (cond t y b).account ≡ b.account
put_keeps_step true y b e = sym (account_is b.account y.account e)
put_keeps_step false y b e = refl

pub put_keeps : (y b : Balance) → (put_at y b).account ≡ b.account
put_keeps y b = put_keeps_step (is_same_account b.account y.account) y b refl

pub there_is : {X : Type 0} (o : Option X) → is_some o ≡ true → (x : X) × (o ≡ Some x)
there_is None h = absurd (let e : false ≡ true = h in cc)
there_is (Some x) h = (x, refl)

pub set_is_put : (places : Places) (xs : List Balance) (y : Balance) (place : ℕ) → IsIndexed places xs → place_at places y.account ≡ Some place → is_some (find_balance xs y.account) ≡ true → slice_set xs place y ≡ put y xs
set_is_put places xs y place h at there =
    let x = there_is (find_balance xs y.account) there in
    let placed = subst (λ o. IsPlaceOf xs y.account o) at (h.placed y.account) in
    let passes : is_same_account x.0.account y.account ≡ true = find_passes (λ b. is_same_account b.account y.account) xs x.0 x.1 in
    set_is_replaced (λ b. is_same_account b.account y.account) y xs place x.0 (only_account y.account xs h.distinct) passes (placed.1 ∙ x.1)

-- ---- one more account

fresh_step : (t s : Bool) (x : Balance) (o : Option Balance) (b : Balance) → s ≡ t → cond t (Some x) o ≡ None → cond s (Some b) None ≡ None
fresh_step true s x o b e h = absurd (let f : Some x ≡ None = h in cc)
fresh_step false s x o b e h = rw e refl

rest_none : (t : Bool) (x : Balance) (o : Option Balance) → cond t (Some x) o ≡ None → o ≡ None
rest_none true x o h = absurd (let f : Some x ≡ None = h in cc)
rest_none false x o h = h

pub distinct-append : (xs : List Balance) (b : Balance) → AreDistinct xs → find_balance xs b.account ≡ None → AreDistinct (xs ++ b ∷ [])
distinct-append [] b distinct fresh = (refl, tt)
distinct-append (x ∷ xs) b distinct fresh =
    let t = is_same_account x.account b.account in
    let apart : find_balance (b ∷ []) x.account ≡ None =
    fresh_step t (is_same_account b.account x.account) x (find_balance xs b.account) b (is_same_account-sym b.account x.account) fresh in
    let head : find_balance (xs ++ b ∷ []) x.account ≡ None =
    find-append (λ c. is_same_account c.account x.account) xs (b ∷ []) ∙ ap (λ o. option_or o (find_balance (b ∷ []) x.account)) distinct.0 ∙ apart in
    (head, distinct-append xs b distinct.1 (rest_none t x (find_balance xs b.account) fresh))

get_front : (xs ys : List Balance) (i : ℕ) → i < length xs → slice_get (xs ++ ys) i ≡ slice_get xs i
get_front [] ys i h = absurd (omega (arith, h))
get_front (x ∷ xs) ys zero h = refl
get_front (x ∷ xs) ys (suc i) h = get_front xs ys i (omega (arith, h))

get_last : (xs : List Balance) (b : Balance) → slice_get (xs ++ b ∷ []) (length xs) ≡ Some b
get_last [] b = refl
get_last (x ∷ xs) b = get_last xs b

or_none : {X : Type 0} (o : Option X) → option_or o None ≡ o
or_none None = refl
or_none (Some x) = refl

placed_step : (t : Bool) (xs : List Balance) (b : Balance) (a : Account) (o : Option ℕ) → is_same_account b.account a ≡ t → find_balance xs b.account ≡ None → IsPlaceOf xs a o → IsPlaceOf (xs ++ b ∷ []) a (cond t (Some (length xs)) o)
placed_step true xs b a o e fresh h =
    let none : find_balance xs a ≡ None = subst (λ c. find_balance xs c ≡ None) (account_is b.account a e) fresh in
    let found : find_balance (xs ++ b ∷ []) a ≡ Some b =
    find-append (λ c. is_same_account c.account a) xs (b ∷ []) ∙ ap (λ p. option_or p (find_balance (b ∷ []) a)) none ∙ rw e refl in
    (omega (arith, length-append xs (b ∷ [])), get_last xs b ∙ sym found)
placed_step false xs b a None e fresh h =
    find-append (λ c. is_same_account c.account a) xs (b ∷ []) ∙ ap (λ p. option_or p (find_balance (b ∷ []) a)) h ∙ rw e refl
placed_step false xs b a (Some place) e fresh h =
    let none : find_balance (b ∷ []) a ≡ None = rw e refl in
    let found : find_balance (xs ++ b ∷ []) a ≡ find_balance xs a =
    find-append (λ c. is_same_account c.account a) xs (b ∷ []) ∙ ap (λ p. option_or (find_balance xs a) p) none ∙ or_none (find_balance xs a) in
    (omega (arith, length-append xs (b ∷ []), h.0), get_front xs (b ∷ []) place h.0 ∙ h.1 ∙ sym found)

pub indexed-append : (old new : Places) (xs : List Balance) (b : Balance) → IsIndexed old xs → PlacesAlso old new b.account (length xs) → find_balance xs b.account ≡ None → IsIndexed new (xs ++ b ∷ [])
indexed-append old new xs b h also fresh =
    record {
      distinct = distinct-append xs b h.distinct fresh;
      placed = λ a. subst (λ o. IsPlaceOf (xs ++ b ∷ []) a o) (sym (also a)) (placed_step (is_same_account b.account a) xs b a (place_at old a) refl fresh (h.placed a));
    }

pub nothing_is : {X : Type 0} (o : Option X) → not (is_some o) ≡ true → o ≡ None
nothing_is None h = refl
nothing_is (Some x) h = absurd (let e : false ≡ true = h in cc)
