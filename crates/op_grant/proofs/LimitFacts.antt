-- Limits and their intervals.
use Rattle.std.proofs.Common.{◌≡◌, ℕ, Bool, true, false, cond, List, [], ◌∷◌, refl, sym, ap, subst, ◌∙◌, IsTrue}
use Rattle.std.specs.Prelude.{Some, None, ◌&&◌, ◌==◌}
use Rattle.std.specs.List.{find, list_all}
use Rattle.std.specs.Option.{option_map_or, option_and_then}
use Rattle.std.specs.declared.option.Option.{Option}
use Rattle.op_time.specs.Starts.{place_of}
use Rattle.op_time.specs.Interval.{Interval}
use Rattle.op_time.specs.declared.Place.{Place}
use Rattle.op_model.specs.Grants.{limits_of, repeats, interval_at, inside}
use Rattle.op_model.specs.declared.grant.Item.{Item}
use Rattle.op_model.specs.declared.grant.Limits.{Limits}
use Rattle.op_grant.specs.Limits.{is_readable, has_readable_limits, are_readable}

both : (p q : Bool) → (p && q) ≡ true → (p ≡ true) × (q ≡ true)
both true q h = (refl, h)
both false q h = absurd (let e : false ≡ true = h in cc)

found_step : {X : Type 0} (P : X → Type 0) (b : Bool) (y x : X) (o : Option X) → P y → (o ≡ Some x → P x) → cond b (Some y) o ≡ Some x → P x
found_step P true y x o here rest h = let same : y ≡ x = cc in subst P same here
found_step P false y x o here rest h = rest h

-- what is found in a list passes what all of it passes
pub found_passes : {X : Type 0} (p q : X → Bool) (xs : List X) (x : X) → list_all p xs ≡ true → find q xs ≡ Some x → p x ≡ true
found_passes p q [] x all h = absurd (let e : None ≡ Some x = h in cc)
found_passes p q (y ∷ xs) x all h =
    let parts = both (p y) (list_all p xs) all in
    found_step (λ z. p z ≡ true) (q y) y x (find q xs) parts.0 (found_passes p q xs x parts.1) h

limits_readable : (limits : Option Limits) (l : Limits) (text : List ℕ) → option_map_or (λ m. option_map_or is_readable m.interval true) limits true ≡ true → limits ≡ Some l → l.interval ≡ Some text → is_readable text ≡ true
limits_readable None l text h e f = absurd (let g : None ≡ Some l = e in cc)
limits_readable (Some m) l text h e f =
    let same : m ≡ l = cc in
    let at : m.interval ≡ Some text = ap (λ z. z.interval) same ∙ f in
    subst (λ o. option_map_or is_readable o true ≡ true) at h

item_readable : (item : Option Item) (l : Limits) (text : List ℕ) → ((x : Item) → item ≡ Some x → has_readable_limits x ≡ true) → option_and_then (λ i. i.limits) item ≡ Some l → l.interval ≡ Some text → is_readable text ≡ true
item_readable None l text all e f = absurd (let g : None ≡ Some l = e in cc)
item_readable (Some x) l text all e f = limits_readable x.limits l text (all x refl) e f

-- the interval of readable items can be read
pub interval_readable : (items : List Item) (l : Limits) (text : List ℕ) → IsTrue (are_readable items) → Some l ≡ limits_of items → Some text ≡ l.interval → IsTrue (is_readable text)
interval_readable items l text all e f =
    item_readable (find (λ i. i.kind == 3) items) l text (λ x h. found_passes has_readable_limits (λ i. i.kind == 3) items x all h) (sym e) (sym f)

pub interval_there : (items : List Item) (t : ℕ) (interval : Interval) (place : Place) → Some interval ≡ repeats items → place ≡ place_of interval t → inside place ≡ interval_at items t
interval_there items t interval place e f =
    ap inside f ∙ ap (λ o. option_map_or (λ i. inside (place_of i t)) o (Some 0)) e
