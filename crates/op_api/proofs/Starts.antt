-- The ways in which an interaction may start.
use Rattle.std.proofs.Common.{◌≡◌, ◌<◌, ◌+◌, ℕ, suc, Bool, true, false, List, ◌∷◌, length, get_or, drop, Some, None, refl, sym, ap, ◌∙◌, drop-cons, add-one}
use Rattle.std.specs.Prelude.{◌||◌, option_map}
use Rattle.std.specs.List.{list_any}
use Rattle.std.specs.declared.option.Option.{Option}
use Rattle.serde_json.specs.Find.{as_str}
use Rattle.serde_json.specs.View.{view, items_view}
use Rattle.serde_json.specs.declared.value.Value.{Value}
use Rattle.op_model.specs.Json.{with_each, each_of, items_list}

start_next : (test : List ℕ → Bool) (r : Bool) (way : List ℕ) (ways : Option (List (List ℕ))) → option_map (λ ws. (r || test way) || list_any test ws) ways ≡ option_map (λ ws. r || list_any test ws) (with_each (Some way) ways)
start_next test r way None = refl
start_next test true way (Some ws) = refl
start_next test false way (Some ws) = refl

pub start_step : (test : List ℕ → Bool) (r : Bool) (xs : List Value) (i : ℕ) (x : Value) (way : List ℕ) (whole : Option Bool) → i < length xs → x ≡ get_or xs i x → Some way ≡ as_str (view x)
    → option_map (λ ws. r || list_any test ws) (each_of as_str (items_list (items_view (drop i xs)))) ≡ whole
    → option_map (λ ws. (r || test way) || list_any test ws) (each_of as_str (items_list (items_view (drop (i + 1) xs)))) ≡ whole
start_step test r xs i x way whole l is named invariant =
    let cut : drop i xs ≡ x ∷ drop (i + 1) xs = rw add-one (drop-cons xs i x l ∙ ap (λ (y : Value). y ∷ drop (suc i) xs) (sym is)) in
    let before = rw (cut, ← named) at invariant in
    start_next test r way (each_of as_str (items_list (items_view (drop (i + 1) xs)))) ∙ before
