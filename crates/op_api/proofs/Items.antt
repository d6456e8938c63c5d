-- Items of a grant request.
use Rattle.std.proofs.Common.{◌≡◌, ℕ, Bool, true, false, Some, None, refl, sym}
use Rattle.std.specs.Prelude.{◌||◌, ◌==◌, codes, not, is_some, if◌then◌else◌}
use Rattle.std.specs.Option.{is_none}
use Rattle.std.specs.declared.option.Option.{Option}
use Rattle.op_names.specs.declared.AddressName.{AddressName}
use Rattle.serde_json.specs.Data.{Data}
use Rattle.op_model.specs.GrantMembers.{actions_in, identifier_in, limits_in, item_with, item_of_kind}
use Rattle.op_model.specs.Legal.{has_actions, are_limits, passes}
use Rattle.op_model.specs.declared.request.AskedLimits.{AskedLimits}
use Rattle.op_api.proofs.ValueForms.{are_limits_in}
use Rattle.op_api.proofs.Yields.{Yields, some_same, yields_optional}

absent_if : {X : Type 0} (b : Bool) (x : Option X) (o : Option (Option X)) → Some x ≡ (if b then Some None else o) → (is_none x || not b) ≡ true
absent_if true None o e = refl
absent_if true (Some x) o e = absurd cc
absent_if false None o e = refl
absent_if false (Some x) o e = refl

absent_unless : {X : Type 0} (b : Bool) (x : Option X) (o : Option (Option X)) → Some x ≡ (if b then o else Some None) → (is_none x || b) ≡ true
absent_unless true None o e = refl
absent_unless true (Some x) o e = refl
absent_unless false None o e = refl
absent_unless false (Some x) o e = absurd cc

passes_if : {X : Type 0} (test : X → Bool) (b : Bool) (x : Option X) (o : Option (Option X)) → Yields (λ y. passes test y ≡ true) o → Some x ≡ (if b then o else Some None) → passes test x ≡ true
passes_if test true x o h e = h x (sym e)
passes_if test false x o h e = some_same (λ y. passes test y ≡ true) None x refl (sym e)

pub item_is : (d : Data) (kind actions : ℕ) (identifier : Option (Option AddressName)) (limits : Option AskedLimits) → Some actions ≡ actions_in d → Some identifier ≡ identifier_in kind d → Some limits ≡ limits_in kind d → has_actions kind actions ≡ true → (is_some identifier || not (kind == 3)) ≡ true → Some (item_with kind actions identifier limits) ≡ item_of_kind d kind
item_is d kind actions identifier limits a i l h n =
    let x = absent_if (kind == 2) identifier _ i in
    let y = absent_unless (kind == 3) limits _ l in
    let z = passes_if are_limits (kind == 3) limits _ (yields_optional are_limits _ (codes "limits") d are_limits_in) l in
    rw (← a, ← i, ← l, h, n, x, y, z) refl
