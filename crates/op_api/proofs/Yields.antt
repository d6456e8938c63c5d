-- What holds of all that an option, or a result, gives.
use Rattle.std.proofs.Common.{◌≡◌, Bool, true, false, List, ℕ, Some, None, Ok, Err, refl, subst}
use Rattle.std.specs.Prelude.{◌&&◌, if◌then◌else◌, option_and_then, option_map, ok_or}
use Rattle.std.specs.Option.{option_map_or}
use Rattle.std.specs.declared.option.Option.{Option}
use Rattle.std.specs.declared.result.Result.{Result}
use Rattle.serde_json.specs.Data.{Data}
use Rattle.op_model.specs.Asking.{◌>>=◌}
use Rattle.op_model.specs.Json.{optional_in, or_bad}
use Rattle.op_model.specs.Legal.{passes}
use Rattle.op_model.specs.Members.{optional_of}
use Rattle.op_model.specs.declared.reply.Refusal.{Refusal}

abbrev pub Yields : {X : Type 0} → (X → Type 0) → Option X → Type 0
Yields P o = (x : _) → o ≡ Some x → P x

abbrev pub Gives : {X : Type 0} → (X → Type 0) → Result X Refusal → Type 0
Gives P r = (x : _) → r ≡ Ok x → P x

pub both : (a b : Bool) → a ≡ true → b ≡ true → (a && b) ≡ true
both a b x y = rw (x, y) refl

pub some_same : {X : Type 0} (P : X → Type 0) (x y : X) → P x → Some x ≡ Some y → P y
some_same P x y p e = let same : x ≡ y = cc in subst P same p

pub yields_then : {X Y : Type 0} (Q : X → Type 0) (P : Y → Type 0) (f : X → Option Y) (o : Option X) → Yields Q o → ((x : X) → Q x → Yields P (f x)) → Yields P (option_and_then f o)
yields_then Q P f None h k y e = absurd cc
yields_then Q P f (Some x) h k y e = k x (h x refl) y e

pub yields_map : {X Y : Type 0} (Q : X → Type 0) (P : Y → Type 0) (f : X → Y) (o : Option X) → Yields Q o → ((x : X) → Q x → P (f x)) → Yields P (option_map f o)
yields_map Q P f None h k y e = absurd cc
yields_map Q P f (Some x) h k y e = some_same P (f x) y (k x (h x refl)) e

-- a test that is passed
pub yields_if : {X : Type 0} (P : X → Type 0) (b : Bool) (x : X) → (b ≡ true → P x) → Yields P (if b then Some x else None)
yields_if P true x h y e = some_same P x y (h refl) e
yields_if P false x h y e = absurd cc

there : {X : Type 0} (test : X → Bool) (form : Data → Option X) (o : Option Data) → ((v : Data) → Yields (λ x. test x ≡ true) (form v)) → Yields (λ x. passes test x ≡ true) (option_map_or (λ v. option_map (λ x. Some x) (form v)) o (Some None))
there test form None h y e = some_same (λ x. passes test x ≡ true) None y refl e
there test form (Some v) h y e = yields_map (λ x. test x ≡ true) (λ x. passes test x ≡ true) (λ x. Some x) (form v) (h v) (λ x t. t) y e

-- an optional member passes where each value of its form does
pub yields_optional : {X : Type 0} (test : X → Bool) (form : Data → Option X) (name : List ℕ) (d : Data) → ((v : Data) → Yields (λ x. test x ≡ true) (form v)) → Yields (λ x. passes test x ≡ true) (optional_of form name d)
yields_optional test form name d h = there test form (optional_in name d) h

pub gives_then : {X Y : Type 0} (Q : X → Type 0) (P : Y → Type 0) (f : X → Result Y Refusal) (r : Result X Refusal) → Gives Q r → ((x : X) → Q x → Gives P (f x)) → Gives P (r >>= f)
gives_then Q P f (Ok x) h k y e = k x (h x refl) y e
gives_then Q P f (Err refusal) h k y e = absurd cc

pub gives_required : {X : Type 0} (P : X → Type 0) (o : Option X) (refusal : Refusal) → Yields P o → Gives P (ok_or o refusal)
gives_required P (Some x) refusal h y e = let same : x ≡ y = cc in subst P same (h x refl)
gives_required P None refusal h y e = absurd cc

-- a required member
pub gives_member : {X Y : Type 0} (Q : X → Type 0) (P : Y → Type 0) (name : List ℕ) (o : Option X) (f : X → Result Y Refusal) → Yields Q o → ((x : X) → Q x → Gives P (f x)) → Gives P (or_bad name o >>= f)
gives_member Q P name o f h k = gives_then Q P f (or_bad name o) (gives_required Q o _ h) k
