-- What readers answer.
use Rattle.std.proofs.Common.{◌≡◌, ℕ, List, Bool, true, false, ◌&&◌, Option, Some, None, Result, Ok, Err, if◌then◌else◌, refl}
use Rattle.std.specs.Result.{IsErrAnd}
use Rattle.op_names.specs.Forms.{is_origin, is_path}
use Rattle.op_names.specs.Names.{text_if, address_at, row_at}
use Rattle.op_names.specs.Readers.{Reads}
use Rattle.op_names.specs.declared.Id.{Id}
use Rattle.op_names.specs.declared.NameFault.{NameFault}
use Rattle.op_names.specs.declared.NameFault.TheVariants.{Shape, Memory}

-- a part that is refused refuses the whole
refused : {A B : Type 0} (part : Option A) (whole : Option B) (fault : NameFault) → (part ≡ None → whole ≡ None) → Reads part (Err fault) → Reads whole (Err fault)
refused part whole Shape go h = go h
refused part whole Memory go h = tt

-- the same, where the part's fault is returned
pub refused_exit : {A B : Type 0} (part : Option A) (whole : Option B) (r : Result B NameFault) (fault : NameFault) → IsErrAnd r (λ f. f ≡ fault)
    → (part ≡ None → whole ≡ None) → Reads part (Err fault) → Reads whole r
refused_exit part whole (Ok x) fault is go h = absurd is
refused_exit part whole (Err other) fault is go h = rw is (refused part whole fault go h)

none_chosen : {T : Type 0} (a : Bool) (x : T) → (if a then Some x else None) ≡ None → a ≡ false
none_chosen true x h = cc h
none_chosen false x h = refl

some_chosen : {T : Type 0} (a : Bool) (x y : T) → (if a then Some x else None) ≡ Some y → (a ≡ true) × (x ≡ y)
some_chosen true x y h = (refl, cc h)
some_chosen false x y h = (cc h, cc h)

second_fails : {T : Type 0} (a b : Bool) (x : T) → b ≡ false → (if a && b then Some x else None) ≡ None
second_fails true b x h = rw h refl
second_fails false b x h = refl

pub not_form : (form : List ℕ → Bool) (text : List ℕ) → text_if form text ≡ None → form text ≡ false
not_form form text h = none_chosen (form text) text h

pub of_form : (form : List ℕ → Bool) (text read : List ℕ) → text_if form text ≡ Some read → (form text ≡ true) × (text ≡ read)
of_form form text read h = some_chosen (form text) text read h

pub no_address : (origin path : List ℕ) → text_if is_origin origin ≡ None → address_at origin path ≡ None
no_address origin path h = second_fails (is_path path) (is_origin origin) (record { origin = origin; path = path }) (not_form is_origin origin h)

pub an_address : (origin path read_origin read_path : List ℕ) → text_if is_origin origin ≡ Some read_origin → text_if is_path path ≡ Some read_path
    → address_at origin path ≡ Some (record { origin = read_origin; path = read_path })
an_address origin path read_origin read_path o p =
    let at = of_form is_origin origin read_origin o in
    let on = of_form is_path path read_path p in
    rw (on.0, at.0, at.1, on.1) refl

pub no_row : (origin : List ℕ) (id : Id) → text_if is_origin origin ≡ None → row_at origin (Some id) ≡ None
no_row origin id h = rw (not_form is_origin origin h) refl

pub a_row : (origin read : List ℕ) (id : Id) → text_if is_origin origin ≡ Some read → row_at origin (Some id) ≡ Some (record { origin = read; id = id })
a_row origin read id h = let at = of_form is_origin origin read h in rw (at.0, at.1) refl
